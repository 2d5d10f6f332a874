-- How long the body of a request is, by its head (RFC 9112, section 6).
use Rattle.std.specs.Prelude.{ℕ, Bool, false, ◌&&◌, List, [], ◌∷◌, Option, Some, None, Result, Ok, Err, if◌then◌else◌, nat_le}
use Rattle.std.specs.List.{list_all}
use Rattle.std.specs.Str.Parse.{digits_value}
use Rattle.dh_texts.specs.Texts.{is_digit}
use Rattle.dh_requests.specs.declared.length.LengthFault.{LengthFault}
use Rattle.dh_requests.specs.declared.length.LengthFault.TheVariants.{Untold, Wrong, TooLarge}
use Rattle.dh_requests.specs.declared.length.TheConstants.{MOST_BODY_BYTES}

-- one or more digits
abbrev pub is_number : List ℕ → Bool
is_number [] = false
is_number (b ∷ text) = is_digit b && list_all is_digit text

-- the number, if a body may have this many bytes: at most 4,194,304
abbrev pub limited : ℕ → Result ℕ LengthFault
limited number = if nat_le number MOST_BODY_BYTES then Ok number else Err TooLarge

-- the length that the value of a Content-Length line tells (RFC 9110, section 8.6)
abbrev pub told_length : List ℕ → Result ℕ LengthFault
told_length value = if is_number value then limited (digits_value 10 value) else Err Wrong

-- the length by the lines of Transfer-Encoding and of Content-Length: a body in a transfer coding
-- is refused, and so are two lines
abbrev pub body_length :
    Option (Option (List ℕ)) → Option (Option (List ℕ)) → Result ℕ LengthFault
body_length (Some None) (Some (Some value)) = told_length value
body_length (Some None) (Some None) = Err Untold
body_length (Some None) None = Err Wrong
body_length (Some (Some coding)) lines = Err Untold
body_length None lines = Err Untold

-- the status of a request that is refused for the length of its body (RFC 9110, section 15.5)
abbrev pub length_status : LengthFault → ℕ
length_status Untold = 411
length_status Wrong = 400
length_status TooLarge = 413
