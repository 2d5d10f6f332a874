-- Numbers that texts write.
use Rattle.std.specs.Prelude.{ℕ, ◌&&◌, nat_lt, if◌then◌else◌, List, length, Option, Some, None}
use Rattle.std.specs.Char.{is_ascii_digit}
use Rattle.std.specs.List.{list_all}
use Rattle.std.specs.Str.Parse.{digits_value}

-- the number that the text writes, where it is decimal digits alone, at least one, and the number
-- is below the bound
abbrev pub decimal_below : ℕ → List ℕ → Option ℕ
decimal_below bound text =
    if list_all is_ascii_digit text && nat_lt 0 (length text) && nat_lt (digits_value 10 text) bound
    then Some (digits_value 10 text)
    else None
