-- What a line tells of the first line of a request: the method, and the path without its query.
use Rattle.std.specs.Prelude.{ℕ, ◌+◌, Bool, List, [], take, drop, position, Option, Some, None, codes, nat_eq, if◌then◌else◌}
use Rattle.std.specs.List.{starts_with}
use Rattle.std.specs.Str.{is_utf8}

abbrev pub is_space : ℕ → Bool
is_space byte = nat_eq byte 32

abbrev pub is_question_mark : ℕ → Bool
is_question_mark byte = nat_eq byte 63

-- what stands before the place, or all where there is no place
abbrev pub up_to : Option ℕ → List ℕ → List ℕ
up_to None bytes = bytes
up_to (Some at) bytes = take at bytes

-- what stands behind the place, or nothing where there is no place
abbrev pub behind_space : Option ℕ → List ℕ → List ℕ
behind_space None line = []
behind_space (Some at) line = drop (at + 1) line

abbrev pub first_word : List ℕ → List ℕ
first_word line = up_to (position is_space line) line

abbrev pub other_words : List ℕ → List ℕ
other_words line = behind_space (position is_space line) line

-- the bytes as a text; none where they are not UTF-8
abbrev pub text_in : List ℕ → List ℕ
text_in bytes = if is_utf8 bytes then bytes else []

-- the third word of a request line names the protocol (RFC 9112, section 3); what is no such line may be one that has a key
abbrev pub is_request_line : List ℕ → Bool
is_request_line line = starts_with nat_eq (first_word (other_words (other_words line))) (codes "HTTP/")

abbrev pub path_of : List ℕ → List ℕ
path_of target = up_to (position is_question_mark target) target

abbrev pub method_in : List ℕ → List ℕ
method_in line = if is_request_line line then text_in (first_word line) else []

abbrev pub path_in : List ℕ → List ℕ
path_in line = if is_request_line line then text_in (path_of (first_word (other_words line))) else []
