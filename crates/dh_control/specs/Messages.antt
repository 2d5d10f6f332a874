-- What a client sends to a server.
use Rattle.std.specs.Prelude.{ℕ, ◌+◌, ◌-◌, ◌==◌, Bool, List, [], ◌∷◌, ◌++◌, Option, Some, None}
use Rattle.std.specs.Prelude.{length, take, drop, position, slice_index, codes, nat_eq, if◌then◌else◌, option_and_then}
use Rattle.std.specs.List.{join_by, starts_with}
use Rattle.std.specs.Option.{option_map}
use Rattle.dh_world.specs.World.{Text}

-- the byte that ends a message; it stands in no text
abbrev pub end_byte : ℕ
end_byte = 255

-- the message without its last byte; none where that byte does not end it, as in a message that was cut
abbrev pub body_of : Text → Option Text
body_of message =
    if slice_index message (length message - 1) == end_byte then Some (take (length message - 1) message)
    else None

-- what stands behind a mark, where the bytes begin with it
abbrev pub behind : Text → Text → Option Text
behind mark bytes = if starts_with nat_eq bytes mark then Some (drop (length mark) bytes) else None

-- what each message of this version begins with; the name of the file that it is for follows, and LF
abbrev pub version_mark : Text
version_mark = codes "docs_host 2 "

abbrev pub head_of : Text → Text
head_of file = version_mark ++ file ++ 10 ∷ []

-- what stands behind the head of a body that is for this file
abbrev pub rest_for : Text → Text → Option Text
rest_for file body =
    option_and_then (behind (10 ∷ [])) (option_and_then (behind file) (behind version_mark body))

-- what stands in front of the words of one order
abbrev pub words_mark : Text
words_mark = codes "words\n"

-- what stands in front of one line of a script
abbrev pub line_mark : Text
line_mark = codes "line\n"

-- what stands in front of a host and a list of redirects for its project
abbrev pub import_mark : Text
import_mark = codes "import\n"

-- the byte that stands between each two words, and between the host and the list
abbrev pub is_nul : ℕ → Bool
is_nul byte = nat_eq byte 0

-- words, a NUL between each two
abbrev pub words_joined : List Text → Text
words_joined = join_by (λ word. word) (0 ∷ [])

-- the host and the list behind the first NUL
abbrev pub host_and_list : Text → Option (Text × Text)
host_and_list sent = option_map (λ at. (take at sent, drop (at + 1) sent)) (position is_nul sent)

-- what a client sends to the server of a file to have words of the program done, a line of a script, and an import of a list
abbrev pub words_message : Text → List Text → Text
words_message file words = head_of file ++ words_mark ++ words_joined words ++ end_byte ∷ []

abbrev pub line_message : Text → Text → Text
line_message file line = head_of file ++ line_mark ++ line ++ end_byte ∷ []

abbrev pub import_message : Text → Text → Text → Text
import_message file host list = head_of file ++ import_mark ++ host ++ 0 ∷ list ++ end_byte ∷ []
