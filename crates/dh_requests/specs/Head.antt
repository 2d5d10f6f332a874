-- The head of a request, by the grammar of `httparse` (RFC 9112, sections 2 to 5), and the parts of it that count.
use Rattle.std.specs.Prelude.{◌≡◌, List, ℕ, [], map, Option, Some, None, codes, length, ◌+◌, ◌<◌, ◌++◌}
use Rattle.httparse.specs.Grammar.{RequestHead, IsRequestHead, ReadsRequest, print_request}
use Rattle.httparse.specs.Spans.{name_and_value}
use Rattle.dh_requests.specs.declared.head.Head.{Head}
use Rattle.dh_requests.specs.HeadEnd.{lines_of, head_size}
use Rattle.dh_requests.specs.Fields.{values_named, at_most_one, one_of}

-- the text is this head of the grammar, or no head of the grammar
abbrev pub IsHeadOf : List ℕ → Option RequestHead → Type 0
IsHeadOf text (Some head) = ReadsRequest text head []
IsHeadOf text None = (head : RequestHead) → ¬ (ReadsRequest text head [])

-- the value of the one line of the name, none where there is no line, undefined where there are several
abbrev pub line_named : List ℕ → RequestHead → Option (Option (List ℕ))
line_named name head = at_most_one (values_named name (map name_and_value head.fields))

-- every head that the text begins with has more than `most` fields
abbrev pub HasMoreFields : List ℕ → ℕ → Type 0
HasMoreFields text most =
    (head : RequestHead) (rest : List ℕ) → ReadsRequest text head rest → most < length head.fields

-- what counts of a head: its method, its target, and the value of each line that may stand once: none where the line is
-- missing, and undefined where it stands twice
pub record Parts : Type 0 where
  pub method : List ℕ
  pub target : List ℕ
  pub host : Option (Option (List ℕ))
  pub pass : Option (Option (List ℕ))
  pub key : Option (Option (List ℕ))
  pub length : Option (Option (List ℕ))
  pub coding : Option (Option (List ℕ))

-- the parts of a head of the grammar
abbrev pub parts_of : RequestHead → Parts
parts_of head = record {
  method = head.method;
  target = head.target;
  host = line_named (codes "Host") head;
  pass = line_named (codes "Docs-Pass") head;
  key = line_named (codes "Docs-Key") head;
  length = line_named (codes "Content-Length") head;
  coding = line_named (codes "Transfer-Encoding") head;
}

-- the parts of a head as it was found in a text
abbrev pub parts_found : Head → Parts
parts_found found = record {
  method = found.method.now;
  target = found.target.now;
  host = one_of found.host;
  pass = one_of found.pass;
  key = one_of found.key;
  length = one_of found.length;
  coding = one_of found.coding;
}

-- the text is the head that was found, or where none was found, no head of the grammar
abbrev pub IsReadAs : List ℕ → Option Head → Type 0
IsReadAs text None = IsHeadOf text None
IsReadAs text (Some found) =
    (head : RequestHead) × IsHeadOf text (Some head) × (parts_found found ≡ parts_of head)

-- whatever follows a head of the grammar, its lines end the head where its text ends, with one line for the request and one
-- for each field
abbrev pub HeadEndsByLines : Type 0
HeadEndsByLines =
    (head : RequestHead) (rest : List ℕ) → IsRequestHead head
    → head_size (lines_of (print_request head ++ rest))
    ≡ Some (record { bytes = length (print_request head); lines = 1 + length head.fields })
