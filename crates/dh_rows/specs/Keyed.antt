-- A table as the list of its records, in the order of their keys.
use Rattle.std.specs.Prelude.{◌≡◌, zero, pos, Bool, true, false, not, if◌then◌else◌, List, ◌∷◌, map, filter}
use Rattle.std.specs.declared.cmp.Ordering.{Ordering}
use Rattle.std.specs.Ordering.{is_eq, on}
use Rattle.std.specs.List.{AllByRecursion}
use Rattle.sqlite_value.specs.declared.value.Value.{Value}
use Rattle.sqlite_value.specs.declared.value.Value.TheVariants.{Int}
use Rattle.sqlite_value.specs.Order.{Row, value_cmp, row_cmp}
use Rattle.sqlite_trees.specs.Tree.{rowid, IsAscending}
use Rattle.sqlite_rules.specs.Edit.{id_in}
use Rattle.sqlite_keyed.specs.Lists.{sort_by, insert_sorted}

-- the values have the same place in the order of values: equal texts, equal integers, equal blobs
abbrev pub same_value : Value → Value → Bool
same_value a b = is_eq (value_cmp a b)

-- how a flag is kept, and how it is read
abbrev pub flag : Bool → Value
flag b = Int (if b then pos 1 else pos 0)

abbrev pub is_set : Value → Bool
is_set (Int (pos zero)) = false
is_set _ = true

-- How a record is kept: its columns, the record that a stored row stands for (whose column 0 is the rowid), and the key by which
-- the list of records is in order, part by part.
pub record Coding (X : Type 0) : Type 0 where
  pub encode : X → Row
  pub decode : Row → X
  pub key : X → Row

module _ {X : Type 0} (key : X → Row) where
  -- the order of keys: part by part, integers by value and texts by their bytes
  abbrev pub by_key : X → X → Ordering
  by_key = on key row_cmp

  abbrev pub same_key : X → X → Bool
  same_key x y = is_eq (by_key x y)

  -- no record of the list has the key of this one
  abbrev pub IsFreeKey : X → List X → Type 0
  IsFreeKey x = AllByRecursion (λ y. same_key x y ≡ false)

  -- the list with the record put in, in the order of keys
  abbrev pub added : X → List X → List X
  added = insert_sorted by_key

  -- the list with the record in place of one that has its key, in the order of keys
  abbrev pub put : X → List X → List X
  put x xs = insert_sorted by_key x (filter (λ y. not (same_key x y)) xs)

module _ {X : Type 0} (c : Coding X) where
  -- the row is a rowid and then the columns of the record that it stands for
  abbrev pub IsCoded : Row → Type 0
  IsCoded row = row ≡ Int (id_in (rowid row)) ∷ c.encode (c.decode row)

  -- each row stands for a record, and no two have one rowid or one key
  pub record IsTableOf (rows : List Row) : Type 0 where
    pub coded : AllByRecursion IsCoded rows
    pub apart : IsAscending (λ a b. is_eq (value_cmp (rowid a) (rowid b)) ≡ false) rows
    pub keyed : IsAscending (λ a b. same_key c.key a b ≡ false) (map c.decode rows)

  -- the records of the rows, in the order of their keys
  abbrev pub records_in_rows : List Row → List X
  records_in_rows rows = sort_by (by_key c.key) (map c.decode rows)
