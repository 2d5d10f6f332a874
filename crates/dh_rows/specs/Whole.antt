-- What two queries of a whole table answer, one of its rowids and one of its rows.
use Rattle.std.specs.Prelude.{◌≡◌, ℤ, Bool, true, List, [], ◌∷◌, map, Option, Some, None, int_lt}
use Rattle.std.specs.declared.cmp.Ordering.TheVariants.{Less}
use Rattle.std.specs.List.{AllByRecursion}
use Rattle.sqlite_value.specs.declared.value.Value.TheVariants.{Int}
use Rattle.sqlite_value.specs.Order.{Row, value_cmp}
use Rattle.sqlite_trees.specs.Tree.{rowid, IsAscending}
use Rattle.dh_rows.specs.Keyed.{Coding, by_key}

-- a row of one integer
abbrev pub IsRowid : Row → Type 0
IsRowid row = (n : ℤ) × (row ≡ Int n ∷ [])

-- What a query of all rowids answers: integers, each above those before it.
pub record AreRowids (ids : List Row) : Type 0 where
  pub ints : AllByRecursion IsRowid ids
  pub rise : IsAscending (λ a b. value_cmp (rowid a) (rowid b) ≡ Less) ids

module _ {X : Type 0} (c : Coding X) where
  -- The rowids and the rows of a table, by two queries, are those of these records, whose keys rise.
  pub record SpellsRecords (ids rows : List Row) (xs : List X) : Type 0 where
    pub ids_are : AreRowids ids
    pub rows_are : rows ≡ map c.encode xs
    pub rise : IsAscending (λ x y. by_key c.key x y ≡ Less) xs

-- ---- deciding whether rows are rowids, one row after the other

-- the integer that is all of a row
abbrev pub lone_int : Row → Option ℤ
lone_int (Int n ∷ []) = Some n
lone_int _ = None

-- the rowid is above the last one, if there was one
abbrev pub is_above : Option ℤ → ℤ → Bool
is_above None id = true
is_above (Some last) id = int_lt last id
