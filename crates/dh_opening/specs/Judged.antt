-- Records that are read row by row, each judged as it is read.
use Rattle.std.specs.Prelude.{◌≡◌, ℕ, Option, Some, None, List, [], ◌∷◌, ◌++◌}
use Rattle.std.specs.List.{AllByRecursion}
use Rattle.sqlite_value.specs.Order.{Row}
use Rattle.sqlite.specs.Effect.{Database}
use Rattle.dh_rows.specs.Keyed.{Coding}
use Rattle.dh_opening.specs.Opening.{AreKept, IsKeptAs, StandFor}

-- this is the last of the rows
abbrev pub IsNewest : Option Row → List Row → Type 0
IsNewest None rows = rows ≡ []
IsNewest (Some last) rows = (front : List Row) × (rows ≡ front ++ last ∷ [])

module _ {X : Type 0} (c : Coding X) (IsTyped IsFit : X → Type 0) where
  -- the row keeps this record, which is fit
  abbrev pub KeepsFitOne : Row → X → Type 0
  KeepsFitOne row x = IsKeptAs c IsTyped row x × IsFit x

  -- the rows keep these records, each of which is fit
  pub record AreFitRows (rows : List Row) (xs : List X) : Type 0 where
    pub kept : AreKept c IsTyped rows xs
    pub fit : AllByRecursion IsFit xs

  -- the rows of the table of this name stand for these records, each of which is fit
  pub record StandFit (name : List ℕ) (db : Database) (xs : List X) : Type 0 where
    pub stand : StandFor c IsTyped name db xs
    pub fit : AllByRecursion IsFit xs
