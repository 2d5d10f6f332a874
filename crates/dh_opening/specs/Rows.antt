-- Rows of which only some values are looked at.
use Rattle.std.specs.Prelude.{◌≡◌, ℕ, List, [], ◌∷◌, map, Option, IfSome}
use Rattle.std.specs.declared.cmp.Ordering.TheVariants.{Less}
use Rattle.sqlite_value.specs.Order.{Row, column, row_cmp}

-- the values at some places, which are counted from 0
abbrev pub part : List ℕ → Row → Row
part places row = map (column row) places

-- the row stands behind the last one, by its first four values
abbrev pub IsNext : Option Row → Row → Type 0
IsNext last row = IfSome last (λ l. row_cmp (part (0 ∷ 1 ∷ 2 ∷ 3 ∷ []) l) (part (0 ∷ 1 ∷ 2 ∷ 3 ∷ []) row) ≡ Less)
