use Rattle.std.proofs.Common.{◌≡◌, ◌<◌, ℕ, List, Bor, map, slice_get}
use Rattle.sqlite_schema.specs.declared.schema.Kind.{Kind}
use Rattle.dh_rows.specs.Places.{needed}
use Rattle.dh_rows.proofs.table_shape.are_columns.Given as goal

abbrev pub invariant-loop-at : goal.invariant-loop-at
invariant-loop-at l = (k : ℕ) → k < l.at → slice_get l.columns k ≡ slice_get (map (λ (c : Bor (List ℕ) × Kind). needed c.1 c.0.now) l.made) k
