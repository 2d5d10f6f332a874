use Rattle.std.proofs.Common.{◌≡◌, ℕ, List, Bor, map, length, refl, arith}
use Rattle.std.proofs.lemmas.List.{length-map}
use Rattle.sqlite_schema.specs.declared.schema.Kind.{Kind}
use Rattle.sqlite_schema.specs.declared.schema.Column.{Column}
use Rattle.dh_rows.specs.Places.{needed}
use Rattle.dh_rows.proofs.ShapeLemmas.{same_at_each}
use Rattle.dh_rows.proofs.table_shape.are_columns.Goals as goal

pub returns : goal.returns
returns c =
    let column_of : Bor (List ℕ) × Kind → Column = λ m. needed m.1 m.0.now in
    let many : length c.args.columns.now ≡ length (map column_of c.args.made.now) = omega (arith, length-map c.args.made.now column_of) in
    (λ h. same_at_each c.args.columns.now (map column_of c.args.made.now) many (λ k within. c.loop-at.invariant k (omega arith)), λ h. refl)
