use Rattle.std.proofs.Common.{◌≡◌, sym, ◌∙◌, ap, arith, Some}
use Rattle.dh_rows.proofs.Found.{found_at, unreferred}
use Rattle.dh_rows.proofs.places.place_of.Goals as goal

pub returns-then-is_unmentioned : goal.returns-then-is_unmentioned
returns-then-is_unmentioned c =
    let same : c.in_ok-first.first ≡ c.in_ok-at.at = omega (arith, c.if-first-at.false) in (
      _,
      found_at c.args.schema.now c.args.name.now c.in_ok-at.at _ (sym c.in_ok-at.ensures) (sym c.in_ok-table.ensures.value) (sym c.in_ok-first.ensures ∙ ap Some same),
      omega (arith, c.if-table-ge-COMPUTED.false),
      unreferred c.args.schema.now c.args.name.now _ (sym c.all_bear.ensures ∙ c.if-all_bear.true) (c.is_unmentioned.ensures.0 c.if-is_unmentioned.true),
    )
