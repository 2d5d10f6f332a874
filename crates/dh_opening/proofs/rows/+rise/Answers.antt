use Rattle.std.proofs.Common.{◌∙◌, sym}
use Rattle.sqlite_value.specs.Order.{row_cmp}
use Rattle.dh_opening.specs.Rows.{part}
use Rattle.dh_opening.proofs.Rising.{as_less, one_more, part_total}
use Rattle.dh_opening.proofs.rows.+rise.Goals as goal

pub returns-then-is_lt : goal.returns-then-is_lt
returns-then-is_lt t c =
    let places = c.args.places.now in
    one_more (λ a b. row_cmp (part places a) (part places b)) (part_total places) c.args.rows.now c.first-item.result c.in-Some.second.now c.rise.result c.first-item.is c.in-Some.ensures.value
    (sym c.compare_at.ensures ∙ as_less c.compare_at.result (sym c.is_lt.ensures ∙ c.if-is_lt.true)) c.rise.ensures
