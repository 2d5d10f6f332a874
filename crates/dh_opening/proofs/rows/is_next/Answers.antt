use Rattle.std.proofs.Common.{◌↔◌, ◌∙◌, IsTrue, Some, ap, is_lt, option_copied, subst, sym}
use Rattle.dh_opening.specs.Rows.{IsNext}
use Rattle.dh_opening.proofs.Rising.{as_less}
use Rattle.dh_opening.proofs.rows.is_next.Goals as goal

pub returns-in-Some : goal.returns-in-Some
returns-in-Some c =
    let both : IsTrue c.is_lt.result ↔ IsNext (Some c.in-Some.last.now) c.args.row.now = ((λ yes. sym c.compare_at.ensures ∙ as_less c.compare_at.result (sym c.is_lt.ensures ∙ yes)), (λ less. c.is_lt.ensures ∙ ap is_lt (c.compare_at.ensures ∙ less))) in
    subst (λ o. IsTrue c.is_lt.result ↔ IsNext (option_copied o) c.args.row.now) (sym c.in-Some.is) both
