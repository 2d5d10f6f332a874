use Rattle.std.proofs.Common.{IfOk, ◌≡◌, subst}
use Rattle.std.specs.Option.{option_copied}
use Rattle.dh_class_names.proofs.HighestLemmas.{opened_is}
use Rattle.dh_class_names.proofs.highest.with_grant.Goals as goal

pub returns-then-row : goal.returns-then-row
returns-then-row c = λ up.
    subst (λ a. IfOk c.higher_of.result (λ o. option_copied o ≡ a))
    (opened_is (option_copied c.args.best) c.args.rows.now c.in-Some.row.now c.as_str.result.now c.args.grant.now.slug c.as_str.ensures.text (c.in-Some.ensures up) c.if-row.true) c.higher_of.ensures
