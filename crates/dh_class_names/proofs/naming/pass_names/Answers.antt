use Rattle.std.proofs.Common.{Some, ap, ◌∙◌}
use Rattle.std.specs.Option.{option_copied}
use Rattle.dh_class_names.proofs.NamingLemmas.{same_named, pass_are}
use Rattle.dh_class_names.proofs.naming.pass_names.Goals as goal

pub returns : goal.returns
returns c = λ p it highest.
    same_named _ _ _ _ (ap Some c.in_ok-try_copy.ensures)
    (c.in_ok-names_for.ensures it.rise
    ∙ pass_are p c.args.branch.now c.args.rows.now c.args.held.now c.args.picks.now it (option_copied c.in_ok-stable.stable) c.args.pass.now c.grants_of-grants.result.now
    (c.grants_of-grants.ensures it.by_pass) (c.in_ok-stable.ensures it.rise highest))
