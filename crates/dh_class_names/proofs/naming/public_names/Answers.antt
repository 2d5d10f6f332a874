use Rattle.std.proofs.Common.{None, refl, ◌∙◌}
use Rattle.std.specs.Option.{option_copied}
use Rattle.dh_class_names.proofs.NamingLemmas.{same_named, public_are}
use Rattle.dh_class_names.proofs.naming.public_names.Goals as goal

pub returns : goal.returns
returns c = λ p held it highest.
    same_named None None _ _ refl (c.in_ok-names_for.ensures it.rise ∙ public_are p c.args.branch.now c.args.rows.now held c.args.picks.now it (option_copied c.args.public) highest)
