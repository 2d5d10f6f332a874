use Rattle.dh_renewal.proofs.FillingLemmas.{derives_all}
use Rattle.dh_renewal.proofs.filling.derive.Goals as goal

pub returns : goal.returns
returns g c =
    derives_all g.S.Store c.args.tables.now c.prepare.new.tables c.commit.new.self c.prepare.ensures.lasts c.prepare.ensures.kept c.prepare.ensures.quiet c.in_ok-prepare.ensures.ready
    c.in_ok-commit.ensures.commits c.in_ok-commit.ensures.crash c.show_ours.ensures
