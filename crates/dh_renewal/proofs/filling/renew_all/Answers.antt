use Rattle.std.proofs.Common.{ap, ◌∙◌}
use Rattle.dh_records.specs.Lists.{base_of}
use Rattle.dh_tables.specs.Going.{records}
use Rattle.dh_renewal.proofs.SameBase.{same_sound}
use Rattle.dh_renewal.proofs.filling.renew_all.Goals as goal

pub renew_projects-requires-clause-sound : goal.renew_projects-requires-clause-sound
renew_projects-requires-clause-sound g c honest =
    let was = c.clear.ensures.makes.goes.lasts.was honest in
    same_sound (records g.S.Store c.clear.new.tables) (records g.S.Store c.args.tables.now)
    (ap base_of (c.in_ok-clear.ensures.makes.sees.now_is honest ∙ ap base_of (c.in_ok-projects.ensures.asks.looks.now_is was)))
    (c.requires.sound (c.projects_of.ensures.asks.goes.lasts.was was))
