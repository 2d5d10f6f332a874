use Rattle.std.proofs.Common.{sym}
use Rattle.dh_files.proofs.SettleLemmas.{served_after}
use Rattle.dh_files.proofs.files.open_tables.Goals as goal

pub open-requires-in-Ok : goal.open-requires-in-Ok
open-requires-in-Ok g c = record {
  settled = λ honest. record { outside = (c.in-Ok.ensures.opened honest.0).2; same = sym (c.in-Ok.ensures.last honest.0) };
  sound = λ honest. let sound = c.in-Ok.ensures.sound honest.0 in record { order = sound.0; constraints = sound.1 };
}

pub returns-in-Ok-open : goal.returns-in-Ok-open
returns-in-Ok-open g c = record {
  opened = served_after g.S.Store c.args.conn c.count_projects-projects.new.conn c.in-Ok.tables c.in-Ok-open.desk.tables (c.count_projects-projects.ensures.same c.requires) c.in-Ok.ensures.opened c.in-Ok.ensures.brought c.in-Ok.ensures.sound c.in-Ok-open.ensures.opened;
}
