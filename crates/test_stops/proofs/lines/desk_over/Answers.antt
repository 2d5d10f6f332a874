use Rattle.std.proofs.Common.{sym}
use Rattle.test_stops.proofs.lines.desk_over.Goals as goal

pub open-requires-in-Ok : goal.open-requires-in-Ok
open-requires-in-Ok g c = record {
  settled = λ honest. record { outside = (c.in-Ok.ensures.opened honest.0).2; same = sym (c.in-Ok.ensures.last honest.0) };
  sound = λ honest. let sound = c.in-Ok.ensures.sound honest.0 in record { order = sound.0; constraints = sound.1 };
}
