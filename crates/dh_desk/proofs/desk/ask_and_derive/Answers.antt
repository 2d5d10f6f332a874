use Rattle.std.proofs.Common.{◌∙◌, subst, sym}
use Rattle.dh_records.specs.Constraints.{AreSound}
use Rattle.dh_desk.proofs.Asking.{asked, unasked}
use Rattle.dh_desk.proofs.desk.ask_and_derive.Goals as goal

pub returns-in_err-ask : goal.returns-in_err-ask
returns-in_err-ask g c = unasked g.S.Store c.args.tables.now c.ask.new.self _ c.from_residual.result c.from_residual.ensures.1 c.ask.ensures.asks c.ask.ensures.quiet

pub derive-requires : goal.derive-requires
derive-requires g c = record {
  settled = λ honest.
      let here = c.in_ok-ask.ensures.asks.same honest.0 in
      let was = c.requires.settled here.was_honest in record {
        outside = here.mode ∙ was.outside;
        same = here.now_is ∙ was.same ∙ sym here.last_is;
      };
  sound = λ honest.
      let here = c.in_ok-ask.ensures.asks.same honest.0 in
      subst AreSound (sym here.last_is) (c.requires.sound here.was_honest);
}

pub returns : goal.returns
returns g c = asked g.S.Store c.args.tables.now c.ask.new.self c.derive.new.tables c.derive.result c.in_ok-ask.ensures.asks c.ask.ensures.quiet c.derive.ensures
