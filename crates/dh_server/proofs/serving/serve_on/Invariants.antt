use Rattle.std.proofs.Common.{◌≡◌, ◌≤◌, ◌-◌, true, false}
use Rattle.dh_http.specs.Desk.{WorldGoesBy}
use Rattle.dh_log.specs.Logs.{TellsMany}
use Rattle.dh_server.specs.Serving.{AsksClock, CountsExactly, HandsOn}
use Rattle.dh_server.specs.Turns.{ServesInTurn}
use Rattle.dh_server.proofs.serving.serve_on.Given as goal

abbrev pub invariant-loop-asked : goal.invariant-loop-asked
invariant-loop-asked g l = record {
  callable : goal.C-IsAlwaysCallable g l.clock;
  asks : CountsExactly (g.N.Listen.asked l.fn.listener) (g.N.Listen.asked l.listener) l.asked;
  clocked : AsksClock (goal.C-step g) l.fn.clock l.clock l.asked;
  few : l.asked ≤ l.count;
  some : l.answered ≤ l.asked;
  hears : HandsOn (g.N.Listen.messages l.fn.listener) (g.N.Listen.messages l.listener) (g.K.Control.handed l.fn.control) (g.K.Control.handed l.control);
  shut : l.fn.desk.closed ≡ true → (l.asked ≡ 0) × (l.desk.closed ≡ true);
  serves : WorldGoesBy g.S.Store l.fn.desk l.desk (ServesInTurn (goal.C-step g) l.fn.clock l.clock g.K.Control.does l.asked l.answered);
  tells : TellsMany g.L.Write.contents l.fn.log l.log l.asked;
}

abbrev pub decreases-loop-asked : goal.decreases-loop-asked
decreases-loop-asked g l = l.count - l.asked

abbrev pub invariant-refusals : goal.invariant-refusals
invariant-refusals g l = record {
  callable : goal.C-IsAlwaysCallable g l.clock;
  asks : CountsExactly (g.N.Listen.asked l.fn.listener) (g.N.Listen.asked l.listener) l.asked;
  clocked : AsksClock (goal.C-step g) l.fn.clock l.clock l.asked;
  few : l.asked ≤ l.count;
  some : l.answered ≤ l.asked;
  hears : HandsOn (g.N.Listen.messages l.fn.listener) (g.N.Listen.messages l.listener) (g.K.Control.handed l.fn.control) (g.K.Control.handed l.control);
  shut : l.fn.desk.closed ≡ true → l.asked ≡ 0;
  all : l.desk.closed ≡ false → l.asked ≡ l.count;
  serves : WorldGoesBy g.S.Store l.fn.desk l.desk (ServesInTurn (goal.C-step g) l.fn.clock l.clock g.K.Control.does l.asked l.answered);
  tells : TellsMany g.L.Write.contents l.fn.log l.log l.asked;
}

abbrev pub decreases-refusals : goal.decreases-refusals
decreases-refusals g l = l.count - l.asked
