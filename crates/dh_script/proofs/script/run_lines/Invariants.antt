use Rattle.std.proofs.Common.{◌≡◌, false, map}
use Rattle.dh_desk.specs.Desk.{WorldGoesBy}
use Rattle.dh_script.specs.Running.{RunsBut, words_seen, worded}
use Rattle.dh_script.proofs.script.run_lines.Given as goal

abbrev pub invariant-loop-line : goal.invariant-loop-line
invariant-loop-line g l = record {
  fine : g.W.Sink.broken l.sink ≡ false;
  ran : WorldGoesBy g.S.Store l.fn.desk l.desk
      (λ before after. RunsBut l.fn.now before (worded (map (λ x. x.now) l.yielded)) after (g.W.Sink.held l.fn.sink) (g.W.Sink.held l.sink) (words_seen l.batch.items));
}
