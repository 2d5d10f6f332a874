use Rattle.std.proofs.Common.{rules, arith}
use Rattle.std.proofs.lemmas.Grind.{common_steps}
use Rattle.dh_ports.proofs.Written.{appends_more, fine_after}
use Rattle.dh_ports.proofs.sink.put_all.Goals as goal

pub loop-at-preserved : goal.loop-at-preserved
loop-at-preserved g c = record {
  within = search rules;
  out = appends_more _ _ _ c.args.bytes.now _ c.loop-at.at c.in-Ok.count (grind (arith, common_steps)) c.loop-at.invariant.out c.in-Ok.ensures.bytes;
  fine = fine_after _ _ _ _ c.loop-at.invariant.fine c.in-Ok.count-test.1 c.in-Ok.ensures.failed;
}
