use Rattle.std.proofs.Common.{rules, arith}
use Rattle.std.proofs.lemmas.Grind.{common_steps}
use Rattle.dh_ports.proofs.Written.{appends_more}
use Rattle.dh_log.proofs.log.write_whole.Goals as goal

pub loop-at-preserved : goal.loop-at-preserved
loop-at-preserved g c = record {
  within = search rules;
  out = appends_more _ _ _ c.args.bytes.now _ c.loop-at.at c.in-Ok.count (grind (arith, common_steps)) c.loop-at.invariant.out c.in-Ok.ensures.bytes;
}
