use Rattle.dh_log.proofs.Written.{none_put}
use Rattle.dh_log.proofs.log.Log.write_entry.Goals as goal

pub returns-in-Err-clause-err : goal.returns-in-Err-clause-err
returns-in-Err-clause-err g c = none_put (g.W.Write.contents c.args.self.now.writer) c.args.self.now.has_levels c.args.self.now.missed c.args.entry.now
