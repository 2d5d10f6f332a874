use Rattle.dh_rows.proofs.Calls.{only_begins}
use Rattle.dh_rows.proofs.statements.begin.Goals as goal

pub returns : goal.returns
returns g c =
    only_begins g.S.Store c.args.conn.now c.run.new.conn c.run.result c.run.ensures.survives c.run.ensures.runs
    c.run.ensures.lasts c.run.ensures.err c.run.ensures.told
