use Rattle.dh_rows.proofs.Calls.{only_undoes, within}
use Rattle.dh_rows.proofs.statements.rollback.Goals as goal

pub returns : goal.returns
returns g c =
    only_undoes g.S.Store c.args.conn.now c.run.new.conn c.run.result c.run.ensures.survives c.run.ensures.runs
    c.run.ensures.lasts c.run.ensures.err c.run.ensures.told (within _ _ c.is_autocommit.ensures.value c.if-is_autocommit.false)
