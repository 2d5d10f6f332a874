use Rattle.dh_rows.proofs.Calls.{refused, stopped_was, back_clean, executed_open, lasts}
use Rattle.dh_rows.proofs.statements.run.Goals as goal

pub returns-in-Ok-clause-lasts : goal.returns-in-Ok-clause-lasts
returns-in-Ok-clause-lasts g c = lasts g.S.Store c.args.conn.now c.execute.new.self _ c.execute.ensures.survives
    (λ honest. (back_clean g.S.Store c.args.conn.now c.execute.new.self _ c.execute.ensures.survives honest.0, executed_open _ _ _ _ _ (c.in-Ok.ensures.runs honest.0) honest.1))

pub returns-in-Err-clause-err : goal.returns-in-Err-clause-err
returns-in-Err-clause-err g c clean = refused _ _ _ _ _ (c.in-Err.ensures.runs clean)

pub returns-in-Err-clause-lasts : goal.returns-in-Err-clause-lasts
returns-in-Err-clause-lasts g c = lasts g.S.Store c.args.conn.now c.execute.new.self _ c.execute.ensures.survives
    (λ honest. stopped_was g.S.Store c.args.conn.now c.execute.new.self _ c.execute.ensures.survives (refused _ _ _ _ _ (c.in-Err.ensures.runs honest.0)) honest)

pub returns-in-Err-clause-told : goal.returns-in-Err-clause-told
returns-in-Err-clause-told g c clean = (c.in-Err.error, c.fault_of.ensures, c.in-Err.ensures.runs clean)
