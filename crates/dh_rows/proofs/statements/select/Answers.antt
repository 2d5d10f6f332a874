use Rattle.dh_rows.proofs.Calls.{read, shown_was, answered_looks, refused_looks, query_blames, back_clean}
use Rattle.dh_rows.proofs.statements.select.Goals as goal

pub returns-in-Ok-clause-rows : goal.returns-in-Ok-clause-rows
returns-in-Ok-clause-rows g c clean =
    let shown = c.in-Ok.ensures.ok clean in
    let was = shown_was g.S.Store c.args.conn.now c.query_all.new.self c.args.sql.now _ c.query_all.ensures.survives c.requires.look _ shown clean in
    (was, read g.S.Store c.args.conn.now c.query_all.new.self c.args.sql.now _ c.query_all.ensures.survives c.requires.look _ shown was)

pub returns-in-Ok-clause-looks : goal.returns-in-Ok-clause-looks
returns-in-Ok-clause-looks g c = answered_looks g.S.Store c.args.conn.now c.query_all.new.self c.args.sql.now _ c.query_all.ensures.survives c.requires.look _ c.in-Ok.ensures.ok

pub returns-in-Err-clause-looks : goal.returns-in-Err-clause-looks
returns-in-Err-clause-looks g c = refused_looks g.S.Store c.args.conn.now c.query_all.new.self c.args.sql.now _ c.query_all.ensures.survives c.requires.look c.in-Err.error c.in-Err.ensures.err

pub returns-in-Err-clause-told : goal.returns-in-Err-clause-told
returns-in-Err-clause-told g c clean = (c.in-Err.error, c.fault_of.ensures, c.in-Err.ensures.err clean)

pub returns-in-Err-clause-blamed : goal.returns-in-Err-clause-blamed
returns-in-Err-clause-blamed g c clean = query_blames g.S.Store c.args.conn.now c.query_all.new.self c.args.sql.now _
    (back_clean g.S.Store c.args.conn.now c.query_all.new.self _ c.query_all.ensures.survives) c.requires.look clean
    c.in-Err.error _ c.fault_of.ensures (c.in-Err.ensures.err clean)
