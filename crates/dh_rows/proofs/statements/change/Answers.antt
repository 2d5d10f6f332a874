use Rattle.dh_rows.proofs.Calls.{only_edits}
use Rattle.dh_rows.proofs.statements.change.Goals as goal

pub returns-clause-edits : goal.returns-clause-edits
returns-clause-edits g c = only_edits g.S.Store c.args.conn.now c.run.new.conn c.args.sql.now _ c.run.result c.run.ensures.survives c.requires.edit c.run.ensures.runs c.run.ensures.lasts c.run.ensures.err
