use Rattle.dh_rows.proofs.Calls.{only_commits, done_leaves}
use Rattle.dh_rows.proofs.statements.commit.Goals as goal

pub returns : goal.returns
returns g c = record {
  commits =
      only_commits g.S.Store c.args.conn.now c.run.new.conn c.run.result c.run.ensures.survives c.run.ensures.runs
      c.run.ensures.lasts c.run.ensures.err c.run.ensures.told;
  crash = done_leaves g.S.Store c.args.conn.now c.run.new.conn c.run.result c.run.ensures.survives;
}
