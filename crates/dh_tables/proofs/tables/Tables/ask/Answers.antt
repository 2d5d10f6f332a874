use Rattle.dh_tables.proofs.Idle.{answers, leaves_nothing, looks}
use Rattle.dh_tables.proofs.PagesKept.{looked}
use Rattle.dh_tables.proofs.tables.Tables.ask.Goals as goal

pub invariant_of-self : goal.invariant_of-self
invariant_of-self g c = looked g.S.Store c.self.inside.conn c.run.new.conn c.self.inside.pages c.self.invariant c.run.result
    (looks g.S.Store c.self.inside.conn c.run.new.conn c.run.result c.run.ensures.survives c.run.ensures.runs
    c.run.ensures.lasts c.run.ensures.err c.run.ensures.told)

pub returns : goal.returns
returns g c = rw (← c.self.view_is) (record {
  asks = answers g.S.Store c.self.inside.conn c.run.new.conn c.run.result c.run.ensures.survives c.run.ensures.runs
      c.run.ensures.lasts c.run.ensures.err c.run.ensures.told;
  quiet = leaves_nothing g.S.Store c.self.inside.conn c.run.new.conn c.run.result c.run.ensures.survives c.run.ensures.runs
      c.run.ensures.lasts c.run.ensures.err c.run.ensures.told;
})
