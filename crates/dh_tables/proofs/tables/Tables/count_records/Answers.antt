use Rattle.std.proofs.Common.{ap, inl, length, rules, ◌∙◌}
use Rattle.dh_tables.proofs.Asking.{asks, may_look, reads, refused}
use Rattle.dh_tables.proofs.Known.{count_value}
use Rattle.dh_tables.proofs.PagesKept.{looked}
use Rattle.dh_tables.proofs.tables.Tables.count_records.Goals as goal

pub select-requires : goal.select-requires
select-requires g c = record { look = may_look g.S.Store c.self.view_is c.self.invariant.0 c.requires.query }

pub invariant_of-self : goal.invariant_of-self
invariant_of-self g c = looked g.S.Store c.self.inside.conn c.select.new.conn c.self.inside.pages c.self.invariant c.select.result c.select.ensures.looks

pub returns-in_err-rows : goal.returns-in_err-rows
returns-in_err-rows g c part test it = record {
  asks = refused g.S.Store c.self.view_is c.self.invariant.0 c.requires.query c.from_residual.result c.in_err-rows.field-0.0 c.in_err-rows.was c.from_residual.ensures.1 inl c.select.ensures.looks c.select.ensures.blamed;
  value = search rules;
}

pub invariant_of-self-2 : goal.invariant_of-self-2
invariant_of-self-2 g c = looked g.S.Store c.self.inside.conn c.select.new.conn c.self.inside.pages c.self.invariant c.select.result c.select.ensures.looks

pub returns : goal.returns
returns g c part test it =
    let looks = c.in_ok-rows.ensures.looks in
    record {
      asks = asks g.S.Store c.self.view_is c.self.invariant.0 c.requires.query inl (record { goes = looks.goes; same = looks.same; err = looks.err }) (λ clean. tt);
      value = λ now. ap length c.as_slice.ensures.value ∙ count_value _ _ _ (reads g.S.Store c.self.view_is c.self.invariant.0 it looks now _ (c.in_ok-rows.ensures.rows now.0).1);
    }
