use Rattle.std.proofs.Common.{ap, inl, is_some, rules, slice_get, ◌∙◌}
use Rattle.dh_tables.proofs.Asking.{asks, first_read, may_look, reads, refused}
use Rattle.dh_tables.proofs.Known.{any_value, some_copied}
use Rattle.dh_tables.proofs.PagesKept.{looked}
use Rattle.dh_tables.proofs.tables.Tables.has_record.Goals as goal

pub select-requires : goal.select-requires
select-requires g c = record { look = may_look g.S.Store c.self.view_is c.self.invariant.0 c.requires.query.1 }

pub invariant_of-self : goal.invariant_of-self
invariant_of-self g c = looked g.S.Store c.self.inside.conn c.select.new.conn c.self.inside.pages c.self.invariant c.select.result c.select.ensures.looks

pub invariant_of-self-2 : goal.invariant_of-self-2
invariant_of-self-2 g c = looked g.S.Store c.self.inside.conn c.select.new.conn c.self.inside.pages c.self.invariant c.select.result c.select.ensures.looks

pub returns-in_err-rows : goal.returns-in_err-rows
returns-in_err-rows g c show part test it = record {
  asks = refused g.S.Store c.self.view_is c.self.invariant.0 c.requires.query.1 c.from_residual.result c.in_err-rows.field-0.0 c.in_err-rows.was c.from_residual.ensures.1 inl c.select.ensures.looks c.select.ensures.blamed;
  value = search rules;
}

pub returns : goal.returns
returns g c show part test it =
    let looks = c.in_ok-rows.ensures.looks in
    record {
      asks = asks g.S.Store c.self.view_is c.self.invariant.0 c.requires.query.1 inl (record { goes = looks.goes; same = looks.same; err = looks.err }) (λ clean. tt);
      value = λ now. c.is_some.ensures ∙ some_copied _ ∙ ap is_some (c.first.ensures.value ∙ ap (λ l. slice_get l 0) c.deref.ensures.value) ∙ any_value _ _ _ _ (reads g.S.Store c.self.view_is c.self.invariant.0 it looks now _ (c.in_ok-rows.ensures.rows now.0).1) (first_read g.S.Store c.self.view_is c.self.invariant.0 it);
    }
