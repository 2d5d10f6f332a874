use Rattle.std.proofs.Common.{◌⊎◌, Bool, inl, inr, ap, rules, sym, subst}
use Rattle.sqlite.specs.Held.{state}
use Rattle.dh_rows.specs.Calls.{IsBlamed}
use Rattle.dh_constraints.specs.Lists.{lists_in}
use Rattle.dh_constraints.specs.declared.records.Records.{Records}
use Rattle.dh_records.specs.Codings.{passes}
use Rattle.dh_records.specs.Constraints.{InOrder}
use Rattle.dh_records.specs.Lists.{Lists}
use Rattle.dh_opening.proofs.BringLemmas.{any_failed, handed_failed}
use Rattle.dh_opening.proofs.MigrateLemmas.{convertible_then, migrated_then, old_then}
use Rattle.dh_opening.specs.Migrating.{IsBehind}
use Rattle.dh_opening.proofs.migrating.convert_tables.Goals as goal

pub convert_and_fill-requires : goal.convert_and_fill-requires
convert_and_fill-requires g c = record {
  order = subst (InOrder passes.key) (sym c.as_slice.ensures.value) c.in_ok-records.records.in_order.passes;
  old = convertible_then (c.in_ok-records.records, c.in_ok-records.derived) c.in_ok-records.ensures.opens c.in_ok-records.derived (lists_in c.in_ok-records.records).passes (λ it. (it.0, it.1, λ number. let old = it.2 number in (old.0, ap (λ (l : Lists). l.passes) old.1.2))) c.requires.number;
}

pub returns-in-Ok-clause-goes : goal.returns-in-Ok-clause-goes
returns-in-Ok-clause-goes g c = (migrated_then (c.in_ok-records.records, c.in_ok-records.derived) c.in_ok-records.ensures.opens c.in_ok-records.derived (lists_in c.in_ok-records.records).passes (λ it. (it.0, it.1, λ number. let old = it.2 number in (old.0, ap (λ (l : Lists). l.passes) old.1.2))) c.requires.number _ c.as_slice.ensures.value c.in-Ok.ensures.carries).goes

pub returns-in-Ok-clause-made : goal.returns-in-Ok-clause-made
returns-in-Ok-clause-made g c = (migrated_then (c.in_ok-records.records, c.in_ok-records.derived) c.in_ok-records.ensures.opens c.in_ok-records.derived (lists_in c.in_ok-records.records).passes (λ it. (it.0, it.1, λ number. let old = it.2 number in (old.0, ap (λ (l : Lists). l.passes) old.1.2))) c.requires.number _ c.as_slice.ensures.value c.in-Ok.ensures.carries).made

pub returns-clause-goes : goal.returns-clause-goes
returns-clause-goes g c = (migrated_then (c.in_ok-records.records, c.in_ok-records.derived) c.in_ok-records.ensures.opens c.in_ok-records.derived (lists_in c.in_ok-records.records).passes (λ it. (it.0, it.1, λ number. let old = it.2 number in (old.0, ap (λ (l : Lists). l.passes) old.1.2))) c.requires.number _ c.as_slice.ensures.value c.convert_and_fill.ensures.carries).goes

pub returns-in_err-records-clause-told : goal.returns-in_err-records-clause-told
returns-in_err-records-clause-told g c clean = handed_failed (Records × Bool) c.from_residual.result c.in_err-records.field-0.0 c.from_residual.ensures.1 inl (c.in_err-records.ensures.opens.told clean)

pub returns-clause-told : goal.returns-clause-told
returns-clause-told g c clean =
    let told : IsBlamed g.S.Store c.args.conn.now c.convert_and_fill.new.conn ⊎ IsBehind (state g.S.Store c.args.conn.now).now =
    inr (inl (old_then (c.in_ok-records.records, c.in_ok-records.derived) c.in_ok-records.ensures.opens c.in_ok-records.derived (lists_in c.in_ok-records.records).passes (λ it. (it.0, it.1, λ number. let old = it.2 number in (old.0, ap (λ (l : Lists). l.passes) old.1.2))) c.requires.number (c.convert_and_fill.ensures.carries.goes.lasts.clean clean))) in
    first_of (search (any_failed, told), search (rules, any_failed, told))
