use Rattle.std.proofs.Common.{codes, sym, ap, ◌∙◌}
use Rattle.dh_class_names.specs.Rows.{stands_by}
use Rattle.dh_records.specs.Lists.{Lists}
use Rattle.dh_tables.specs.Going.{records}
use Rattle.dh_renewal.specs.ByKey.{versions_at}
use Rattle.dh_renewal.proofs.ByKeyLemmas.{neither}
use Rattle.dh_renewal.proofs.by_key.default_alias.Goals as goal

pub returns-clause-value : goal.returns-clause-value
returns-clause-value g c honest =
    let before = c.stands-2.ensures.asks.goes.lasts.was honest in
    neither (stands_by (versions_at c.args.host.now (records g.S.Store c.args.tables.now)) c.args.grants.now c.args.latest c.args.stable)
    (sym (c.in_ok-stands.ensures.value before) ∙ c.if-branch.false)
    (ap (λ (k : Lists). stands_by (versions_at c.args.host.now k) c.args.grants.now c.args.latest c.args.stable (codes "stable")) (sym (c.in_ok-stands.ensures.asks.looks.now_is before))
    ∙ sym (c.in_ok-stands-2.ensures.value honest) ∙ c.if-branch-2.false)
