use Rattle.std.proofs.Common.{sym, ◌∙◌}
use Rattle.dh_tables.specs.Going.{records}
use Rattle.dh_renewal.proofs.ByKeyLemmas.{none_seen, row_seen}
use Rattle.dh_renewal.proofs.by_key.seen_version.Goals as goal

pub returns-then-is_seen-clause-value : goal.returns-then-is_seen-clause-value
returns-then-is_seen-clause-value g c honest =
    row_seen c.args.host.now (records g.S.Store c.args.tables.now) c.args.grants.now c.args.slug.now c.in-Some.row
    (sym c.in-Some.is ∙ c.in_ok-row.ensures.value honest) _ (sym c.is_seen.ensures ∙ c.if-is_seen.true)

pub returns-else-is_seen-clause-value : goal.returns-else-is_seen-clause-value
returns-else-is_seen-clause-value g c honest =
    row_seen c.args.host.now (records g.S.Store c.args.tables.now) c.args.grants.now c.args.slug.now c.in-Some.row
    (sym c.in-Some.is ∙ c.in_ok-row.ensures.value honest) _ (sym c.is_seen.ensures ∙ c.if-is_seen.false)

pub returns-in-None-clause-value : goal.returns-in-None-clause-value
returns-in-None-clause-value g c honest =
    none_seen c.args.host.now (records g.S.Store c.args.tables.now) c.args.grants.now c.args.slug.now (sym c.in-None.is ∙ c.in_ok-row.ensures.value honest)
