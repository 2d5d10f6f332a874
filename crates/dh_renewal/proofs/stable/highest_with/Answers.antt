use Rattle.std.proofs.Common.{rules, ap, subst, take, ◌∙◌}
use Rattle.dh_schema.specs.InTurn.{goes_on}
use Rattle.dh_class_names.specs.Highest.{IsHighest, IsSeenWith, with_opened}
use Rattle.dh_class_names.specs.Rows.{version_under}
use Rattle.dh_class_names.proofs.HighestLemmas.{granted_more, none_opened}
use Rattle.dh_records.specs.Lists.{Lists}
use Rattle.dh_tables.specs.Going.{records}
use Rattle.dh_renewal.specs.ByKey.{versions_at}
use Rattle.dh_renewal.proofs.ByKeyLemmas.{under_slug}
use Rattle.dh_renewal.proofs.Together.{looks_on}
use Rattle.dh_renewal.proofs.stable.highest_with.Goals as goal

pub loop-grant-init : goal.loop-grant-init
loop-grant-init g c = record {
  goes = search rules;
  sees = search rules;
  highest = λ honest up. none_opened (versions_at c.args.host.now (records g.S.Store c.args.tables.now)) c.args.public up;
}

pub loop-grant-preserved : goal.loop-grant-preserved
loop-grant-preserved g c =
    let it = c.loop-grant.invariant in
    let asks = c.in_ok-opened.ensures.asks in record {
      goes = goes_on it.goes it.sees.live c.version_under.ensures.asks.goes;
      sees = looks_on g.S.Store c.args.tables.now c.loop-grant.tables c.version_under.new.tables it.sees c.version_under.ensures.asks.goes asks.looks;
      highest = λ honest up.
          let before = c.version_under.ensures.asks.goes.lasts.was honest in
          let rows = versions_at c.args.host.now (records g.S.Store c.args.tables.now) in
          granted_more rows c.args.grants.now c.loop-grant.grant-index c.grant-item.result c.loop-grant-test.true c.grant-item.is c.loop-grant.best c.in_ok-best.best
          (c.in_ok-best.ensures ∙ ap (with_opened c.loop-grant.best)
          (under_slug c.args.host.now (records g.S.Store c.loop-grant.tables) c.grant-item.result.slug c.in_ok-opened.opened (c.in_ok-opened.ensures.value honest)
          ∙ ap (λ (k : Lists). version_under (versions_at c.args.host.now k) c.grant-item.result.slug) (it.sees.now_is before)))
          (it.highest before up);
    }

pub returns-clause-asks : goal.returns-clause-asks
returns-clause-asks g c = record { goes = c.loop-grant.invariant.goes; looks = c.loop-grant.invariant.sees; err = tt }
