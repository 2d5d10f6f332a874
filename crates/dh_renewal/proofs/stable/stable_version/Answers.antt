use Rattle.std.proofs.Common.{◌∙◌, None, refl, sym}
use Rattle.dh_tables.specs.Going.{records}
use Rattle.dh_renewal.proofs.FindingLemmas.{stable_found, stable_after}
use Rattle.dh_renewal.proofs.stable.stable_version.Goals as goal

pub returns-in_default-clause-value : goal.returns-in_default-clause-value
returns-in_default-clause-value g c honest =
    stable_found c.args.host.now (records g.S.Store c.args.tables.now) None None (sym c.in_default.is ∙ c.in_ok-slug.ensures.value honest) (λ slug e. absurd (cc)) (λ _. refl)

pub returns-clause-value : goal.returns-clause-value
returns-clause-value g c honest =
    let before = c.version_under.ensures.asks.goes.lasts.was honest in
    stable_after c.args.host.now (records g.S.Store c.args.tables.now) (records g.S.Store c.kept_alias.new.tables) c.in-Some.slug c.version_under.result
    (c.in_ok-slug.ensures.asks.looks.now_is before) (sym c.in-Some.is ∙ c.in_ok-slug.ensures.value before) (c.version_under.ensures.value honest)
