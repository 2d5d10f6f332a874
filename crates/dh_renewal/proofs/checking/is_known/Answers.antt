use Rattle.std.proofs.Common.{◌∙◌, sym, ltb-true}
use Rattle.dh_records.specs.Lists.{is_project}
use Rattle.dh_renewal.proofs.StandsLemmas.{any_at}
use Rattle.dh_renewal.proofs.checking.is_known.Goals as goal

pub returns-in-Some : goal.returns-in-Some
returns-in-Some c told =
    any_at (is_project c.args.route.now.host) c.args.projects.now c.partition_point-at.result c.in-Some.project.now
    (ltb-true _ _ (sym c.in-Some.ensures.lookup.0)) c.in-Some.ensures.lookup.1 (sym c.is_under.ensures ∙ told)
