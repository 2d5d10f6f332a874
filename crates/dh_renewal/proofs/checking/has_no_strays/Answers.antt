use Rattle.std.proofs.Common.{◌∙◌, IsTrue, subst}
use Rattle.std.specs.List.{AllByRecursion, list_any}
use Rattle.dh_records.specs.Lists.{is_project}
use Rattle.dh_renewal.proofs.checking.has_no_strays.Goals as goal

pub returns-clause-value : goal.returns-clause-value
returns-clause-value g c honest told =
    subst (AllByRecursion (λ r. IsTrue (list_any (is_project r.host) c.args.projects.now))) (c.as_slice.ensures.value ∙ c.in_ok-routes.ensures.value honest) (c.are_known.ensures told)
