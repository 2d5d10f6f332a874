use Rattle.std.proofs.Common.{eqb, not, List, [], length, refl, ap, ◌∙◌}
use Rattle.dh_records.specs.declared.records.ProjectRow.{ProjectRow}
use Rattle.dh_records.specs.Lists.{is_project}
use Rattle.dh_constraints.proofs.ListLemmas.{found_if_some}
use Rattle.dh_constraints.proofs.OrderLemmas.{by_host}
use Rattle.dh_constraints.proofs.lookups.is_host_among.Goals as goal

pub run_of-requires : goal.run_of-requires
run_of-requires c = by_host (λ r. r.host) (λ r. []) _ _ refl c.requires

pub returns : goal.returns
returns c =
    ap not (c.is_empty.ensures ∙ ap (λ (l : List ProjectRow). eqb (length l) 0) c.run_of.ensures)
    ∙ found_if_some (is_project c.args.host.now) c.args.projects.now
