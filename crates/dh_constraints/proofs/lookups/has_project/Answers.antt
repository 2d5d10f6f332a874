use Rattle.std.proofs.Common.{List, find, is_some, ap, subst, sym, ◌∙◌}
use Rattle.dh_records.specs.declared.records.ProjectRow.{ProjectRow}
use Rattle.dh_records.specs.Codings as coding
use Rattle.dh_records.specs.Constraints.{InOrder}
use Rattle.dh_records.specs.Lists.{is_project}
use Rattle.dh_constraints.proofs.lookups.has_project.Goals as goal

pub is_host_among-requires : goal.is_host_among-requires
is_host_among-requires c = subst (InOrder coding.projects.key) (sym c.as_slice.ensures.value) c.args.records.now.in_order.projects

pub returns : goal.returns
returns c = c.is_host_among.ensures ∙ ap (λ (l : List ProjectRow). is_some (find (is_project c.args.host.now) l)) c.as_slice.ensures.value
