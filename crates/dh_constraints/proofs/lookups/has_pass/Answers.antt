use Rattle.dh_constraints.proofs.OrderLemmas.{by_name}
use Rattle.dh_constraints.proofs.lookups.has_pass.Goals as goal

pub named_in-requires : goal.named_in-requires
named_in-requires c = by_name (λ r. r.host) (λ r. r.pass) _ _ c.as_slice.ensures.value c.args.records.now.in_order.passes
