use Rattle.dh_constraints.proofs.OrderLemmas.{by_name}
use Rattle.dh_constraints.proofs.lookups.version_of.Goals as goal

pub named_in-requires : goal.named_in-requires
named_in-requires c = by_name (λ r. r.host) (λ r. r.version.slug) _ _ c.as_slice.ensures.value c.args.records.now.in_order.versions
