use Rattle.std.proofs.Common.{pos, [], ◌∷◌}
use Rattle.sqlite_value.specs.declared.value.Value.TheVariants.{Int}
use Rattle.dh_constraints.proofs.OrderLemmas.{by_host}
use Rattle.dh_constraints.proofs.lookups.redirects_of.Goals as goal

pub run_of-requires : goal.run_of-requires
run_of-requires c = by_host (λ r. r.host) (λ r. Int (pos r.place) ∷ []) _ _ c.as_slice.ensures.value c.args.records.now.in_order.redirects
