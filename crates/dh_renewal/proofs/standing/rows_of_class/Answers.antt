use Rattle.std.proofs.Common.{sym, subst, rules, is_lt}
use Rattle.std.specs.List.Sorted.{IsPartitionedBy}
use Rattle.std.proofs.lemmas.List.{take_rest}
use Rattle.std.proofs.lemmas.List.Sorted.{IsPartitionPoint-from_clause}
use Rattle.dh_constraints.proofs.RunLemmas.{by_host, has_host, host_ties, hosts_rise, less_first, tied_first, run_is_filter}
use Rattle.dh_records.specs.declared.records.AliasRow.{AliasRow}
use Rattle.dh_renewal.proofs.standing.rows_of_class.Goals as goal

pub returns : goal.returns
returns c = λ by_class.
    let order = by_host (λ (x : AliasRow). x.class) c.args.class.now in
    let test = has_host (λ (x : AliasRow). x.class) c.args.class.now in
    let ties = host_ties (λ (x : AliasRow). x.class) c.args.class.now in
    let up = hosts_rise (λ (x : AliasRow). x.class) c.args.class.now c.args.rows.now by_class in
    let start = IsPartitionPoint-from_clause (λ x. is_lt (order x)) c.args.rows.now c.partition_point-start.result c.partition_point-start.ensures.partitioned
    (less_first order test ties c.args.rows.now up) (λ a r q k. search rules) in
    let whole = take_rest c.args.rows.now c.partition_point-start.result in
    let tied = subst (IsPartitionedBy test) (sym whole) (tied_first order test ties c.args.rows.now up c.partition_point-start.result start.0 start.1) in
    let count = IsPartitionPoint-from_clause test _ c.partition_point-count.result c.partition_point-count.ensures.partitioned tied (λ a r q k. search rules) in
    run_is_filter order test ties c.args.rows.now up c.partition_point-start.result start.0 start.1 _ c.partition_point-count.result whole count
