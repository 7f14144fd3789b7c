use Rattle.std.proofs.Common.{leb, rules, tests}
use Rattle.std.proofs.lemmas.List.Sorted.{IsPartitionPoint-from_clause, IsPartitionedBy-leb}
use Rattle.wasm_link.proofs.Joins.{begin_rising, starts_in, past_is}
use Rattle.wasm_link.proofs.values.count_upto.Goals as goal

pub returns : goal.returns
returns c =
    let all = c.args.stretches.now in
    let point = IsPartitionPoint-from_clause (λ x. leb (starts_in x) c.args.entry) all _ c.partition_point.ensures.partitioned (IsPartitionedBy-leb starts_in all c.args.entry (begin_rising all c.requires)) (λ a r q k. search (rules, tests)) in
    λ k d below at. past_is all c.requires c.args.entry c.partition_point.result c.partition_point.ensures.bound point k d below at
