use Rattle.std.proofs.Common.{ltb, rules, tests}
use Rattle.std.proofs.lemmas.List.Sorted.{IsPartitionPoint-from_clause, IsPartitionedBy-ltb}
use Rattle.room_table.proofs.Rising.{non_decreasing, place_from_tests}
use Rattle.world_roster.specs.Rosters.{id_in}
use Rattle.world_roster.proofs.roster.place.Goals as goal

pub returns-clause-between : goal.returns-clause-between
returns-clause-between c =
    let all = c.args.all.now in
    let rising = non_decreasing id_in all c.requires in
    place_from_tests id_in c.args.id all _ (IsPartitionPoint-from_clause (λ x. ltb (id_in x) c.args.id) all _ c.partition_point.ensures.partitioned (IsPartitionedBy-ltb id_in all c.args.id rising) (λ a r q k. search (rules, tests)))
