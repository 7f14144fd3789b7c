use Rattle.std.proofs.Common.{ltb, map, rules, tests}
use Rattle.std.proofs.lemmas.List.Sorted.{IsPartitionPoint-from_clause, IsPartitionedBy-ltb}
use Rattle.room_table.proofs.Rising.{non_decreasing, place_from_tests}
use Rattle.world_rules.specs.World.{shown}
use Rattle.visible_view.specs.inner.Places.{id_at}
use Rattle.visible_view.proofs.listed.position_of.Goals as goal

pub returns-clause-between : goal.returns-clause-between
returns-clause-between c =
    let key = id_at (map shown c.args.list.now) in
    let places = c.args.places.now in
    let rising = non_decreasing key places c.requires in
    place_from_tests key c.args.id places _ (IsPartitionPoint-from_clause (λ x. ltb (key x) c.args.id) places _ c.partition_point.ensures.partitioned (IsPartitionedBy-ltb key places c.args.id rising) (λ a r q k. search (rules, tests)))
