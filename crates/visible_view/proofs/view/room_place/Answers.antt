use Rattle.std.proofs.Common.{ltb, rules, tests}
use Rattle.std.proofs.lemmas.List.Sorted.{IsPartitionPoint-from_clause, IsPartitionedBy-ltb}
use Rattle.room_table.proofs.Rising.{non_decreasing, place_from_tests}
use Rattle.visible_view.specs.inner.Gathered.{index_in}
use Rattle.visible_view.proofs.view.room_place.Goals as goal

pub returns-clause-between : goal.returns-clause-between
returns-clause-between c =
    let rooms = c.args.rooms.now in
    let rising = non_decreasing index_in rooms c.requires in
    place_from_tests index_in c.args.index rooms _ (IsPartitionPoint-from_clause (λ x. ltb (index_in x) c.args.index) rooms _ c.partition_point.ensures.partitioned (IsPartitionedBy-ltb index_in rooms c.args.index rising) (λ a r q k. search (rules, tests)))
