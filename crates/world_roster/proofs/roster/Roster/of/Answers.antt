use Rattle.std.proofs.Common.{List, map, subst}
use Rattle.std.specs.List.Sorted.{IsPermutation}
use Rattle.object_store.specs.declared.world.Room.{Room}
use Rattle.world_roster.specs.Rosters.{shown_entry}
use Rattle.world_roster.specs.inner.Listed.{placed_among}
use Rattle.world_roster.proofs.Known.{rising, same_objects}
use Rattle.world_roster.proofs.roster.Roster.of.Goals as goal

pub invariant_of-result : goal.invariant_of-result
invariant_of-result c =
    let all = c.in_ok-all.all.items in
    let moved = subst (λ (rooms : List Room). IsPermutation (placed_among rooms) (map shown_entry all)) c.room_list.ensures.all c.in_ok-all.ensures.same in
    rising c.args.world.now c.requires all moved c.in_ok-all.ensures.order

pub returns : goal.returns
returns c =
    let all = c.in_ok-all.all.items in
    let moved = subst (λ (rooms : List Room). IsPermutation (placed_among rooms) (map shown_entry all)) c.room_list.ensures.all c.in_ok-all.ensures.same in
    same_objects c.args.world.now c.requires all moved
