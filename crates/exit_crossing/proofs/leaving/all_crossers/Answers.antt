use Rattle.std.proofs.Common.{◌≡◌, ℕ, List, [], Some, sym, subst, slice_get}
use Rattle.std.specs.List.Sorted.{IsPermutation}
use Rattle.object_store.specs.declared.world.Room.{Room}
use Rattle.object_store.specs.Stored.{Stored, HaveRisingTables}
use Rattle.exit_crossing.specs.Crossing.{AreIdsApart, AreCrossers}
use Rattle.exit_crossing.specs.inner.Leaving.{crossers_among}
use Rattle.exit_crossing.proofs.Sorted.{are_of_world, are_crossers}
use Rattle.exit_crossing.proofs.leaving.all_crossers.Goals as goal

pub returns-clause-list : goal.returns-clause-list
returns-clause-list c stored is =
    are_of_world stored
    (subst (λ (rooms : List Room). (index : ℕ) (room : Room) → slice_get rooms index ≡ Some room → room.table.index ≡ index) (sym is) c.requires.places)
    (subst HaveRisingTables (sym is) c.in_ok-all.ensures.rising)
    (subst AreIdsApart (sym is) c.requires.ids)
    c.in_ok-all.all.items
    (subst (λ (rooms : List Room). IsPermutation (crossers_among rooms) c.in_ok-all.all.items) (sym is) c.in_ok-all.ensures.same)
    c.in_ok-all.ensures.order

pub returns-clause-crossers : goal.returns-clause-crossers
returns-clause-crossers c =
    let stored : Stored = record { tick = 0; rooms = c.args.rooms.now; accounts = [] } in
    subst (λ (rooms : List Room). AreCrossers rooms c.in_ok-all.all.items) (sym c.rest_rooms.ensures)
    (are_crossers stored c.requires.places c.in_ok-all.ensures.rising c.requires.ids c.in_ok-all.all.items c.in_ok-all.ensures.same c.in_ok-all.ensures.order)
