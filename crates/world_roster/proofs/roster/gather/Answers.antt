use Rattle.std.proofs.Common.{◌≡◌, ℕ, ◌+◌, ◌++◌, [], ◌∷◌, take, length, sym, ap, ◌∙◌, arith}
use Rattle.std.proofs.lemmas.List.{length-take-le, take_more}
use Rattle.object_store.specs.declared.world.Room.{Room}
use Rattle.world_roster.specs.inner.Listed.{placed_at, placed_among}
use Rattle.world_roster.proofs.Listing.{placed_push}
use Rattle.world_roster.proofs.roster.gather.Goals as goal

pub loop-index-preserved : goal.loop-index-preserved
loop-index-preserved c =
    let rooms = c.args.rooms.now in
    let index = c.loop-index.index in
    let room = c.index-rooms-index.result in
    let place : length (take index rooms) ≡ index = length-take-le index rooms (omega arith) in
    let more : take (index + 1) rooms ≡ take index rooms ++ room ∷ [] = take_more rooms index room c.loop-index-test.true ∙ ap (λ (r : Room). take index rooms ++ r ∷ []) (sym c.index-rooms-index.is) in
    c.in_ok-add_objects.ensures
    ∙ (λ i. c.loop-index.invariant i ++ placed_at index (c.objects.ensures.all i))
    ∙ ap (λ (n : ℕ). placed_among (take index rooms) ++ placed_at n room.table.objects) (sym place)
    ∙ sym (placed_push (take index rooms) room)
    ∙ ap placed_among (sym more)
