use Rattle.std.proofs.Common.{◌≡◌, ◌∙◌, [], ◌∷◌, ◌++◌, append_assoc, append-nil, ap, arith, length, sym}
use Rattle.std.proofs.lemmas.List.{length-map}
use Rattle.object_store.specs.Stored.{Stored}
use Rattle.record_follows.specs.Follows.{room_after}
use Rattle.record_follows.proofs.Taking.{all_middle, nothing_put, table_put}
use Rattle.record_follows.proofs.putting.take_rooms.Goals as goal

pub each-init : goal.each-init
each-init c = ([], sym (append-nil c.args.tables.items), sym (nothing_put c.args.world.now))

pub room_mut-requires : goal.room_mut-requires
room_mut-requires c =
    let later = c.each.invariant.0 in
    let popped : c.each.tables.items ≡ c.pop.new.self.items ++ c.in-Some.table ∷ [] = c.in-Some.ensures.items in
    let here = all_middle c.args.tables.items c.pop.new.self.items later c.in-Some.table (length c.args.world.now.rooms) (c.each.invariant.1 ∙ ap (λ l. l ++ later) popped) c.requires.rooms in
    let many : length c.each.world.rooms ≡ length c.args.world.now.rooms = ap (λ (w : Stored). length w.rooms) c.each.invariant.2 ∙ length-map c.args.world.now.rooms (room_after later) in
    omega (arith, here, many, c.index-index.ensures)

pub each-preserved : goal.each-preserved
each-preserved c =
    let later = c.each.invariant.0 in
    let popped : c.each.tables.items ≡ c.pop.new.self.items ++ c.in-Some.table ∷ [] = c.in-Some.ensures.items in (
      c.in-Some.table ∷ later,
      c.each.invariant.1 ∙ ap (λ l. l ++ later) popped ∙ append_assoc c.pop.new.self.items (c.in-Some.table ∷ []) later,
      table_put c.args.world.now c.each.world c.in-Some.table later c.index-index.result c.requires.places c.index-index.ensures c.each.invariant.2,
    )
