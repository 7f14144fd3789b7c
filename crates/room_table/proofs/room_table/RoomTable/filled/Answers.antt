use Rattle.std.proofs.Common.{◌≡◌, length, map, sym, ap, subst, refl, ◌∙◌, arith}
use Rattle.std.specs.List.{range_with_len}
use Rattle.std.proofs.lemmas.List.{length-map}
use Rattle.std.proofs.lemmas.List.FromFn.{length-range_with_len}
use Rattle.room_table.specs.inner.Owners.{Covers}
use Rattle.room_table.specs.inner.Placed.{tile_of_object}
use Rattle.room_table.proofs.Changed.{standing_equal, placed_equal}
use Rattle.room_table.proofs.Kept.{kept_equal, known_equal}
use Rattle.room_table.proofs.Placed.{all_slots, standing_all, placed_all}
use Rattle.room_table.proofs.TallyChanges.{tallied_all, tallied_equal}
use Rattle.room_table.proofs.room_table.RoomTable.filled.Goals as goal

pub invariant_of-result : goal.invariant_of-result
invariant_of-result c =
    let slots = c.args.slots.items in
    let spare = c.args.spare in
    let long : c.len.result ≡ length slots = omega (arith, c.len.ensures, c.args.slots.ok.0) in
    let count : c.len-2.result ≡ length slots = omega (arith, c.len-2.ensures, c.args.slots.ok.0) in
    let new_order : c.in_ok-order.order.items ≡ all_slots slots = c.in_ok-order.ensures.numbers ∙ ap (range_with_len 0) count in
    let new_tiles : c.in_ok-tiles.tiles.tiles ≡ map tile_of_object slots = c.in_ok-tiles.ensures.tiles ∙ ap (map tile_of_object) c.deref.ensures.value in
    let order_count : length c.in_ok-order.order.items ≡ length slots = ap length new_order ∙ length-range_with_len 0 (length slots) in
    let tiles_count : length c.in_ok-tiles.tiles.tiles ≡ length slots = ap length new_tiles ∙ length-map slots tile_of_object in (
      placed_equal refl new_order new_tiles (placed_all slots c.requires.rising),
      record {
        count = c.requires.within;
        slots_room = c.requires.room;
        order_room = omega (arith, order_count, long, c.in_ok-order.ensures.room);
        tiles_room = omega (arith, tiles_count, long, c.in_ok-tiles.ensures.room);
        heads = λ _. c.in_ok-tiles.ensures.heads;
      },
      c.requires.beside,
      subst (Covers c.args.owners.remainders) (sym (standing_equal refl new_order ∙ standing_all slots)) c.requires.owners,
      kept_equal (sym c.deref-2.ensures.value) (sym c.deref-3.ensures.value) c.controller_slot-controller.ensures,
    )

pub returns : goal.returns
returns c =
    let slots = c.args.slots.items in
    let count : c.len-2.result ≡ length slots = omega (arith, c.len-2.ensures, c.args.slots.ok.0) in
    let new_order : c.in_ok-order.order.items ≡ all_slots slots = c.in_ok-order.ensures.numbers ∙ ap (range_with_len 0) count in
    let tallies = c.args.tallies.items in
    λ i. record {
      index = c.args.index;
      next = c.args.next;
      objects = (standing_equal refl new_order ∙ standing_all slots) i;
      spare = c.args.spare;
      tallies = (tallied_equal {slots = slots} {tallies = tallies} refl refl new_order ∙ tallied_all slots tallies c.requires.beside.long) i;
    }

pub controller_slot-controller-requires : goal.controller_slot-controller-requires
controller_slot-controller-requires c =
    let slots = c.args.slots.items in
    let count : c.len-2.result ≡ length slots = omega (arith, c.len-2.ensures, c.args.slots.ok.0) in
    let new_order : c.in_ok-order.order.items ≡ all_slots slots = c.in_ok-order.ensures.numbers ∙ ap (range_with_len 0) count in
    known_equal c.deref-2.ensures.value (c.deref-3.ensures.value ∙ new_order) (placed_all slots c.requires.rising).known
