use Rattle.std.proofs.Common.{◌≡◌, ◌<◌, List, length, set, sym, ap, subst, refl, ◌∙◌, arith, length-set}
use Rattle.std.proofs.lemmas.List.{get_or_read}
use Rattle.room_table.specs.declared.object.Object.{Object}
use Rattle.room_table.specs.inner.Chains.{Chained}
use Rattle.room_table.specs.inner.Kept.{Stays}
use Rattle.room_table.specs.inner.Owners.{Covers}
use Rattle.room_table.specs.inner.Placed.{no_object, standing, tile_of_object, StandsIn}
use Rattle.room_table.proofs.Changed.{placed_equal, replaced}
use Rattle.room_table.proofs.Kept.{kept_equal, kept_set}
use Rattle.room_table.proofs.Owned.{covers_set}
use Rattle.room_table.specs.Tables.{Table, with_object}
use Rattle.room_table.proofs.TallyChanges.{tallied_replace}
use Rattle.room_table.proofs.room_table.RoomTable.set.Goals as goal

pub invariant_of-self : goal.invariant_of-self
invariant_of-self c =
    let was = c.self.inside in
    let object = c.args.object in
    let slot = c.slot_of-slot.result in
    let slots = was.slots.items in
    let order = was.order.items in
    let tiles = was.tiles.tiles in
    let room = c.self.invariant.1 in
    let stands = subst (λ os. StandsIn object.id slots os slot) c.deref-2.ensures.value (subst (λ ss. StandsIn object.id ss c.deref-2.result.now slot) c.deref.ensures.value c.slot_of-slot.ensures.stands) in
    let done = replaced slots order tiles slot object c.self.invariant.0 stands in
    let new_tiles : c.shift.new.self.tiles ≡ set tiles slot (tile_of_object object) = ap (λ (t : Chained). t.tiles) c.shift.ensures ∙ ap (λ n. set tiles slot n) c.tile_of.ensures in
    let slots_count = length-set slots slot object in
    let tiles_count = ap length new_tiles ∙ length-set tiles slot (tile_of_object object) in (
      placed_equal refl refl new_tiles done.placed,
      record {
        count = omega (arith, room.count, slots_count);
        slots_room = omega (arith, room.slots_room, slots_count);
        order_room = room.order_room;
        tiles_room = omega (arith, room.tiles_room, tiles_count, ap (λ (t : Chained). t.room) c.shift.ensures);
        heads = λ some. ap (λ (t : Chained). t.heads) c.shift.ensures ∙ room.heads some;
      },
      record { long = c.self.invariant.2.long ∙ sym slots_count; room = omega (arith, c.self.invariant.2.room, slots_count); capped = c.self.invariant.2.capped },
      subst (Covers c.add.new.self.remainders) (sym done.stands) (covers_set _ _ object c.add.ensures.added c.add.ensures.kept (standing slots order) c.self.invariant.3 done.place),
      kept_equal (sym c.deref-3.ensures.value) (sym c.deref-4.ensures.value) c.kept_or_sought-self-inside.ensures,
    )

pub returns : goal.returns
returns c =
    let was = c.self.inside in
    let object = c.args.object in
    let slot = c.slot_of-slot.result in
    let slots = was.slots.items in
    let order = was.order.items in
    let stands = subst (λ os. StandsIn object.id slots os slot) c.deref-2.ensures.value (subst (λ ss. StandsIn object.id ss c.deref-2.result.now slot) c.deref.ensures.value c.slot_of-slot.ensures.stands) in
    let done = replaced slots order was.tiles.tiles slot object c.self.invariant.0 stands in
    (λ i. record {
      index = was.index;
      next = was.next;
      objects = (done.stands ∙ done.objects) i;
      spare = was.spare;
      tallies = tallied_replace slots (set slots slot object) was.tallies.items order object (done.stands ∙ done.objects) i;
    }) ∙ ap (λ (t : Table). record t { objects = with_object object t.objects }) c.self.view_is

pub kept_or_sought-self-inside-requires-clause-kept : goal.kept_or_sought-self-inside-requires-clause-kept
kept_or_sought-self-inside-requires-clause-kept c =
    let was = c.self.inside in
    let object = c.args.object in
    let slot = c.slot_of-slot.result in
    let slots = was.slots.items in
    let order = was.order.items in
    let stands = subst (λ os. StandsIn object.id slots os slot) c.deref-2.ensures.value (subst (λ ss. StandsIn object.id ss c.deref-2.result.now slot) c.deref.ensures.value c.slot_of-slot.ensures.stands) in
    let known : slot < length slots = subst (λ (os : List Object). slot < length os) c.deref.ensures.value c.slot_of-slot.ensures.known in
    let kind = ap (λ (o : Object). o.kind) (get_or_read slots slot c.index.result.now known c.index.ensures no_object) in
    λ stays. kept_equal c.deref-3.ensures.value c.deref-4.ensures.value (kept_set slots order was.tiles.tiles slot object c.self.invariant.0 stands was.controller c.self.invariant.4 (subst (λ k. Stays was.controller slot k object.kind) kind (c.stays-stays.ensures.0 stays)))
