use Rattle.std.proofs.Common.{◌≡◌, ◌<◌, ◌≤◌, ◌-◌, ◌+◌, ◌∷◌, [], ◌++◌, length, sym, ap, subst, ◌∙◌, arith}
use Rattle.std.specs.List.{AllByRecursion, insert}
use Rattle.std.specs.Vec.{vec_len, vec_capacity}
use Rattle.std.proofs.lemmas.Bool.{cond-true, not-true}
use Rattle.std.proofs.lemmas.List.{length_push}
use Rattle.std.proofs.lemmas.List.Edits.{length-insert}
use Rattle.room_table.specs.inner.Owners.{Covers}
use Rattle.room_table.specs.inner.Placed.{standing, tile_of_object}
use Rattle.room_table.specs.Tables.{Table, HasNoId, with_new}
use Rattle.room_table.specs.Tallies.{no_tally}
use Rattle.room_table.specs.inner.Tallied.{IsCapped}
use Rattle.room_table.proofs.Tallied.{none_capped}
use Rattle.room_table.proofs.TallyChanges.{capped_push, tallied_equal, tallied_insert}
use Rattle.room_table.proofs.Changed.{standing_equal, placed_equal, inserted}
use Rattle.room_table.proofs.Kept.{kept_equal, kept_insert, known_equal}
use Rattle.room_table.proofs.Owned.{covers_insert}
use Rattle.room_table.proofs.room_table.RoomTable.insert.Goals as goal

pub invariant_of-self : goal.invariant_of-self
invariant_of-self c =
    let was = c.self.inside in
    let object = c.args.object in
    let place = c.place-place.result in
    let slots = was.slots.items in
    let order = was.order.items in
    let tiles = was.tiles.tiles in
    let room = c.self.invariant.1 in
    let absent = subst (HasNoId object.id) (sym (ap (λ (t : Table). t.objects) c.self.view_is)) c.requires.absent in
    let done = inserted slots order tiles place object _ (standing_equal c.deref.ensures.value c.deref-2.ensures.value) c.self.invariant.0 c.place-place.ensures.within c.place-place.ensures.between absent in
    let one : 1 ≤ was.spare = omega (arith, ap (λ (t : Table). t.spare) c.self.view_is, c.requires.room) in
    let long : c.len-slot.result ≡ length slots = omega (arith, c.len-slot.ensures, was.slots.ok.0) in
    let slots_room : vec_len was.slots < vec_capacity was.slots = omega (arith, room.slots_room, one, was.slots.ok.0) in
    let order_room : vec_len was.order < vec_capacity was.order = omega (arith, room.order_room, one, was.order.ok.0) in
    let new_slots : c.push.new.self.items ≡ slots ++ object ∷ [] = c.push.ensures.items ∙ cond-true _ _ _ (c.push.ensures.succeeds slots_room) in
    let new_order : c.insert.new.self.items ≡ insert order place (length slots) = c.insert.ensures.items ∙ cond-true _ _ _ (c.insert.ensures.succeeds order_room) ∙ ap (insert order place) long in
    let beside = c.self.invariant.2 in
    let tallies_room : vec_len was.tallies < vec_capacity was.tallies = omega (arith, beside.room, beside.long, one, was.tallies.ok.0) in
    let new_tallies : c.push-2.new.self.items ≡ was.tallies.items ++ no_tally ∷ [] = c.push-2.ensures.items ∙ cond-true _ _ _ (c.push-2.ensures.succeeds tallies_room) in
    let new_tiles : c.add-2.new.self.tiles ≡ tiles ++ tile_of_object object ∷ [] = c.add-2.ensures.tiles ∙ ap (λ t. tiles ++ t ∷ []) c.tile_of.ensures in
    let slots_count = ap length new_slots ∙ length_push slots object in
    let order_count = ap length new_order ∙ length-insert order place (length slots) done.within in
    let tiles_count = ap length new_tiles ∙ length_push tiles (tile_of_object object) in (
      placed_equal new_slots new_order new_tiles done.placed,
      record {
        count = omega (arith, room.count, slots_count, one);
        slots_room = omega (arith, room.slots_room, slots_count, one, c.push.ensures.capacity);
        order_room = omega (arith, room.order_room, order_count, one, c.insert.ensures.capacity);
        tiles_room = omega (arith, room.tiles_room, tiles_count, one, c.add-2.ensures.room);
        heads = λ _. c.add-2.ensures.heads;
      },
      record {
        long = ap length new_tallies ∙ length_push was.tallies.items no_tally ∙ ap (λ n. n + 1) beside.long ∙ sym slots_count;
        room = omega (arith, beside.room, slots_count, one, c.push-2.ensures.capacity);
        capped = subst (AllByRecursion IsCapped) (sym new_tallies) (capped_push was.tallies.items no_tally beside.capped none_capped);
      },
      subst (Covers c.add.new.self.remainders) (sym (standing_equal new_slots new_order ∙ done.stands)) (covers_insert _ _ object c.add.ensures.added c.add.ensures.kept (standing slots order) c.self.invariant.3 place),
      kept_equal (sym c.deref-3.ensures.value) (sym c.deref-4.ensures.value) c.kept_or_sought-self-inside.ensures,
    )

pub returns : goal.returns
returns c =
    let was = c.self.inside in
    let object = c.args.object in
    let place = c.place-place.result in
    let slots = was.slots.items in
    let order = was.order.items in
    let room = c.self.invariant.1 in
    let absent = subst (HasNoId object.id) (sym (ap (λ (t : Table). t.objects) c.self.view_is)) c.requires.absent in
    let done = inserted slots order was.tiles.tiles place object _ (standing_equal c.deref.ensures.value c.deref-2.ensures.value) c.self.invariant.0 c.place-place.ensures.within c.place-place.ensures.between absent in
    let one : 1 ≤ was.spare = omega (arith, ap (λ (t : Table). t.spare) c.self.view_is, c.requires.room) in
    let long : c.len-slot.result ≡ length slots = omega (arith, c.len-slot.ensures, was.slots.ok.0) in
    let slots_room : vec_len was.slots < vec_capacity was.slots = omega (arith, room.slots_room, one, was.slots.ok.0) in
    let order_room : vec_len was.order < vec_capacity was.order = omega (arith, room.order_room, one, was.order.ok.0) in
    let new_slots : c.push.new.self.items ≡ slots ++ object ∷ [] = c.push.ensures.items ∙ cond-true _ _ _ (c.push.ensures.succeeds slots_room) in
    let new_order : c.insert.new.self.items ≡ insert order place (length slots) = c.insert.ensures.items ∙ cond-true _ _ _ (c.insert.ensures.succeeds order_room) ∙ ap (insert order place) long in
    let beside = c.self.invariant.2 in
    let tallies_room : vec_len was.tallies < vec_capacity was.tallies = omega (arith, beside.room, beside.long, one, was.tallies.ok.0) in
    let new_tallies : c.push-2.new.self.items ≡ was.tallies.items ++ no_tally ∷ [] = c.push-2.ensures.items ∙ cond-true _ _ _ (c.push-2.ensures.succeeds tallies_room) in
    (λ i. record {
      index = was.index;
      next = was.next;
      objects = (standing_equal new_slots new_order ∙ done.stands ∙ done.objects) i;
      spare = was.spare - 1;
      tallies = (tallied_equal new_slots new_tallies new_order ∙ tallied_insert slots was.tallies.items order place object c.self.invariant.0.known beside.long done.stands) i;
    }) ∙ ap (λ (t : Table). record t { objects = with_new object t.objects; spare = t.spare - 1 }) c.self.view_is

pub kept_or_sought-self-inside-requires : goal.kept_or_sought-self-inside-requires
kept_or_sought-self-inside-requires c =
    let was = c.self.inside in
    let object = c.args.object in
    let place = c.place-place.result in
    let slots = was.slots.items in
    let order = was.order.items in
    let room = c.self.invariant.1 in
    let absent = subst (HasNoId object.id) (sym (ap (λ (t : Table). t.objects) c.self.view_is)) c.requires.absent in
    let done = inserted slots order was.tiles.tiles place object _ (standing_equal c.deref.ensures.value c.deref-2.ensures.value) c.self.invariant.0 c.place-place.ensures.within c.place-place.ensures.between absent in
    let one : 1 ≤ was.spare = omega (arith, ap (λ (t : Table). t.spare) c.self.view_is, c.requires.room) in
    let long : c.len-slot.result ≡ length slots = omega (arith, c.len-slot.ensures, was.slots.ok.0) in
    let slots_room : vec_len was.slots < vec_capacity was.slots = omega (arith, room.slots_room, one, was.slots.ok.0) in
    let order_room : vec_len was.order < vec_capacity was.order = omega (arith, room.order_room, one, was.order.ok.0) in
    let new_slots : c.push.new.self.items ≡ slots ++ object ∷ [] = c.push.ensures.items ∙ cond-true _ _ _ (c.push.ensures.succeeds slots_room) in
    let new_order : c.insert.new.self.items ≡ insert order place (length slots) = c.insert.ensures.items ∙ cond-true _ _ _ (c.insert.ensures.succeeds order_room) ∙ ap (insert order place) long in record {
      known = known_equal (c.deref-3.ensures.value ∙ new_slots) (c.deref-4.ensures.value ∙ new_order) done.placed.known;
      kept = λ stays. kept_equal (c.deref-3.ensures.value ∙ new_slots) (c.deref-4.ensures.value ∙ new_order) (kept_insert slots order was.tiles.tiles place object was.controller c.self.invariant.0 done.within c.self.invariant.4 (sym c.is_controller-stays.ensures ∙ not-true c.is_controller-stays.result stays));
    }
