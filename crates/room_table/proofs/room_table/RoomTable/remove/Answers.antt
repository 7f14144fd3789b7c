use Rattle.std.proofs.Common.{◌≡◌, ◌<◌, ◌+◌, ℕ, Some, List, length, get_or, set, sym, ap, subst, refl, ◌∙◌, arith, length-set}
use Rattle.std.proofs.lemmas.Bool.{not-true}
use Rattle.std.proofs.lemmas.List.{get_or_read}
use Rattle.std.proofs.lemmas.List.Edits.{length-remove}
use Rattle.room_table.specs.inner.Chains.{Chained}
use Rattle.room_table.specs.inner.Owners.{Covers}
use Rattle.room_table.specs.inner.Placed.{no_object, object_in, standing}
use Rattle.room_table.specs.Tables.{Table, HasNoId, find_object, removed}
use Rattle.room_table.specs.declared.object.Object.{Object}
use Rattle.std.specs.FinMap.{remove}
use Rattle.room_table.proofs.TallyChanges.{tallied_absent, tallied_equal, tallied_remove}
use Rattle.room_table.proofs.Changed.{standing_equal, placed_equal, taken}
use Rattle.room_table.proofs.Keyed.{id_of}
use Rattle.room_table.proofs.Kept.{is_it, kept_equal, kept_remove}
use Rattle.room_table.proofs.Owned.{covers_filter}
use Rattle.room_table.proofs.Placed.{known_at, object_at}
use Rattle.room_table.proofs.Rising.{is_other, others-absent}
use Rattle.room_table.proofs.room_table.RoomTable.remove.Goals as goal

pub returns-in_err-place-clause-table : goal.returns-in_err-place-clause-table
returns-in_err-place-clause-table c =
    let same = standing_equal c.deref.ensures.value c.deref-2.ensures.value ∙ ap (λ (t : Table). t.objects) c.self.view_is in
    let absent = subst (HasNoId c.args.id) same c.in_err-place.ensures.absent in
    let was = c.self.inside in
    let gone = subst (HasNoId c.args.id) (standing_equal c.deref.ensures.value c.deref-2.ensures.value) c.in_err-place.ensures.absent in
    let kept : c.args.self.now.tallies ≡ remove c.args.self.now.tallies c.args.id = subst (λ (t : Table). t.tallies ≡ remove t.tallies c.args.id) c.self.view_is (sym (tallied_absent was.slots.items was.tallies.items was.order.items c.args.id gone)) in
    λ i. record {
      index = c.args.self.now.index;
      next = c.args.self.now.next;
      objects = sym (others-absent id_of c.args.id c.args.self.now.objects absent) i;
      spare = c.args.self.now.spare;
      tallies = kept i;
    }

pub invariant_of-self : goal.invariant_of-self
invariant_of-self c =
    let was = c.self.inside in
    let slots = was.slots.items in
    let order = was.order.items in
    let tiles = was.tiles.tiles in
    let place = c.in_ok-place.place in
    let room = c.self.invariant.1 in
    let within : place < length order = subst (λ (xs : List ℕ). place < length xs) c.deref-2.ensures.value c.in_ok-place.ensures.found.0 in
    let done = taken slots order tiles place c.args.id _ (standing_equal c.deref.ensures.value c.deref-2.ensures.value) c.self.invariant.0 within c.in_ok-place.ensures.found.1 in
    let slot : c.remove-slot.result ≡ get_or order place 0 = get_or_read order place c.remove-slot.result within c.remove-slot.ensures.value 0 in
    let new_tiles : c.take.new.self.tiles ≡ set tiles (get_or order place 0) 2500 = ap (λ (t : Chained). t.tiles) c.take.ensures ∙ ap (λ n. set tiles n 2500) slot in
    let less = ap (λ (xs : List ℕ). length xs + 1) c.remove-slot.ensures.items ∙ length-remove order place within in
    let tiles_count = ap length new_tiles ∙ length-set tiles (get_or order place 0) 2500 in (
      placed_equal refl c.remove-slot.ensures.items new_tiles done.placed,
      record {
        count = room.count;
        slots_room = room.slots_room;
        order_room = omega (arith, room.order_room, less, c.remove-slot.ensures.capacity);
        tiles_room = omega (arith, room.tiles_room, tiles_count, ap (λ (t : Chained). t.room) c.take.ensures);
        heads = λ some. ap (λ (t : Chained). t.heads) c.take.ensures ∙ room.heads some;
      },
      c.self.invariant.2,
      subst (Covers was.owners.remainders) (sym (standing_equal refl c.remove-slot.ensures.items ∙ done.objects)) (covers_filter was.owners.remainders (is_other id_of c.args.id) (standing slots order) c.self.invariant.3),
      kept_equal (sym c.deref-3.ensures.value) (sym c.deref-4.ensures.value) c.kept_or_sought-self-inside.ensures,
    )

pub returns-clause-removed : goal.returns-clause-removed
returns-clause-removed c =
    let was = c.self.inside in
    let slots = was.slots.items in
    let order = was.order.items in
    let place = c.in_ok-place.place in
    let placed = c.self.invariant.0 in
    let within : place < length order = subst (λ (xs : List ℕ). place < length xs) c.deref-2.ensures.value c.in_ok-place.ensures.found.0 in
    let done = taken slots order was.tiles.tiles place c.args.id _ (standing_equal c.deref.ensures.value c.deref-2.ensures.value) placed within c.in_ok-place.ensures.found.1 in
    let slot : c.remove-slot.result ≡ get_or order place 0 = get_or_read order place c.remove-slot.result within c.remove-slot.ensures.value 0 in
    let known : c.remove-slot.result < length slots = subst (λ n. n < length slots) (sym slot) (known_at slots order place placed.known within) in
    let read = get_or_read slots c.remove-slot.result c.index-removed.result.now known c.index-removed.ensures no_object ∙ ap (object_in slots) slot in
    ap Some read ∙ sym done.found ∙ ap (λ (t : Table). find_object c.args.id t.objects) c.self.view_is

pub returns-clause-table : goal.returns-clause-table
returns-clause-table c =
    let was = c.self.inside in
    let order = was.order.items in
    let place = c.in_ok-place.place in
    let within : place < length order = subst (λ (xs : List ℕ). place < length xs) c.deref-2.ensures.value c.in_ok-place.ensures.found.0 in
    let done = taken was.slots.items order was.tiles.tiles place c.args.id _ (standing_equal c.deref.ensures.value c.deref-2.ensures.value) c.self.invariant.0 within c.in_ok-place.ensures.found.1 in
    let here = ap id_of (sym (object_at was.slots.items order place no_object within)) ∙ ap (λ (os : List Object). id_of (get_or os place no_object)) (sym (standing_equal c.deref.ensures.value c.deref-2.ensures.value)) ∙ c.in_ok-place.ensures.found.1 no_object in
    (λ i. record {
      index = was.index;
      next = was.next;
      objects = (standing_equal {slots = was.slots.items} refl c.remove-slot.ensures.items ∙ done.objects) i;
      spare = was.spare;
      tallies = (tallied_equal {slots = was.slots.items} {tallies = was.tallies.items} refl refl c.remove-slot.ensures.items ∙ tallied_remove was.slots.items was.tallies.items order place c.args.id done.objects here) i;
    }) ∙ ap (removed c.args.id) c.self.view_is

pub kept_or_sought-self-inside-requires-clause-kept : goal.kept_or_sought-self-inside-requires-clause-kept
kept_or_sought-self-inside-requires-clause-kept c =
    let was = c.self.inside in
    let slots = was.slots.items in
    let order = was.order.items in
    let place = c.in_ok-place.place in
    let placed = c.self.invariant.0 in
    let within : place < length order = subst (λ (xs : List ℕ). place < length xs) c.deref-2.ensures.value c.in_ok-place.ensures.found.0 in
    let slot : c.remove-slot.result ≡ get_or order place 0 = get_or_read order place c.remove-slot.result within c.remove-slot.ensures.value 0 in
    let known : c.remove-slot.result < length slots = subst (λ n. n < length slots) (sym slot) (known_at slots order place placed.known within) in
    let read = get_or_read slots c.remove-slot.result c.index-removed.result.now known c.index-removed.ensures no_object ∙ ap (object_in slots) slot in
    λ stays. kept_equal c.deref-3.ensures.value (c.deref-4.ensures.value ∙ c.remove-slot.ensures.items) (kept_remove slots order was.tiles.tiles place was.controller placed within c.self.invariant.4 (ap is_it (sym read) ∙ sym c.is_controller-stays.ensures ∙ not-true c.is_controller-stays.result stays))
