use Rattle.std.proofs.Common.{◌≡◌, ◌<◌, ◌≤◌, Some, List, length, get_or, sym, ap, subst, ◌∙◌, arith}
use Rattle.std.specs.List.Sorted.{IsPartitionPoint}
use Rattle.std.proofs.lemmas.List.{get_or_read}
use Rattle.room_table.specs.declared.object.Object.{Object}
use Rattle.room_table.specs.Tables.{Table, find_from}
use Rattle.room_table.specs.inner.Placed.{no_object, object_in, standing}
use Rattle.room_table.proofs.Changed.{standing_equal, from_there, from_nowhere}
use Rattle.room_table.proofs.Placed.{object_at, count_standing, known_at}
use Rattle.room_table.proofs.room_table.RoomTable.next_from.Goals as goal

pub returns-then-place-len : goal.returns-then-place-len
returns-then-place-len c =
    let was = c.self.inside in
    let slots = was.slots.items in
    let order = was.order.items in
    let id = c.args.id in
    let place = c.place-place.result in
    let placed = c.self.invariant.0 in
    let within : place < length order = omega (arith, c.if-place-len.true, c.len.ensures, was.order.ok.0) in
    let same = standing_equal c.deref.ensures.value c.deref-2.ensures.value in
    let point = subst (λ (os : List Object). IsPartitionPoint (λ (o : Object). o.id < id) (λ (o : Object). id ≤ o.id) os place) same c.place-place.ensures.between in
    let found = from_there (standing slots order) place id point (omega (arith, within, count_standing slots order)) in
    let slot : c.index.result.now ≡ get_or order place 0 = get_or_read order place c.index.result.now within c.index.ensures 0 in
    let known : c.index.result.now < length slots = subst (λ n. n < length slots) (sym slot) (known_at slots order place placed.known within) in
    let read = get_or_read slots c.index.result.now c.index-then-place-len.result.now known c.index-then-place-len.ensures no_object ∙ ap (object_in slots) slot in
    ap Some (read ∙ sym (object_at slots order place no_object within)) ∙ sym found ∙ ap (λ (t : Table). find_from id t.objects) c.self.view_is

pub returns-else-place-len : goal.returns-else-place-len
returns-else-place-len c =
    let was = c.self.inside in
    let slots = was.slots.items in
    let order = was.order.items in
    let id = c.args.id in
    let place = c.place-place.result in
    let past : length order ≤ place = omega (arith, c.if-place-len.false, c.len.ensures, was.order.ok.0) in
    let same = standing_equal c.deref.ensures.value c.deref-2.ensures.value in
    let point = subst (λ (os : List Object). IsPartitionPoint (λ (o : Object). o.id < id) (λ (o : Object). id ≤ o.id) os place) same c.place-place.ensures.between in
    sym (from_nowhere (standing slots order) place id point (omega (arith, past, count_standing slots order))) ∙ ap (λ (t : Table). find_from id t.objects) c.self.view_is
