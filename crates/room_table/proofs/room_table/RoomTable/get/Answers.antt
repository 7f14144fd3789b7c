use Rattle.std.proofs.Common.{◌≡◌, ◌<◌, Some, List, ℕ, length, get_or, sym, ap, subst, ◌∙◌}
use Rattle.std.proofs.lemmas.List.{get_or_read}
use Rattle.room_table.specs.Tables.{Table, find_object}
use Rattle.room_table.specs.inner.Placed.{no_object, object_in}
use Rattle.room_table.proofs.Placed.{known_at}
use Rattle.room_table.proofs.Changed.{standing_equal, taken}
use Rattle.room_table.proofs.room_table.RoomTable.get.Goals as goal

pub returns : goal.returns
returns c =
    let slots = c.self.inside.slots.items in
    let order = c.self.inside.order.items in
    let place = c.in_ok-place.place in
    let placed = c.self.invariant.0 in
    let within : place < length order = subst (λ (xs : List ℕ). place < length xs) c.deref-2.ensures.value c.in_ok-place.ensures.found.0 in
    let found = taken slots order c.self.inside.tiles.tiles place c.args.id _ (standing_equal c.deref.ensures.value c.deref-2.ensures.value) placed within c.in_ok-place.ensures.found.1 in
    let slot : c.index.result.now ≡ get_or order place 0 = get_or_read order place c.index.result.now within c.index.ensures 0 in
    let known : c.index.result.now < length slots = subst (λ n. n < length slots) (sym slot) (known_at slots order place placed.known within) in
    let read = get_or_read slots c.index.result.now c.index-2.result.now known c.index-2.ensures no_object ∙ ap (object_in slots) slot in
    ap Some read ∙ sym found.found ∙ ap (λ (t : Table). find_object c.args.id t.objects) c.self.view_is
