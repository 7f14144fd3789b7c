use Rattle.std.proofs.Common.{◌≡◌, ◌<◌, List, ℕ, length, get_or, sym, ap, subst, ◌∙◌, arith}
use Rattle.std.proofs.lemmas.List.{get_or_read}
use Rattle.room_table.specs.declared.object.Object.{Object}
use Rattle.room_table.specs.Tables.{HasNoId, Table}
use Rattle.room_table.specs.Tallies.{tally_of, no_tally}
use Rattle.room_table.specs.inner.Placed.{no_object}
use Rattle.room_table.specs.inner.Tallied.{tally_in}
use Rattle.room_table.proofs.Keyed.{id_of}
use Rattle.room_table.proofs.Changed.{standing_equal}
use Rattle.room_table.proofs.Placed.{known_at, object_at}
use Rattle.room_table.proofs.TallyChanges.{tally_placed, tally_absent}
use Rattle.room_table.proofs.room_table.RoomTable.tally.Goals as goal

pub returns-in-Some : goal.returns-in-Some
returns-in-Some c =
    let was = c.self.inside in
    let slots = was.slots.items in
    let order = was.order.items in
    let tallies = was.tallies.items in
    let place = c.in-Some.place in
    let placed = c.self.invariant.0 in
    let long = c.self.invariant.2.long in
    let within : place < length order = subst (λ (xs : List ℕ). place < length xs) c.deref-2.ensures.value c.in-Some.ensures.found.0 in
    let its = ap id_of (sym (object_at slots order place no_object within)) ∙ ap (λ (os : List Object). id_of (get_or os place no_object)) (sym (standing_equal c.deref.ensures.value c.deref-2.ensures.value)) ∙ c.in-Some.ensures.found.1 no_object in
    let slot : c.index.result.now ≡ get_or order place 0 = get_or_read order place c.index.result.now within c.index.ensures 0 in
    let known : c.index.result.now < length tallies = omega (arith, slot, known_at slots order place placed.known within, long) in
    get_or_read tallies c.index.result.now c.index-in-Some.result.now known c.index-in-Some.ensures no_tally
    ∙ ap (tally_in tallies) slot
    ∙ sym (tally_placed slots tallies order placed.rising place c.args.id within its)
    ∙ ap (λ (t : Table). tally_of c.args.id t.tallies) c.self.view_is

pub returns-in-None : goal.returns-in-None
returns-in-None c =
    let was = c.self.inside in
    let absent = subst (HasNoId c.args.id) (standing_equal c.deref.ensures.value c.deref-2.ensures.value) c.in-None.ensures.absent in
    sym (tally_absent was.slots.items was.tallies.items was.order.items c.args.id absent) ∙ ap (λ (t : Table). tally_of c.args.id t.tallies) c.self.view_is
