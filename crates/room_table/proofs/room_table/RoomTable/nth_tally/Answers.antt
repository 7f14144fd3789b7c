use Rattle.std.proofs.Common.{◌≡◌, ◌<◌, List, length, get_or, slice_get, sym, ap, ◌∙◌, arith}
use Rattle.std.proofs.lemmas.List.{get_or_read}
use Rattle.std.proofs.lemmas.Option.{get_or_from_slice_get}
use Rattle.room_table.specs.declared.object.Object.{Object}
use Rattle.room_table.specs.Tables.{Table}
use Rattle.room_table.specs.Tallies.{no_tally, tally_of}
use Rattle.room_table.specs.inner.Placed.{no_object, standing}
use Rattle.room_table.specs.inner.Tallied.{tally_in}
use Rattle.room_table.proofs.Keyed.{id_of}
use Rattle.room_table.proofs.Placed.{count_standing, known_at, object_at}
use Rattle.room_table.proofs.TallyChanges.{tally_placed}
use Rattle.room_table.proofs.room_table.RoomTable.nth_tally.Goals as goal

pub returns : goal.returns
returns c =
    let was = c.self.inside in
    let slots = was.slots.items in
    let order = was.order.items in
    let tallies = was.tallies.items in
    let i = c.args.i in
    let placed = c.self.invariant.0 in
    let long = c.self.invariant.2.long in
    let objects = ap (λ (t : Table). t.objects) c.self.view_is in
    let within : i < length order = omega (arith, ap length objects, count_standing slots order, c.requires) in
    let slot : c.index.result.now ≡ get_or order i 0 = get_or_read order i c.index.result.now within c.index.ensures 0 in
    let known : c.index.result.now < length tallies = omega (arith, slot, known_at slots order i placed.known within, long) in
    let read = get_or_read tallies c.index.result.now c.index-2.result.now known c.index-2.ensures no_tally ∙ ap (tally_in tallies) slot in
    λ (object : Object) is.
    let at = get_or_from_slice_get (standing slots order) i object no_object (ap (λ (os : List Object). slice_get os i) objects ∙ is) in
    let its = ap id_of (sym (object_at slots order i no_object within) ∙ at) in
    read ∙ sym (tally_placed slots tallies order placed.rising i object.id within its) ∙ ap (λ (t : Table). tally_of object.id t.tallies) c.self.view_is
