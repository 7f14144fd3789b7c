use Rattle.std.proofs.Common.{◌<◌, ◌&&◌, Bool, Some, leb, length, sym, ap, ◌∙◌, arith}
use Rattle.std.proofs.lemmas.List.{length-map}
use Rattle.room_table.specs.declared.object.Object.{Object}
use Rattle.room_table.specs.Tables.{is_on}
use Rattle.room_table.specs.inner.Placed.{no_object, object_in, standing}
use Rattle.room_table.proofs.Searched.{find_at, find_nowhere}
use Rattle.room_table.proofs.Placed.{object_at, object_read}
use Rattle.room_table.proofs.slots.search_next.Goals as goal

pub returns-then-is_next_on : goal.returns-then-is_next_on
returns-then-is_next_on c =
    let slots = c.args.slots.now in
    let order = c.args.order.now in
    let i = c.loop-slot.slot-index in
    let is_next : Object → Bool = λ (o : Object). is_on c.args.x c.args.y o && leb c.args.id o.id in
    let count = length-map order (object_in slots) in
    let within : i < length order = c.loop-slot-test.true in
    let read = object_read slots order i c.index-slots-slot.result c.requires within c.index-slots-slot.is in
    let here = ap is_next (object_at slots order i no_object within ∙ sym read) ∙ sym c.is_next_on.ensures ∙ c.if-is_next_on.true in
    let found = find_at is_next (standing slots order) i no_object (omega arith) here (λ k lt. ap is_next (object_at slots order k no_object (omega arith)) ∙ c.loop-slot.invariant k lt) in
    ap Some (read ∙ sym (object_at slots order i no_object within)) ∙ sym found

pub returns : goal.returns
returns c =
    let slots = c.args.slots.now in
    let order = c.args.order.now in
    let is_next : Object → Bool = λ (o : Object). is_on c.args.x c.args.y o && leb c.args.id o.id in
    let count = length-map order (object_in slots) in
    sym (find_nowhere is_next (standing slots order) no_object (λ i within. ap is_next (object_at slots order i no_object (omega arith)) ∙ c.loop-slot.invariant i (omega arith)))
