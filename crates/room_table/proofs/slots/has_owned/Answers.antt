use Rattle.std.proofs.Common.{◌==◌, Bool, sym, ap, ◌∙◌, arith, eq-eqb}
use Rattle.std.proofs.lemmas.List.{length-map}
use Rattle.room_table.specs.declared.object.Object.{Object}
use Rattle.room_table.specs.inner.Placed.{no_object, object_in, standing}
use Rattle.room_table.proofs.Searched.{any_at, any_nowhere}
use Rattle.room_table.proofs.Placed.{object_at, object_read}
use Rattle.room_table.proofs.slots.has_owned.Goals as goal

pub returns-then-slots-slot : goal.returns-then-slots-slot
returns-then-slots-slot c =
    let slots = c.args.slots.now in
    let order = c.args.order.now in
    let i = c.loop-slot.slot-index in
    let is_his : Object → Bool = λ (o : Object). o.owner == c.args.player in
    let read = object_read slots order i c.index-slots-slot.result c.requires c.loop-slot-test.true c.index-slots-slot.is in
    sym (any_at is_his (standing slots order) i no_object (omega (arith, length-map order (object_in slots))) (ap is_his (object_at slots order i no_object c.loop-slot-test.true ∙ sym read ∙ c.index-slots-slot.is) ∙ eq-eqb _ _ c.if-slots-slot.true))

pub returns : goal.returns
returns c =
    let slots = c.args.slots.now in
    let order = c.args.order.now in
    let is_his : Object → Bool = λ (o : Object). o.owner == c.args.player in
    let count = length-map order (object_in slots) in
    sym (any_nowhere is_his (standing slots order) no_object (λ i within. ap is_his (object_at slots order i no_object (omega arith)) ∙ c.loop-slot.invariant i (omega arith)))
