use Rattle.std.proofs.Common.{◌<◌, Bool, Some, length, sym, ap, ◌∙◌, arith}
use Rattle.std.proofs.lemmas.List.{length-map}
use Rattle.game_tables.specs.Kinds.{is_controller}
use Rattle.room_table.specs.declared.object.Object.{Object}
use Rattle.room_table.specs.inner.Placed.{no_object, object_in, standing}
use Rattle.room_table.proofs.Searched.{find_at, find_nowhere}
use Rattle.room_table.proofs.Placed.{object_at, object_read, known_at}
use Rattle.room_table.proofs.controller.controller_slot.Goals as goal

pub returns-then-is_controller : goal.returns-then-is_controller
returns-then-is_controller c =
    let slots = c.args.slots.now in
    let order = c.args.order.now in
    let i = c.loop-slot.slot-index in
    let is_it : Object → Bool = λ (o : Object). is_controller o.kind in
    let count = length-map order (object_in slots) in
    let within : i < length order = c.loop-slot-test.true in
    let read = object_read slots order i c.index-slots-slot.result c.requires within c.index-slots-slot.is in
    let here = ap is_it (object_at slots order i no_object within ∙ sym read ∙ c.index-slots-slot.is) ∙ sym c.is_controller.ensures ∙ c.if-is_controller.true in
    let found = find_at is_it (standing slots order) i no_object (omega arith) here (λ k lt. ap is_it (object_at slots order k no_object (omega arith)) ∙ c.loop-slot.invariant k lt) in record {
      known = known_at slots order i c.requires within;
      its = ap Some (sym (object_at slots order i no_object within)) ∙ sym found;
    }

pub returns : goal.returns
returns c =
    let slots = c.args.slots.now in
    let order = c.args.order.now in
    let is_it : Object → Bool = λ (o : Object). is_controller o.kind in
    let count = length-map order (object_in slots) in record {
      known = tt;
      its = sym (find_nowhere is_it (standing slots order) no_object (λ i within. ap is_it (object_at slots order i no_object (omega arith)) ∙ c.loop-slot.invariant i (omega arith)));
    }
