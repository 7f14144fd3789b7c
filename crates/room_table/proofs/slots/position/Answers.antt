use Rattle.std.proofs.Common.{◌<◌, length, refl, sym, ap, ◌∙◌, arith}
use Rattle.std.proofs.lemmas.List.{length-map}
use Rattle.room_table.specs.inner.Placed.{object_in, standing}
use Rattle.room_table.proofs.Keyed.{id_of, rises_from_objects}
use Rattle.room_table.proofs.Rising.{absent_there}
use Rattle.room_table.proofs.Placed.{object_at, object_read}
use Rattle.room_table.proofs.slots.position.Goals as goal
use Rattle.room_table.proofs.slots.position.Goals.{else-place-order-via-then-place-order+else-slots-order, else-place-order-via-else-place-order}

pub returns-else-place-order-clause-absent : goal.returns-else-place-order-clause-absent
returns-else-place-order-clause-absent c =
    let slots = c.args.slots.now in
    let order = c.args.order.now in
    let place = c.place-place.result in
    let count = length-map order (object_in slots) in
    let absent = absent_there id_of c.args.id (standing slots order) (standing slots order) place refl (rises_from_objects _ c.requires.rising) c.place-place.ensures.within c.place-place.ensures.between in
    elim c.else-place-order.branch [
      | else-place-order-via-then-place-order+else-slots-order w ↦
          let within : place < length order = w.if-place-order.true in
          let read = object_read slots order place w.index-slots-order.result c.requires.known within w.index-slots-order.is in
          absent (λ d _ here. w.if-slots-order.false (ap id_of (sym w.index-slots-order.is ∙ read ∙ sym (object_at slots order place d within)) ∙ here))
      | else-place-order-via-else-place-order w ↦ absent (λ d within here. omega (arith, w.if-place-order.false))
    ]
