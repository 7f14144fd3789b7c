use Rattle.std.proofs.Common.{◌<◌, ◌==◌, ◌&&◌, Bool, Some, length, option_map, sym, ap, ◌∙◌, arith}
use Rattle.std.proofs.lemmas.List.{length-map}
use Rattle.game_tables.specs.Numbers.{kind_number}
use Rattle.room_table.specs.declared.object.Object.{Object}
use Rattle.room_table.specs.inner.Placed.{no_object, object_in, standing}
use Rattle.room_table.proofs.Keyed.{id_of}
use Rattle.room_table.proofs.Searched.{find_at, find_nowhere}
use Rattle.room_table.proofs.Placed.{object_at, object_read}
use Rattle.room_table.proofs.slots.search.Goals as goal

pub returns-then-is_on : goal.returns-then-is_on
returns-then-is_on c =
    let slots = c.args.slots.now in
    let order = c.args.order.now in
    let i = c.loop-slot.slot-index in
    let is_on : Object → Bool = λ (o : Object). (o.x == c.args.x) && (o.y == c.args.y) && (kind_number o.kind == kind_number c.args.kind) in
    let count = length-map order (object_in slots) in
    let within : i < length order = c.loop-slot-test.true in
    let read = object_read slots order i c.index-slots-slot.result c.requires within c.index-slots-slot.is in
    let here = ap is_on (object_at slots order i no_object within ∙ sym read) ∙ sym c.is_on.ensures ∙ c.if-is_on.true in
    let found = find_at is_on (standing slots order) i no_object (omega arith) here (λ k lt. ap is_on (object_at slots order k no_object (omega arith)) ∙ c.loop-slot.invariant k lt) in
    ap (λ (o : Object). Some o.id) (read ∙ sym (object_at slots order i no_object within)) ∙ ap (option_map id_of) (sym found)

pub returns : goal.returns
returns c =
    let slots = c.args.slots.now in
    let order = c.args.order.now in
    let is_on : Object → Bool = λ (o : Object). (o.x == c.args.x) && (o.y == c.args.y) && (kind_number o.kind == kind_number c.args.kind) in
    let count = length-map order (object_in slots) in
    ap (option_map id_of) (sym (find_nowhere is_on (standing slots order) no_object (λ i within. ap is_on (object_at slots order i no_object (omega arith)) ∙ c.loop-slot.invariant i (omega arith))))
