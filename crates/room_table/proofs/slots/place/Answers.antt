use Rattle.std.proofs.Common.{◌≡◌, ◌<◌, ◌≤◌, ◌+◌, ◌-◌, ◌/◌, length, sym, ap, subst, arith}
use Rattle.std.proofs.lemmas.List.{length-map}
use Rattle.room_table.specs.declared.object.Object.{Object}
use Rattle.room_table.specs.inner.Placed.{object_in}
use Rattle.room_table.proofs.Keyed.{id_of}
use Rattle.room_table.proofs.Placed.{object_at, object_read, ids_rise}
use Rattle.room_table.proofs.slots.place.Goals as goal

pub loop-low-preserved-then-slots-order : goal.loop-low-preserved-then-slots-order
loop-low-preserved-then-slots-order c =
    let slots = c.args.slots.now in
    let order = c.args.order.now in
    let middle = c.loop-low.low + (c.loop-low.high - c.loop-low.low) / 2 in
    let within : middle < length order = omega (arith, c.loop-low-test.true) in
    let read = ap id_of (object_read slots order middle c.index-slots-order.result c.requires.known within c.index-slots-order.is) in
    let its = ap id_of c.index-slots-order.is in
    record {
      within = c.loop-low.invariant.within;
      ordered = omega (arith, c.loop-low-test.true);
      below = λ k lt. let least = ids_rise slots order c.requires.rising k middle (omega arith) within in omega (arith, least, read, its, c.if-slots-order.true);
      above = c.loop-low.invariant.above;
    }

pub loop-low-preserved : goal.loop-low-preserved
loop-low-preserved c =
    let slots = c.args.slots.now in
    let order = c.args.order.now in
    let middle = c.loop-low.low + (c.loop-low.high - c.loop-low.low) / 2 in
    let within : middle < length order = omega (arith, c.loop-low-test.true) in
    let read = ap id_of (object_read slots order middle c.index-slots-order.result c.requires.known within c.index-slots-order.is) in
    let its = ap id_of c.index-slots-order.is in
    record {
      within = omega (arith, within);
      ordered = omega arith;
      below = c.loop-low.invariant.below;
      above = λ k low lt. let least = ids_rise slots order c.requires.rising middle k low lt in omega (arith, least, read, its, c.if-slots-order.false);
    }

pub returns-clause-between : goal.returns-clause-between
returns-clause-between c =
    let slots = c.args.slots.now in
    let order = c.args.order.now in
    let low = c.loop-low.low in
    let count = length-map order (object_in slots) in
    let same : low ≡ c.loop-low.high = omega (arith, c.loop-low-test.false) in (
      (λ k d _ lt. subst (λ (o : Object). o.id < c.args.id) (sym (object_at slots order k d (omega arith))) (c.loop-low.invariant.below k lt)),
      (λ k d least lt. subst (λ (o : Object). c.args.id ≤ o.id) (sym (object_at slots order k d (omega arith))) (c.loop-low.invariant.above k (omega arith) (omega arith))),
    )
