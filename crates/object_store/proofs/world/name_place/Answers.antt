use Rattle.std.proofs.Common.{◌≡◌, ◌<◌, ◌≤◌, ◌+◌, ◌-◌, ◌*◌, ◌/◌, ◌^◌, length, get_or, subst, inl, inr, arith}
use Rattle.std.proofs.lemmas.Bool.{both_ways, cases_lt}
use Rattle.std.proofs.lemmas.List.{get_or_default}
use Rattle.object_store.specs.inner.Naming.{room_names, sort_number}
use Rattle.room_table.proofs.Rising.{non_decreasing}
use Rattle.object_store.proofs.world.name_place.Goals as goal

pub loop-low-preserved-then-comes_before : goal.loop-low-preserved-then-comes_before
loop-low-preserved-then-comes_before c =
    let key = sort_number (room_names c.args.rooms.now) in
    let order = c.args.by_name.now in
    let middle = c.loop-low.low + (c.loop-low.high - c.loop-low.low) / 2 in
    let within : middle < length order = omega (arith, c.loop-low-test.true) in
    let lower : key (get_or order middle 0) < c.args.number * 2 ^ 32 + c.args.index = c.comes_before.ensures.0 c.if-comes_before.true in
    record {
      within = c.loop-low.invariant.within;
      ordered = omega (arith, c.loop-low-test.true);
      below = λ k lt. let least = non_decreasing key order c.requires.rising k middle 0 (omega arith) within in omega (arith, least, lower);
      above = c.loop-low.invariant.above;
    }

pub loop-low-preserved : goal.loop-low-preserved
loop-low-preserved c =
    let key = sort_number (room_names c.args.rooms.now) in
    let order = c.args.by_name.now in
    let middle = c.loop-low.low + (c.loop-low.high - c.loop-low.low) / 2 in
    let within : middle < length order = omega (arith, c.loop-low-test.true) in
    let upper : c.args.number * 2 ^ 32 + c.args.index ≤ key (get_or order middle 0) = elim (cases_lt (key (get_or order middle 0)) (c.args.number * 2 ^ 32 + c.args.index)) [
      | inl lower ↦ absurd (both_ways c.comes_before.result c.if-comes_before.false (c.comes_before.ensures.1 lower))
      | inr upper ↦ upper
    ] in
    record {
      within = omega (arith, within);
      ordered = omega arith;
      below = c.loop-low.invariant.below;
      above = λ k low lt. let least = non_decreasing key order c.requires.rising middle k 0 low lt in omega (arith, least, upper);
    }

pub returns-clause-between : goal.returns-clause-between
returns-clause-between c =
    let key = sort_number (room_names c.args.rooms.now) in
    let order = c.args.by_name.now in
    let low = c.loop-low.low in
    let goal_number = c.args.number * 2 ^ 32 + c.args.index in
    let same : low ≡ c.loop-low.high = omega (arith, c.loop-low-test.false) in (
      (λ k d _ lt. subst (λ n. key n < goal_number) (get_or_default order k 0 d (omega arith)) (c.loop-low.invariant.below k lt)),
      (λ k d least lt. subst (λ n. goal_number ≤ key n) (get_or_default order k 0 d lt) (c.loop-low.invariant.above k (omega arith) lt)),
    )
