-- The first of the objects to come is counted.
use Rattle.std.proofs.Common.{ap, ◌∙◌, length, arith}
use Rattle.std.specs.List.{sum_by}
use Rattle.std.proofs.lemmas.List.Sums.{sum_by-cons}
use Rattle.room_table.specs.declared.object.Object.{Object}
use Rattle.run_lines.proofs.lines.room_energy.Goals as goal

pub overflow_add-total : goal.overflow_add-total
overflow_add-total c =
    let steps = c.in-Some.ensures.steps in
    let many = ap length steps in
    omega arith

pub loop-object-preserved : goal.loop-object-preserved
loop-object-preserved c =
    let steps = c.in-Some.ensures.steps in
    let many = ap length steps in
    let more = ap (sum_by (λ (object : Object). object.energy)) steps ∙ sum_by-cons (λ (object : Object). object.energy) c.in-Some.object.now c.next.new.self in
    let was = c.loop-object.invariant.summed in
    record {
      summed = omega (arith, more, was);
      within = omega arith;
    }
