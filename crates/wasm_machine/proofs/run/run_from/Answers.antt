use Rattle.std.proofs.Common.{refl, ◌∙◌, arith}
use Rattle.wasm_values.specs.Syntax.{next}
use Rattle.wasm_values.specs.View.{instr_view}
use Rattle.wasm_steps.specs.Runs.{no_step, one_more}
use Rattle.wasm_stack.specs.Standing.{held}
use Rattle.wasm_stack.specs.View.{ops_at}
use Rattle.wasm_link.specs.Callee.{store_view}
use Rattle.wasm_machine.specs.Machine.{base_of, program_of}
use Rattle.wasm_machine.proofs.Looping.{at_end, left_more, finished, spent, trapped, left_typed, left_lower, ran_higher, seen_more}
use Rattle.wasm_machine.proofs.run.run_from.Goals as goal

pub loop-instr-init : goal.loop-instr-init
loop-instr-init g c = record { within = omega arith; so_far = no_step; sound = c.requires.sound; capacity = refl }

pub leave-requires : goal.leave-requires
leave-requires g c = at_end (base_of c.args.linked.now) (ops_at c.loop-instr.here) (held c.loop-instr.stack) (store_view c.loop-instr.stored) c.loop-instr.invariant.sound c.in_default.ensures.left

pub returns-in-None-clause-ends : goal.returns-in-None-clause-ends
returns-in-None-clause-ends g c =
    let i = c.loop-instr.invariant in
    finished (ops_at c.loop-instr.here) (held c.loop-instr.stack) (store_view c.loop-instr.stored) c.loop-instr.host c.loop-instr.used c.args.fuel i.within i.so_far c.in_default.ensures.left c.in-None.ensures.0

pub loop-instr-smaller-in_default : goal.loop-instr-smaller-in_default
loop-instr-smaller-in_default g c =
    let e = left_lower (ops_at c.in-Some-leave.place) (held c.loop-instr.stack) (held c.leave.new.self) c.in-Some-leave.ensures in
    omega (arith, e)

pub loop-instr-preserved-in_default : goal.loop-instr-preserved-in_default
loop-instr-preserved-in_default g c =
    let i = c.loop-instr.invariant in
    record {
      within = i.within;
      so_far = left_more (ops_at c.loop-instr.here) (ops_at c.in-Some-leave.place) (held c.loop-instr.stack) (held c.leave.new.self) (store_view c.loop-instr.stored) c.loop-instr.host c.loop-instr.used i.so_far c.in_default.ensures.left c.in-Some-leave.ensures;
      sound = left_typed (base_of c.args.linked.now) (ops_at c.loop-instr.here) (ops_at c.in-Some-leave.place) (held c.loop-instr.stack) (held c.leave.new.self) (store_view c.loop-instr.stored) i.sound c.in_default.ensures.left c.in-Some-leave.ensures;
      capacity = i.capacity;
    }

pub returns-then-used-fuel-clause-ends : goal.returns-then-used-fuel-clause-ends
returns-then-used-fuel-clause-ends g c =
    let i = c.loop-instr.invariant in
    spent (ops_at c.loop-instr.here) (ops_at c.next.new.self) (instr_view c.in-Some.instr.now) (held c.loop-instr.stack) (store_view c.loop-instr.stored) c.loop-instr.host c.loop-instr.used c.args.fuel i.within c.if-used-fuel.true i.so_far c.in-Some.ensures.left

pub loop-instr-smaller : goal.loop-instr-smaller
loop-instr-smaller g c =
    let e = ran_higher (program_of c.args.linked.now) g.H.Host.answers (base_of c.args.linked.now) _ (ops_at c.in-Ok.place) (held c.loop-instr.stack) (held c.execute.new.stack) (store_view c.loop-instr.stored) (store_view c.execute.new.stored) c.loop-instr.host c.execute.new.host c.in-Ok.ensures.executes in
    omega (arith, e, c.if-used-fuel.false)

pub loop-instr-preserved : goal.loop-instr-preserved
loop-instr-preserved g c =
    let i = c.loop-instr.invariant in
    record {
      within = omega (arith, c.if-used-fuel.false);
      so_far = one_more (seen_more (ops_at c.loop-instr.here) (next (instr_view c.in-Some.instr.now) (ops_at c.next.new.self)) (held c.loop-instr.stack) (store_view c.loop-instr.stored) c.loop-instr.host c.loop-instr.used i.so_far c.in-Some.ensures.left) c.in-Ok.ensures.executes.step;
      sound = c.in-Ok.ensures.executes.sound;
      capacity = c.in-Ok.ensures.capacity ∙ i.capacity;
    }

pub returns-in-Err-clause-ends : goal.returns-in-Err-clause-ends
returns-in-Err-clause-ends g c =
    let i = c.loop-instr.invariant in
    trapped (ops_at c.loop-instr.here) (next (instr_view c.in-Some.instr.now) (ops_at c.next.new.self)) (held c.loop-instr.stack) (held c.execute.new.stack) (store_view c.loop-instr.stored) (store_view c.execute.new.stored) c.loop-instr.host c.execute.new.host c.loop-instr.used c.args.fuel c.in-Err.trap c.if-used-fuel.false i.so_far c.in-Some.ensures.left c.in-Err.ensures.executes
