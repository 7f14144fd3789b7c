use Rattle.std.proofs.Common.{◌≡◌, ◌+◌, ◌-◌, ◌*◌, ◌≤◌, length, vec_capacity}
use Rattle.wasm_steps.specs.Runs.{Steps}
use Rattle.wasm_stack.specs.Standing.{held}
use Rattle.wasm_stack.specs.View.{ops_at}
use Rattle.wasm_link.specs.Callee.{store_view}
use Rattle.wasm_machine.specs.Machine.{base_of, program_of, state_of, IsSoundAt}
use Rattle.wasm_machine.proofs.run.run_from.Given as goal

abbrev pub invariant-loop-instr : goal.invariant-loop-instr
invariant-loop-instr g l = record {
  within : l.used ≤ l.fuel;
  so_far : Steps (program_of l.linked) g.H.Host.answers (state_of (ops_at l.fn.first) (held l.fn.stack) (store_view l.fn.stored) l.fn.host) l.used (state_of (ops_at l.here) (held l.stack) (store_view l.stored) l.host);
  sound : IsSoundAt (base_of l.linked) (ops_at l.here) (held l.stack) (store_view l.stored);
  capacity : vec_capacity l.arguments ≡ vec_capacity l.fn.arguments;
}

abbrev pub decreases-loop-instr : goal.decreases-loop-instr
decreases-loop-instr g l = 2 * (l.fuel - l.used) + length (held l.stack).levels
