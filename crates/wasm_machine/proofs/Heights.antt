-- How many levels a step may add.
use Rattle.std.proofs.Common.{◌≡◌, ℕ, suc, ◌+◌, ◌≤◌, length, arith}
use Rattle.wasm_steps.specs.Program.{Program, Function}
use Rattle.wasm_values.specs.Syntax.{Ops}
use Rattle.wasm_steps.specs.Threads.{Thread, Leaves, leaves_label, leaves_frame, Branches, branches_here, branches_out, branches_further, Returns, returns_here, returns_further}
use Rattle.wasm_steps.specs.Steps.{Meaning, State, Calls, calls_own, calls_host, Step, step_leaves, step_plain, step_block, step_loop, step_then, step_else, step_br, step_br_if, step_no_br_if, step_br_table, step_return, step_call, step_call_indirect}

pub leaving_lowers : (t after : Thread) → Leaves t after → length t.levels ≡ suc (length after.levels)
leaving_lowers t after leaves_label = omega arith
leaving_lowers t after leaves_frame = omega arith

branching_lowers : (to : ℕ) (t after : Thread) → Branches to t after → length after.levels ≤ length t.levels
branching_lowers to t after branches_here = omega arith
branching_lowers to t after branches_out = omega arith
branching_lowers to t after (branches_further {target = outer} {code = code} {operands = operands} {locals = locals} {levels = levels} b) =
    let k = branching_lowers outer (record { code = code; operands = operands; locals = locals; levels = levels }) after b in omega arith

returning_lowers : (t after : Thread) → Returns t after → length after.levels ≤ length t.levels
returning_lowers t after returns_here = omega arith
returning_lowers t after (returns_further {code = code} {operands = operands} {locals = locals} {levels = levels} b) =
    let k = returning_lowers (record { code = code; operands = operands; locals = locals; levels = levels }) after b in omega arith

calling_raises : {S : Type 0} (H : Meaning S) (found : Function) (rest : Ops) (s after : State S) → Calls H found rest s after → length after.thread.levels ≤ length s.thread.levels + 1
calling_raises H found rest s after (calls_own few room) = omega arith
calling_raises H found rest s after (calls_host room answers) = omega arith

pub stepping_raises : {S : Type 0} (program : Program) (H : Meaning S) (s after : State S) (cost : ℕ) → Step program H s cost after → length after.thread.levels ≤ length s.thread.levels + 1
stepping_raises program H s after cost (step_leaves {thread = thread} leaves) = omega (arith, leaving_lowers s.thread thread leaves)
stepping_raises program H s after cost (step_plain e does room) = omega arith
stepping_raises program H s after cost (step_block e) = omega arith
stepping_raises program H s after cost (step_loop e) = omega arith
stepping_raises program H s after cost (step_then e top some) = omega arith
stepping_raises program H s after cost (step_else e top) = omega arith
stepping_raises program H s after cost (step_br {target = to} {thread = thread} e b) = omega (arith, branching_lowers to s.thread thread b)
stepping_raises program H s after cost (step_br_if {target = to} {below = below} {thread = thread} e top some b) = omega (arith, branching_lowers to (record s.thread { operands = below }) thread b)
stepping_raises program H s after cost (step_no_br_if e top) = omega arith
stepping_raises program H s after cost (step_br_table {target = to} {below = below} {thread = thread} e top at b) = omega (arith, branching_lowers to (record s.thread { operands = below }) thread b)
stepping_raises program H s after cost (step_return {thread = thread} e b) = omega (arith, returning_lowers s.thread thread b)
stepping_raises program H s after cost (step_call {rest = rest} {found = found} e known calls) = calling_raises H found rest s after calls
stepping_raises program H s after cost (step_call_indirect {rest = rest} {below = below} {found = found} e top finds calls) = calling_raises H found rest (record s { thread = record s.thread { operands = below } }) after calls
