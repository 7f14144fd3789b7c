use Rattle.std.proofs.Common.{arith}
use Rattle.wasm_values.specs.Instructions.{is_load, is_store, is_float_memory}
use Rattle.wasm_values.proofs.Groups.{load_whole, load_part, store_whole, store_part, float_load, float_store}
use Rattle.wasm_values.proofs.Views.{view_load, view_store, view_float_memory}
use Rattle.wasm_values.proofs.leaves.memory_instr.Goals.{then-op-lt44, else-op-lt44+else-op-lt54+else-op-lt56+then-op-lt58, then-op-lt42, else-op-lt42+else-op-lt44+then-op-lt54, in_default-via-then-op-lt40, in_default-via-else-op-lt40+else-op-lt42+else-op-lt44+else-op-lt54+then-op-lt56, in_default-via-else-op-lt40+else-op-lt42+else-op-lt44+else-op-lt54+else-op-lt56+else-op-lt58}
use Rattle.wasm_values.proofs.leaves.memory_instr.Goals as goal

pub returns-in-42 : goal.returns-in-42
returns-in-42 c = elim c.in-42-1.branch [ then-op-lt44 w ↦ rw (view_float_memory c.args.op c.args.align c.args.offset) (is_float_memory (float_load {op = c.args.op} (omega arith) (omega arith))) | else-op-lt44+else-op-lt54+else-op-lt56+then-op-lt58 w ↦ rw (view_float_memory c.args.op c.args.align c.args.offset) (is_float_memory (float_store {op = c.args.op} (omega arith) (omega arith))) ]

pub returns-in-40 : goal.returns-in-40
returns-in-40 c = elim c.in-40-1.branch [ then-op-lt42 w ↦ rw (view_load c.args.op c.args.align c.args.offset) (is_load (load_whole {op = c.args.op} (omega arith) (omega arith))) | else-op-lt42+else-op-lt44+then-op-lt54 w ↦ rw (view_load c.args.op c.args.align c.args.offset) (is_load (load_part {op = c.args.op} (omega arith) (omega arith))) ]

pub returns-in_default : goal.returns-in_default
returns-in_default c = elim c.in_default.branch [ in_default-via-then-op-lt40 w ↦ absurd (omega arith) | in_default-via-else-op-lt40+else-op-lt42+else-op-lt44+else-op-lt54+then-op-lt56 w ↦ rw (view_store c.args.op c.args.align c.args.offset) (is_store (store_whole {op = c.args.op} (omega arith) (omega arith))) | in_default-via-else-op-lt40+else-op-lt42+else-op-lt44+else-op-lt54+else-op-lt56+else-op-lt58 w ↦ rw (view_store c.args.op c.args.align c.args.offset) (is_store (store_part {op = c.args.op} (omega arith) (omega arith))) ]
