use Rattle.std.proofs.Common.{arith}
use Rattle.wasm_values.specs.Instructions.{spells_numeric, spells_float_plain}
use Rattle.wasm_values.proofs.Groups.{compares, computes, wraps, extends, extends_within, compares_float, computes_float, converts}
use Rattle.wasm_values.proofs.Opcodes.{high_unknown}
use Rattle.wasm_values.proofs.Views.{view_numeric, view_float_plain}
use Rattle.wasm_values.proofs.leaves.plain.Goals.{in-167-1, in_default+else-code-lt69+then-code-lt91, in_default+else-code-lt69+else-code-lt91+else-code-lt103+then-code-lt139, in_default+else-code-lt69+else-code-lt91+else-code-lt103+else-code-lt139+else-code-lt172+then-code-lt174, in_default+else-code-lt69+else-code-lt91+else-code-lt103+else-code-lt139+else-code-lt172+else-code-lt174+else-code-lt192+then-code-lt197, then-code-lt103, else-code-lt103+else-code-lt139+then-code-lt172, else-code-lt103+else-code-lt139+else-code-lt172+else-code-lt174+then-code-lt192, in_default-via-then-code-lt69, in_default-via-else-code-lt69+else-code-lt91+else-code-lt103+else-code-lt139+else-code-lt172+else-code-lt174+else-code-lt192+else-code-lt197}
use Rattle.wasm_values.proofs.leaves.plain.Goals as goal

pub returns-in-69-to-90-clause-found : goal.returns-in-69-to-90-clause-found
returns-in-69-to-90-clause-found c = elim c.in-69-to-90-1.branch [ in-167-1 w ↦ rw (view_numeric c.args.code) (spells_numeric (wraps {op = c.args.code} (omega arith))) | in_default+else-code-lt69+then-code-lt91 w ↦ rw (view_numeric c.args.code) (spells_numeric (compares {op = c.args.code} (omega arith) (omega arith))) | in_default+else-code-lt69+else-code-lt91+else-code-lt103+then-code-lt139 w ↦ rw (view_numeric c.args.code) (spells_numeric (computes {op = c.args.code} (omega arith) (omega arith))) | in_default+else-code-lt69+else-code-lt91+else-code-lt103+else-code-lt139+else-code-lt172+then-code-lt174 w ↦ rw (view_numeric c.args.code) (spells_numeric (extends {op = c.args.code} (omega arith) (omega arith))) | in_default+else-code-lt69+else-code-lt91+else-code-lt103+else-code-lt139+else-code-lt172+else-code-lt174+else-code-lt192+then-code-lt197 w ↦ rw (view_numeric c.args.code) (spells_numeric (extends_within {op = c.args.code} (omega arith) (omega arith))) ]

pub returns-in-91-to-102-clause-found : goal.returns-in-91-to-102-clause-found
returns-in-91-to-102-clause-found c = elim c.in-91-to-102-1.branch [ then-code-lt103 w ↦ rw (view_float_plain c.args.code) (spells_float_plain (compares_float {op = c.args.code} (omega arith) (omega arith))) | else-code-lt103+else-code-lt139+then-code-lt172 w ↦ rw (view_float_plain c.args.code) (spells_float_plain (computes_float {op = c.args.code} (omega arith) (omega arith) (omega arith))) | else-code-lt103+else-code-lt139+else-code-lt172+else-code-lt174+then-code-lt192 w ↦ rw (view_float_plain c.args.code) (spells_float_plain (converts {op = c.args.code} (omega arith) (omega arith))) ]

pub returns-in_default-clause-none : goal.returns-in_default-clause-none
returns-in_default-clause-none c = λ op text s. elim c.in_default.branch [ in_default-via-then-code-lt69 w ↦ absurd (omega arith) | in_default-via-else-code-lt69+else-code-lt91+else-code-lt103+else-code-lt139+else-code-lt172+else-code-lt174+else-code-lt192+else-code-lt197 w ↦ high_unknown c.args.code (omega arith) text op s ]
