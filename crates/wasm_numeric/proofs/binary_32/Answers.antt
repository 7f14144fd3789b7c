use Rattle.std.proofs.Common.{◌≡◌, ◌<◌, ◌^◌, ℕ, Some, ap, ◌∙◌, arith}
use Rattle.std.specs.Int.{w32}
use Rattle.wasm_numeric.specs.Opcodes.{binary_value, binary_entry}
use Rattle.wasm_numeric.proofs.Rotations.{rotate_left_is, rotate_right_is}
use Rattle.wasm_numeric.proofs.binary_32.Goals as goal

pub returns-in-119-clause-value : goal.returns-in-119-clause-value
unfolding binary_value binary_entry
returns-in-119-clause-value c =
    let within : c.args.a < 2 ^ 32 = omega arith in
    rw c.in-119.is (ap (λ (x : ℕ). Some x) (c.rotate_left.ensures ∙ rotate_left_is w32 c.args.a c.args.b (omega arith) within))

pub returns-in_default-clause-value : goal.returns-in_default-clause-value
unfolding binary_value binary_entry
returns-in_default-clause-value c =
    let within : c.args.a < 2 ^ 32 = omega arith in
    let last : c.args.op ≡ 0x78 = grind arith in
    rw last (ap (λ (x : ℕ). Some x) (c.rotate_right.ensures ∙ rotate_right_is w32 c.args.a c.args.b (omega arith) within))
