use Rattle.std.proofs.Common.{◌<◌, ◌^◌, inl, sym, ◌∙◌, arith}
use Rattle.wasm_numeric.specs.Opcodes.{unary_entry, unary_value}
use Rattle.wasm_numeric.proofs.Counts.{iclz_is, ictz_is, ipopcnt_is}
use Rattle.wasm_numeric.proofs.unary.Goals as goal

pub returns-in-103-clause-value : goal.returns-in-103-clause-value
unfolding unary_value unary_entry
returns-in-103-clause-value c =
    let within : c.args.a < 2 ^ 32 = c.requires.operand (inl (omega arith, omega arith)) in
    rw c.in-103.is (c.from.ensures ∙ sym (iclz_is 32 c.args.a within))

pub returns-in-104-clause-value : goal.returns-in-104-clause-value
unfolding unary_value unary_entry
returns-in-104-clause-value c = rw c.in-104.is (c.from-in-104.ensures ∙ sym (ictz_is 32 c.args.a))

pub returns-in-105-clause-value : goal.returns-in-105-clause-value
unfolding unary_value unary_entry
returns-in-105-clause-value c =
    let within : c.args.a < 2 ^ 32 = c.requires.operand (inl (omega arith, omega arith)) in
    rw c.in-105.is (c.from-in-105.ensures ∙ sym (ipopcnt_is 32 c.args.a within))

pub returns-in-121-clause-value : goal.returns-in-121-clause-value
unfolding unary_value unary_entry
returns-in-121-clause-value c =
    let within : c.args.a < 2 ^ 64 = omega arith in
    rw c.in-121.is (c.from-in-121.ensures ∙ sym (iclz_is 64 c.args.a within))

pub returns-in-122-clause-value : goal.returns-in-122-clause-value
unfolding unary_value unary_entry
returns-in-122-clause-value c = rw c.in-122.is (c.from-in-122.ensures ∙ sym (ictz_is 64 c.args.a))

pub returns-in-123-clause-value : goal.returns-in-123-clause-value
unfolding unary_value unary_entry
returns-in-123-clause-value c =
    let within : c.args.a < 2 ^ 64 = omega arith in
    rw c.in-123.is (c.from-in-123.ensures ∙ sym (ipopcnt_is 64 c.args.a within))
