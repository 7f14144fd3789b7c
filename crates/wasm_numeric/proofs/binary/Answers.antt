use Rattle.std.proofs.Common.{ℕ, Some, Ok, ap, ◌∙◌}
use Rattle.wasm_numeric.proofs.Refusals.{refuses_zero, refuses_overflow}
use Rattle.wasm_numeric.proofs.binary.Goals as goal

pub returns-in_default-clause-zero_refused : goal.returns-in_default-clause-zero_refused
returns-in_default-clause-zero_refused c =
    refuses_zero c.args.op c.args.a c.args.b c.binary_64.result c.binary_64.ensures.value c.binary_64.ensures.overflow

pub returns-in_default-clause-overflow_refused : goal.returns-in_default-clause-overflow_refused
returns-in_default-clause-overflow_refused c =
    refuses_overflow c.args.op c.args.a c.args.b c.binary_64.result c.binary_64.ensures.value c.binary_64.ensures.by_zero

pub returns-in_ok-binary_32-in-106-to-120-clause-zero_refused :
    goal.returns-in_ok-binary_32-in-106-to-120-clause-zero_refused
returns-in_ok-binary_32-in-106-to-120-clause-zero_refused c =
    let value = ap (λ (x : ℕ). Some x) c.from.ensures ∙ c.in_ok-binary_32-in-106-to-120.ensures.value in
    refuses_zero c.args.op c.args.a c.args.b (Ok c.from.result) value tt

pub returns-in_ok-binary_32-in-106-to-120-clause-overflow_refused :
    goal.returns-in_ok-binary_32-in-106-to-120-clause-overflow_refused
returns-in_ok-binary_32-in-106-to-120-clause-overflow_refused c =
    let value = ap (λ (x : ℕ). Some x) c.from.ensures ∙ c.in_ok-binary_32-in-106-to-120.ensures.value in
    refuses_overflow c.args.op c.args.a c.args.b (Ok c.from.result) value tt
