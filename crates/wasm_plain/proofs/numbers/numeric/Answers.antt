use Rattle.std.proofs.Common.{◌≡◌, ℕ, sym, subst, inl, inr, arith}
use Rattle.wasm_values.specs.Syntax.{numeric}
use Rattle.wasm_steps.specs.Program.{Store}
use Rattle.wasm_stack.specs.Standing.{held}
use Rattle.wasm_plain.specs.Done.{IsNext, IsRun}
use Rattle.wasm_plain.proofs.Results.{must_convert}
use Rattle.wasm_plain.proofs.numbers.numeric.Goals as goal

pub convert-requires-in_default-clause-is_next : goal.convert-requires-in_default-clause-is_next
convert-requires-in_default-clause-is_next c =
    let kind = must_convert c.requires.1 (λ h. omega arith) (λ h. omega arith) (λ h. omega arith) in
    let left : c.args.op ≡ 0xad = elim kind [ inl e ↦ omega (arith, e) | inr h ↦ omega (arith, h) ] in
    let P : ℕ → Type 0 = λ n. (store : Store) × IsNext (numeric n) (held c.args.stack.now) store in
    subst P left c.requires

pub returns-in_default : goal.returns-in_default
returns-in_default c =
    let kind = must_convert c.requires.1 (λ h. omega arith) (λ h. omega arith) (λ h. omega arith) in
    let left : c.args.op ≡ 0xad = elim kind [ inl e ↦ omega (arith, e) | inr h ↦ omega (arith, h) ] in
    let old = held c.args.stack.now in
    let new = held c.convert-in_default.new.stack in
    let P : ℕ → Type 0 = λ n. (store : Store) → IsRun (numeric n) old store c.convert-in_default.result new store in
    subst P (sym left) c.convert-in_default.ensures
