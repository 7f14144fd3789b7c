-- A division by 0, and one that overflows, is refused with the fault that names it: an answer that is the value, where there is one, and whose faults have their cause, has no other choice.
use Rattle.std.proofs.Common.{◌≡◌, ℕ, ◌≤◌, ◌⊎◌, inl, inr, None, Result, Ok, Err, IfErr, refl, ◌∙◌, ◌+◌, arith}
use Rattle.std.proofs.lemmas.Bool.{cases_lt}
use Rattle.std.specs.Result.{result_ok}
use Rattle.wasm_numeric.specs.declared.NumFault.{NumFault}
use Rattle.wasm_numeric.specs.declared.NumFault.TheVariants.{DivideByZero, Overflow}
use Rattle.wasm_numeric.specs.Opcodes.{IsDivision, IsOverflow, binary_entry, binary_value}

-- one of four opcodes in a row
among_four : (op low : ℕ) → low ≤ op → op ≤ low + 3 → (op ≡ low) ⊎ ((op ≡ low + 1) ⊎ ((op ≡ low + 2) ⊎ (op ≡ low + 3)))
among_four op low l h =
    elim (cases_lt op (low + 2)) [
      | inl s ↦ elim (cases_lt op (low + 1)) [ inl t ↦ inl (omega arith) | inr t ↦ inr (inl (omega arith)) ]
      | inr s ↦ elim (cases_lt op (low + 3)) [ inl t ↦ inr (inr (inl (omega arith))) | inr t ↦ inr (inr (inr (omega arith))) ]
    ]

-- there is no value
none_by_zero : (op a b : ℕ) → IsDivision op → b ≡ 0 → binary_value op a b ≡ None
unfolding binary_value binary_entry
none_by_zero op a b (inl d) z =
    elim (among_four op 0x6d d.0 d.1) [
      | inl e ↦ rw (e, z) refl
      | inr (inl e) ↦ rw (e, z) refl
      | inr (inr (inl e)) ↦ rw (e, z) refl
      | inr (inr (inr e)) ↦ rw (e, z) refl
    ]
none_by_zero op a b (inr d) z =
    elim (among_four op 0x7f d.0 d.1) [
      | inl e ↦ rw (e, z) refl
      | inr (inl e) ↦ rw (e, z) refl
      | inr (inr (inl e)) ↦ rw (e, z) refl
      | inr (inr (inr e)) ↦ rw (e, z) refl
    ]

none_at_least : (op a b : ℕ) → IsOverflow op a b → binary_value op a b ≡ None
unfolding binary_value binary_entry
none_at_least op a b (inl h) = rw (h.0, h.1, h.2) refl
none_at_least op a b (inr h) = rw (h.0, h.1, h.2) refl

not_zero : (op a b : ℕ) → IsOverflow op a b → b ≡ 0 → ⊥
not_zero op a b (inl h) z = omega (arith, h.2)
not_zero op a b (inr h) z = omega (arith, h.2)

pub refuses_zero : (op a b : ℕ) (r : Result ℕ NumFault) → result_ok r ≡ binary_value op a b
    → IfErr r (λ e. e ≡ Overflow → IsOverflow op a b) → IsDivision op → b ≡ 0 → r ≡ Err DivideByZero
refuses_zero op a b (Ok n) v o d z = cc (v ∙ none_by_zero op a b d z)
refuses_zero op a b (Err DivideByZero) v o d z = refl
refuses_zero op a b (Err Overflow) v o d z = absurd (not_zero op a b (o refl) z)

pub refuses_overflow : (op a b : ℕ) (r : Result ℕ NumFault) → result_ok r ≡ binary_value op a b
    → IfErr r (λ e. e ≡ DivideByZero → IsDivision op × (b ≡ 0)) → IsOverflow op a b → r ≡ Err Overflow
refuses_overflow op a b (Ok n) v z h = cc (v ∙ none_at_least op a b h)
refuses_overflow op a b (Err Overflow) v z h = refl
refuses_overflow op a b (Err DivideByZero) v z h = let cause : IsDivision op × (b ≡ 0) = z refl in absurd (not_zero op a b h cause.1)
