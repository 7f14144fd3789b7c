-- Operands as a host gets them, one by one.
use Rattle.std.proofs.Common.{◌≡◌, ℕ, zero, suc, ℤ, Option, None, Some, w64, SFits, ◌^◌, ◌+◌, ◌<◌, ◌≤◌, List, [], ◌∷◌, ◌++◌, length, take, get_or, refl, ap, ◌∙◌, arith, add-one}
use Rattle.std.proofs.lemmas.Nat.{mod_below}
use Rattle.std.proofs.Math.Facts.{Fits-of_z}
use Rattle.std.specs.Int.{cast_unsigned}
use Rattle.wasm_values.specs.declared.types.ValType.{ValType}
use Rattle.wasm_values.specs.declared.types.ValType.TheVariants.{I32, I64, F32, F64}
use Rattle.wasm_typing.specs.Typing.{types_of}
use Rattle.wasm_steps.specs.Steps.{argument, answered}
use Rattle.wasm_soundness.specs.Typed.{IsValue, AreValues, no_values, next_value}
use Rattle.wasm_machine.specs.inner.Calls.{arguments_of}

more : (kinds : List ValType) (operands : List ℕ) (n : ℕ) (d : ValType) → n < length kinds → n < length operands
    → arguments_of (take (suc n) kinds) (take (suc n) operands) ≡ arguments_of (take n kinds) (take n operands) ++ argument (get_or kinds n d) (get_or operands n 0) ∷ []
more [] operands n d h k = absurd (omega (arith, h))
more (kind ∷ kinds) [] n d h k = absurd (omega (arith, k))
more (kind ∷ kinds) (operand ∷ operands) zero d h k = refl
more (kind ∷ kinds) (operand ∷ operands) (suc n) d h k = ap (λ z. argument kind operand ∷ z) (more kinds operands n d (omega (arith, h)) (omega (arith, k)))

pub arguments_more : (kinds : List ValType) (operands : List ℕ) (n : ℕ) (d : ValType) → n < length kinds → n < length operands
    → arguments_of (take (n + 1) kinds) (take (n + 1) operands) ≡ arguments_of (take n kinds) (take n operands) ++ argument (get_or kinds n d) (get_or operands n 0) ∷ []
arguments_more kinds operands n d h k = rw add-one (more kinds operands n d h k)

pub value_here : (kinds : List ValType) (operands : List ℕ) (n : ℕ) (d : ValType) → AreValues kinds operands → n < length kinds → IsValue (get_or kinds n d) (get_or operands n 0)
value_here [] operands n d v h = absurd (omega (arith, h))
value_here (kind ∷ kinds) [] n d v h = elim v [ ]
value_here (kind ∷ kinds) (operand ∷ operands) zero d (next_value v vs) h = v
value_here (kind ∷ kinds) (operand ∷ operands) (suc n) d (next_value v vs) h = value_here kinds operands n d vs (omega (arith, h))

take_past : {A : Type 0} (xs : List A) (n : ℕ) → length xs ≤ n → take n xs ≡ xs
take_past [] zero h = refl
take_past [] (suc n) h = refl
take_past (x ∷ xs) zero h = absurd (omega (arith, h))
take_past (x ∷ xs) (suc n) h = ap (λ z. x ∷ z) (take_past xs n (omega (arith, h)))

pub arguments_end : (kinds : List ValType) (operands : List ℕ) (n : ℕ) → length kinds ≤ n → length operands ≤ n → arguments_of (take n kinds) (take n operands) ≡ arguments_of kinds operands
arguments_end kinds operands n h k = ap (λ z. arguments_of z (take n operands)) (take_past kinds n h) ∙ ap (λ z. arguments_of kinds z) (take_past operands n k)

-- what a host answers is a value of the result's type
pub answer_is_value : (kind : Option ValType) (answer : ℤ) → SFits w64 answer → AreValues (types_of kind) (answered kind answer)
answer_is_value None answer fits = no_values
answer_is_value (Some I32) answer fits = next_value (mod_below (cast_unsigned w64 answer) (2 ^ 32) (omega arith)) no_values
answer_is_value (Some I64) answer fits = next_value ((Fits-of_z {w = w64} {z = answer} fits).fits) no_values
answer_is_value (Some F32) answer fits = next_value (mod_below (cast_unsigned w64 answer) (2 ^ 32) (omega arith)) no_values
answer_is_value (Some F64) answer fits = next_value ((Fits-of_z {w = w64} {z = answer} fits).fits) no_values
