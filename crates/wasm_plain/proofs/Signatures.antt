-- The types of the operations on numbers, by their groups.
use Rattle.std.proofs.Common.{◌≡◌, ◌≢◌, ℕ, ◌<◌, ◌≤◌, ◌^◌, ◌⊎◌, List, [], ◌∷◌, Some, refl, sym, ◌∙◌, subst, inl, inr, arith}
use Rattle.std.proofs.lemmas.Bool.Decides.{nat_tests}
use native.Mathlib.Decide.{dec_le}
use Rattle.wasm_values.specs.declared.types.ValType.{ValType}
use Rattle.wasm_values.specs.declared.types.ValType.TheVariants.{I32, I64}
use Rattle.wasm_typing.specs.Operations.{Signature, signature_of}
use Rattle.wasm_typing.specs.inner.Ranges.{signature_by_bounds}
use Rattle.wasm_typing.proofs.Ranges.{signature_is}
use Rattle.wasm_numeric.specs.Opcodes.{IsFrom, IsUnary, IsNarrowUnary, IsBinary, IsCompare, IsConvert}
use Rattle.wasm_steps.specs.Plain.{IsTest}
use Rattle.wasm_soundness.specs.Typed.{IsValue}

-- The operation takes operands of these types, and gives a result of that type.
abbrev pub Takes : ℕ → List ValType → ValType → Type 0
Takes op operands result = signature_of op ≡ Some (record { operands = operands; result = result })

-- The same by the bounds of the opcodes.
abbrev IsBounded : ℕ → List ValType → ValType → Type 0
IsBounded op operands result = signature_by_bounds op ≡ Some (record { operands = operands; result = result })

taken : (op : ℕ) (operands : List ValType) (result : ValType) → IsBounded op operands result → Takes op operands result
taken op operands result e = signature_is op ∙ e

-- A value of the type is one of 32 bits where the operation is narrow, and one of 64 bits elsewhere.
pub record Fits (IsNarrow : Type 0) (type : ValType) : Type 0 where
  pub narrow : (n : ℕ) → IsValue type n → IsNarrow → n < 2 ^ 32
  pub wide : (n : ℕ) → (IsNarrow → n < 2 ^ 32) → n < 2 ^ 64 → IsValue type n

fits_32 : {IsNarrow : Type 0} → IsNarrow → Fits IsNarrow I32
fits_32 h = record { narrow = λ n v k. v; wide = λ n v w. v h }

fits_64 : {IsNarrow : Type 0} → (IsNarrow → ⊥) → Fits IsNarrow I64
fits_64 no_narrow = record { narrow = λ n v k. absurd (no_narrow k); wide = λ n v w. w }

unary_32 : (op : ℕ) → IsFrom 0x67 0x69 op → IsBounded op (I32 ∷ []) I32
unfolding signature_by_bounds
unary_32 op h = grind (arith, nat_tests)

unary_64 : (op : ℕ) → IsFrom 0x79 0x7b op → IsBounded op (I64 ∷ []) I64
unfolding signature_by_bounds
unary_64 op h = grind (arith, nat_tests)

extension_32 : (op : ℕ) → IsFrom 0xc0 0xc1 op → IsBounded op (I32 ∷ []) I32
unfolding signature_by_bounds
extension_32 op h = grind (arith, nat_tests)

extension_64 : (op : ℕ) → IsFrom 0xc2 0xc4 op → IsBounded op (I64 ∷ []) I64
unfolding signature_by_bounds
extension_64 op h = grind (arith, nat_tests)

binary_32 : (op : ℕ) → IsFrom 0x6a 0x78 op → IsBounded op (I32 ∷ I32 ∷ []) I32
unfolding signature_by_bounds
binary_32 op h = grind (arith, nat_tests)

binary_64 : (op : ℕ) → IsFrom 0x7c 0x8a op → IsBounded op (I64 ∷ I64 ∷ []) I64
unfolding signature_by_bounds
binary_64 op h = grind (arith, nat_tests)

compare_32 : (op : ℕ) → IsFrom 0x46 0x4f op → IsBounded op (I32 ∷ I32 ∷ []) I32
unfolding signature_by_bounds
compare_32 op h = grind (arith, nat_tests)

compare_64 : (op : ℕ) → IsFrom 0x51 0x5a op → IsBounded op (I64 ∷ I64 ∷ []) I32
unfolding signature_by_bounds
compare_64 op h = grind (arith, nat_tests)

test_at : (op : ℕ) → IsTest op → (op ≡ 0x45) ⊎ (op ≡ 0x50)
test_at op h = grind (arith, nat_tests)

test_32 : IsBounded 0x45 (I32 ∷ []) I32
unfolding signature_by_bounds
test_32 = refl

test_64 : IsBounded 0x50 (I64 ∷ []) I32
unfolding signature_by_bounds
test_64 = refl

wraps : IsBounded 0xa7 (I64 ∷ []) I32
unfolding signature_by_bounds
wraps = refl

extends : (op : ℕ) → IsFrom 0xac 0xad op → IsBounded op (I32 ∷ []) I64
unfolding signature_by_bounds
extends op h = grind (arith, nat_tests)

-- ---- the groups

takes_extension : (op : ℕ) → IsFrom 0xc0 0xc4 op → (type : ValType) × Takes op (type ∷ []) type × Fits (IsNarrowUnary op) type
takes_extension op h = elim (dec_le op 0xc1) [
  | yes low ↦ (I32, taken op (I32 ∷ []) I32 (extension_32 op (h.0, low)), fits_32 (inr (h.0, low)))
  | no high ↦ (I64, taken op (I64 ∷ []) I64 (extension_64 op (omega arith, h.1)), fits_64 (λ k. grind (arith, k)))
]

pub takes_unary : (op : ℕ) → IsUnary op → (type : ValType) × Takes op (type ∷ []) type × Fits (IsNarrowUnary op) type
takes_unary op (inl h) = (I32, taken op (I32 ∷ []) I32 (unary_32 op h), fits_32 (inl h))
takes_unary op (inr (inl h)) = (I64, taken op (I64 ∷ []) I64 (unary_64 op h), fits_64 (λ k. grind (arith, k, h)))
takes_unary op (inr (inr h)) = takes_extension op h

pub takes_binary : (op : ℕ) → IsBinary op → (type : ValType) × Takes op (type ∷ type ∷ []) type × Fits (op ≤ 0x78) type
takes_binary op (inl h) = (I32, taken op (I32 ∷ I32 ∷ []) I32 (binary_32 op h), fits_32 h.1)
takes_binary op (inr h) = (I64, taken op (I64 ∷ I64 ∷ []) I64 (binary_64 op h), fits_64 (λ k. omega (arith, h, k)))

-- a test is a comparison
pub compares_first : (op : ℕ) → IsTest op → IsCompare op
compares_first op h = elim (test_at op h) [ inl e ↦ inl (omega (arith, e)) | inr e ↦ inr (omega (arith, e)) ]

pub takes_test : (op : ℕ) → IsTest op → (type : ValType) × Takes op (type ∷ []) I32 × Fits (op ≤ 0x4f) type
takes_test op h = elim (test_at op h) [
  | inl e ↦ (I32, taken op (I32 ∷ []) I32 (subst (λ n. IsBounded n (I32 ∷ []) I32) (sym e) test_32), fits_32 (omega (arith, e)))
  | inr e ↦ (I64, taken op (I64 ∷ []) I32 (subst (λ n. IsBounded n (I64 ∷ []) I32) (sym e) test_64), fits_64 (λ k. omega (arith, e, k)))
]

no_test_32 : (op : ℕ) → (IsTest op → ⊥) → op ≢ 0x45
no_test_32 op h e = h (grind (arith, nat_tests))

no_test_64 : (op : ℕ) → (IsTest op → ⊥) → op ≢ 0x50
no_test_64 op h e = h (grind (arith, nat_tests))

pub takes_compare : (op : ℕ) → IsCompare op → (IsTest op → ⊥) → (type : ValType) × Takes op (type ∷ type ∷ []) I32 × Fits (op ≤ 0x4f) type
takes_compare op (inl h) two = (I32, taken op (I32 ∷ I32 ∷ []) I32 (compare_32 op (omega (arith, h, no_test_32 op two), h.1)), fits_32 h.1)
takes_compare op (inr h) two = (I64, taken op (I64 ∷ I64 ∷ []) I32 (compare_64 op (omega (arith, h, no_test_64 op two), h.1)), fits_64 (λ k. omega (arith, h, k)))

-- the operand and the result of a conversion
pub record Converts (op : ℕ) : Type 0 where
  pub from : ValType
  pub to : ValType
  pub takes : Takes op (from ∷ []) to
  pub narrow : (n : ℕ) → IsValue from n → 0xac ≤ op → n < 2 ^ 32
  pub wide : (n : ℕ) → (op ≡ 0xa7 → n < 2 ^ 32) → n < 2 ^ 64 → IsValue to n

pub takes_convert : (op : ℕ) → IsConvert op → Converts op
takes_convert op (inl e) = record { from = I64; to = I32; takes = taken op (I64 ∷ []) I32 (subst (λ n. IsBounded n (I64 ∷ []) I32) (sym e) wraps); narrow = λ n v k. absurd (omega (arith, e, k)); wide = λ n v w. v e }
takes_convert op (inr h) = record { from = I32; to = I64; takes = taken op (I32 ∷ []) I64 (extends op h); narrow = λ n v k. v; wide = λ n v w. w }

-- an operation that has a type is of one of the groups
grouped_between : (op : ℕ) (signature : Signature) → signature_by_bounds op ≡ Some signature → IsFrom 0x45 0x5a op ⊎ IsFrom 0x67 0x8a op ⊎ IsConvert op ⊎ IsFrom 0xc0 0xc4 op
unfolding signature_by_bounds
grouped_between op signature h = grind (arith, nat_tests)

pub grouped : (op : ℕ) (signature : Signature) → signature_of op ≡ Some signature → IsFrom 0x45 0x5a op ⊎ IsFrom 0x67 0x8a op ⊎ IsConvert op ⊎ IsFrom 0xc0 0xc4 op
grouped op signature h = grouped_between op signature (sym (signature_is op) ∙ h)
