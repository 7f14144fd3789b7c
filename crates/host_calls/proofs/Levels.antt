-- The global level, by a square root.
use Rattle.std.proofs.Common.{◌≡◌, ℕ, zero, suc, ◌+◌, ◌*◌, ◌/◌, ◌<◌, ◌≤◌, inl, inr, ◌∙◌, arith}
use Rattle.std.proofs.lemmas.Bool.{cases_lt, cond-true, cond-false, le-leb, lt-leb}
use Rattle.std.proofs.Math.Nat.{mul-le-mul_left}
use Rattle.host_calls.specs.Desks.{greatest_root, global_level}

square_le : (a b : ℕ) → a ≤ b → a * a ≤ b * b
square_le a b h = omega (arith, mul-le-mul_left a h, mul-le-mul_left b h)

root_below : (a b n : ℕ) → 1000000 * (a * a) ≤ n → n < 1000000 * (b * b) → a < b
root_below a b n low high =
    elim (cases_lt a b) [
      | inl less ↦ less
      | inr more ↦ absurd (omega (arith, square_le b a more))
    ]

greatest_root_is : (bound points r : ℕ) → r ≤ bound → 1000000 * (r * r) ≤ points → points < 1000000 * ((r + 1) * (r + 1)) → greatest_root bound points ≡ r
greatest_root_is zero points r within low high = omega arith
greatest_root_is (suc bound) points r within low high =
    elim (cases_lt points (1000000 * (suc bound * suc bound))) [
      | inl past ↦
          cond-false _ _ _ (lt-leb _ _ past) ∙ greatest_root_is bound points r (omega (arith, root_below r (suc bound) points low past)) low high
      | inr there ↦
          let top : suc bound ≡ r = omega (arith, root_below (suc bound) (r + 1) points there high) in
          cond-true _ _ _ (le-leb _ _ there) ∙ top
    ]

self_le_square : (r : ℕ) → r ≤ r * r
self_le_square zero = omega arith
self_le_square (suc r) = omega arith

pub level_is : (points r : ℕ) → r * r ≤ points / 1000000 → points / 1000000 < (r + 1) * (r + 1) → r + 1 ≡ global_level points
level_is points r low high =
    let root : greatest_root points points ≡ r = greatest_root_is points points r (omega (arith, self_le_square r)) (omega arith) (omega arith) in
    rw root (omega arith)
