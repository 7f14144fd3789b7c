-- Numbers of the border tiles of a room, each below 196.
use Rattle.std.proofs.Common.{◌≡◌, ℕ, ◌+◌, ◌<◌, ◌≤◌, ◌==◌, inl, inr, if◌then◌else◌, true, false, refl, subst, arith}
use Rattle.std.proofs.lemmas.Bool.{eqb-true, eqb-false}
use Rattle.room_terrain.specs.Tiles.{IsEdge, IsBorder}

pub border_number : ℕ → ℕ → ℕ
border_number x y = if x == 0 then y else if x == 49 then 50 + y else if y == 0 then 99 + x else 147 + x

data Side (x y n : ℕ) : Type 0 where
  left : x ≡ 0 → n ≡ y → Side x y n
  right : x ≡ 49 → n ≡ 50 + y → Side x y n
  top : y ≡ 0 → 1 ≤ x → x ≤ 48 → n ≡ 99 + x → Side x y n
  bottom : y ≡ 49 → 1 ≤ x → x ≤ 48 → n ≡ 147 + x → Side x y n

edge_row : (y : ℕ) → IsEdge y → (y ≡ 0 → ⊥) → y ≡ 49
edge_row y (inl is) other = absurd (other is)
edge_row y (inr is) other = is

border_row : (x y : ℕ) → IsBorder x y → (x ≡ 0 → ⊥) → (x ≡ 49 → ⊥) → IsEdge y
border_row x y (inl (inl is)) low high = absurd (low is)
border_row x y (inl (inr is)) low high = absurd (high is)
border_row x y (inr edge) low high = edge

at_least : (x : ℕ) → (x ≡ 0 → ⊥) → 1 ≤ x
at_least x low = elim (x == 0) as (λ b. (x == 0) ≡ b → 1 ≤ x) [ true ↦ λ is. absurd (low (eqb-true x 0 is)) | false ↦ λ is. let other = eqb-false x 0 is in omega (arith, other) ] refl

at_most : (x : ℕ) → x ≤ 49 → (x ≡ 49 → ⊥) → x ≤ 48
at_most x most high = elim (x == 49) as (λ b. (x == 49) ≡ b → x ≤ 48) [ true ↦ λ is. absurd (high (eqb-true x 49 is)) | false ↦ λ is. let other = eqb-false x 49 is in omega (arith, other, most) ] refl

side : (x y : ℕ) → x ≤ 49 → IsBorder x y → Side x y (border_number x y)
unfolding border_number
side x y most border =
    elim (x == 0) as (λ b. (x == 0) ≡ b → Side x y (if b then y else if x == 49 then 50 + y else if y == 0 then 99 + x else 147 + x)) [
      | true ↦ λ is. left (eqb-true x 0 is) refl
      | false ↦ λ low. elim (x == 49) as (λ b. (x == 49) ≡ b → Side x y (if b then 50 + y else if y == 0 then 99 + x else 147 + x)) [
        | true ↦ λ is. right (eqb-true x 49 is) refl
        | false ↦ λ high.
            let least = at_least x (eqb-false x 0 low) in
            let within = at_most x most (eqb-false x 49 high) in
            let edge = border_row x y border (eqb-false x 0 low) (eqb-false x 49 high) in
            elim (y == 0) as (λ b. (y == 0) ≡ b → Side x y (if b then 99 + x else 147 + x)) [
              | true ↦ λ is. top (eqb-true y 0 is) least within refl
              | false ↦ λ other. bottom (edge_row y edge (eqb-false y 0 other)) least within refl
            ] refl
      ] refl
    ] refl

side_below : (x y n : ℕ) → y ≤ 49 → Side x y n → n < 196
side_below x y n most (left a b) = omega (arith, a, b, most)
side_below x y n most (right a b) = omega (arith, a, b, most)
side_below x y n most (top a b c d) = omega (arith, a, b, c, d, most)
side_below x y n most (bottom a b c d) = omega (arith, a, b, c, d, most)

pub number_below : (x y : ℕ) → x ≤ 49 → y ≤ 49 → IsBorder x y → border_number x y < 196
number_below x y column row border = side_below x y (border_number x y) row (side x y column border)

one_side : (x y u v n : ℕ) → y ≤ 49 → v ≤ 49 → Side x y n → Side u v n → (x ≡ u) × (y ≡ v)
one_side x y u v n most most' (left a b) (left c d) = (omega (arith, a, b, c, d), omega (arith, a, b, c, d))
one_side x y u v n most most' (left a b) (right c d) = absurd (omega (arith, a, b, c, d, most, most'))
one_side x y u v n most most' (left a b) (top c d e f) = absurd (omega (arith, a, b, c, d, e, f, most, most'))
one_side x y u v n most most' (left a b) (bottom c d e f) = absurd (omega (arith, a, b, c, d, e, f, most, most'))
one_side x y u v n most most' (right a b) (left c d) = absurd (omega (arith, a, b, c, d, most, most'))
one_side x y u v n most most' (right a b) (right c d) = (omega (arith, a, b, c, d), omega (arith, a, b, c, d))
one_side x y u v n most most' (right a b) (top c d e f) = absurd (omega (arith, a, b, c, d, e, f, most, most'))
one_side x y u v n most most' (right a b) (bottom c d e f) = absurd (omega (arith, a, b, c, d, e, f, most, most'))
one_side x y u v n most most' (top a b c d) (left e f) = absurd (omega (arith, a, b, c, d, e, f, most, most'))
one_side x y u v n most most' (top a b c d) (right e f) = absurd (omega (arith, a, b, c, d, e, f, most, most'))
one_side x y u v n most most' (top a b c d) (top e f g h) = (omega (arith, d, h), omega (arith, a, e))
one_side x y u v n most most' (top a b c d) (bottom e f g h) = absurd (omega (arith, b, c, d, f, g, h))
one_side x y u v n most most' (bottom a b c d) (left e f) = absurd (omega (arith, a, b, c, d, e, f, most, most'))
one_side x y u v n most most' (bottom a b c d) (right e f) = absurd (omega (arith, a, b, c, d, e, f, most, most'))
one_side x y u v n most most' (bottom a b c d) (top e f g h) = absurd (omega (arith, b, c, d, f, g, h))
one_side x y u v n most most' (bottom a b c d) (bottom e f g h) = (omega (arith, d, h), omega (arith, a, e))

-- no two border tiles have one number
pub number_once : (x y u v : ℕ) → x ≤ 49 → y ≤ 49 → IsBorder x y → u ≤ 49 → v ≤ 49 → IsBorder u v → border_number x y ≡ border_number u v → (x ≡ u) × (y ≡ v)
number_once x y u v column row border column' row' border' same =
    one_side x y u v (border_number u v) row row' (subst (Side x y) same (side x y column border)) (side u v column' border')
