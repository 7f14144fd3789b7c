-- What stands in a list that is made of the numbers of a range.
use Rattle.std.proofs.Common.{◌≡◌, ℕ, zero, suc, ◌+◌, ◌*◌, ◌<◌, ◌≤◌, ◌==◌, List, [], ◌∷◌, ◌++◌, length, map, Some, true, false, cond, refl, ap, sym, subst, ◌∙◌, add-zero, arith, lit≤}
use Rattle.std.specs.Prelude.{slice_get}
use Rattle.std.specs.List.{AllByRecursion, count_by, flat_map, range_with_len, sum_by}
use Rattle.std.proofs.lemmas.Bool.{eqb-true}
use Rattle.std.proofs.lemmas.Bool.Decides.{nat_tests}
use Rattle.std.proofs.lemmas.List.Sums.{sum_by-cons}
use Rattle.std.proofs.lemmas.Option.{same_Some}
use Rattle.wasm_link.proofs.Each.{get_left, get_right}
use Rattle.world_form.proofs.Standing.{all_weaker}
use Rattle.rule_check.proofs.Twice.{count_cons}

-- ---- single places

pub at_place : {X : Type 0} (f : ℕ → X) (a n i : ℕ) (x : X)
    → slice_get (map f (range_with_len a n)) i ≡ Some x → (i < n) × (f (a + i) ≡ x)
at_place f a zero i x is = absurd cc
at_place f a (suc n) zero x is = (omega arith, ap f (add-zero a) ∙ same_Some (f a) x is)
at_place f a (suc n) (suc i) x is =
    let rest = at_place f (a + 1) n i x is in
    let less : i < n = rest.0 in
    let place : a + suc i ≡ a + 1 + i = omega arith in
    (omega arith, ap f place ∙ rest.1)

pub placed_at : {X : Type 0} (f : ℕ → X) (a n i : ℕ)
    → i < n → slice_get (map f (range_with_len a n)) i ≡ Some (f (a + i))
placed_at f a zero i less = absurd (omega arith)
placed_at f a (suc n) zero less = ap (λ k. Some (f k)) (sym (add-zero a))
placed_at f a (suc n) (suc i) less =
    let place : a + 1 + i ≡ a + suc i = omega arith in
    placed_at f (a + 1) n i (omega arith) ∙ ap (λ k. Some (f k)) place

-- ---- all places

pub all_made : {X : Type 0} (P : X → Type 0) (f : ℕ → X) (a n : ℕ)
    → ((k : ℕ) → a ≤ k → k < a + n → P (f k)) → AllByRecursion P (map f (range_with_len a n))
all_made P f a zero so = tt
all_made P f a (suc n) so =
    (so a (omega arith) (omega arith), all_made P f (a + 1) n (λ k low high. so k (omega arith) (omega arith)))

-- ---- lists in lists

-- in lists of one length, one behind the other
pub part_at : {X : Type 0} (f : ℕ → List X) (a n each k i j : ℕ)
    → ((m : ℕ) → length (f m) ≡ each) → k < n → j < each → i ≡ each * k + j
    → slice_get (flat_map f (range_with_len a n)) i ≡ slice_get (f (a + k)) j
part_at f a zero each k i j long few small is = absurd (omega arith)
part_at f a (suc n) each zero i j long few small is =
    let same : i ≡ j = omega arith in
    let here : a ≡ a + 0 = omega arith in
    let within : i < length (f a) = omega (arith, long a) in
    get_left (f a) (flat_map f (range_with_len (a + 1) n)) i within
    ∙ ap (slice_get (f a)) same ∙ ap (λ m. slice_get (f m) j) here
part_at f a (suc n) each (suc k) i j long few small is =
    let place : a + 1 + k ≡ a + suc k = omega arith in
    get_right (f a) (flat_map f (range_with_len (a + 1) n)) i (each * k + j) (omega (arith, long a))
    ∙ part_at f (a + 1) n each k (each * k + j) j long (omega arith) small refl
    ∙ ap (λ m. slice_get (f m) j) place

-- ---- counts

pub sum_at_most : {X : Type 0} (g : X → ℕ) (f : ℕ → X) (a n most : ℕ)
    → ((k : ℕ) → g (f k) ≤ most) → sum_by g (map f (range_with_len a n)) ≤ most * n
sum_at_most g f a zero most small = omega arith
sum_at_most g f a (suc n) most small =
    omega (
      arith,
      sum_by-cons g (f a) (map f (range_with_len (a + 1) n)),
      small a,
      sum_at_most g f (a + 1) n most small,
    )

-- ---- rising numbers

-- Each number is less than all behind it.
abbrev pub Rises : List ℕ → Type 0
Rises [] = Unit {0}
Rises (x ∷ xs) = AllByRecursion (λ later. x < later) xs × Rises xs

pub all_joined : {X : Type 0} (P : X → Type 0) (xs ys : List X)
    → AllByRecursion P xs → AllByRecursion P ys → AllByRecursion P (xs ++ ys)
all_joined P [] ys front back = back
all_joined P (x ∷ xs) ys front back = (front.0, all_joined P xs ys front.1 back)

-- numbers below a bound, and behind them others that are not
pub rises_joined : (bound : ℕ) (xs ys : List ℕ) → Rises xs → AllByRecursion (λ x. x < bound) xs
    → Rises ys → AllByRecursion (λ y. bound ≤ y) ys → Rises (xs ++ ys)
rises_joined bound [] ys rise low later high = later
rises_joined bound (x ∷ xs) ys rise low later high =
    let small : x < bound = low.0 in (
      all_joined (λ (k : ℕ). x < k) xs ys rise.0
          (all_weaker (λ (k : ℕ). bound ≤ k) (λ (k : ℕ). x < k) (λ k great. omega arith) ys high),
      rises_joined bound xs ys rise.1 low.1 later high,
    )

never : (n : ℕ) (xs : List ℕ) → AllByRecursion (λ x. n < x) xs → count_by (λ m. m == n) xs ≡ 0
never n [] high = refl
never n (x ∷ xs) high =
    let great : n < x = high.0 in
    let other : (x == n) ≡ false = grind (arith, nat_tests) in
    count_cons (λ m. m == n) x xs ∙ ap (λ b. cond {A = ℕ} b 1 0 + count_by (λ m. m == n) xs) other
    ∙ ap (λ k. 0 + k) (never n xs high.1)

pub at_most_once : (n : ℕ) (xs : List ℕ) → Rises xs → count_by (λ m. m == n) xs ≤ 1
at_most_once n [] rise = lit≤ tt
at_most_once n (x ∷ xs) rise =
    let rest : count_by (λ m. m == n) xs ≤ 1 = at_most_once n xs rise.1 in
    elim (x == n) as (λ b. (x == n) ≡ b → count_by (λ m. m == n) (x ∷ xs) ≤ 1) [
      | true ↦ λ is.
          let same : x ≡ n = eqb-true x n is in
          let none : count_by (λ m. m == n) xs ≡ 0 =
          never n xs (subst (λ k. AllByRecursion (λ later. k < later) xs) same rise.0) in
          omega (arith, count_cons (λ m. m == n) x xs, ap (λ b. cond {A = ℕ} b 1 0) is)
      | false ↦ λ is. omega (arith, count_cons (λ m. m == n) x xs, ap (λ b. cond {A = ℕ} b 1 0) is)
    ] refl
