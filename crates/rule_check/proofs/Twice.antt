-- What stands twice in a list.
use Rattle.std.proofs.Common.{◌≡◌, ℕ, zero, suc, ◌+◌, ◌-◌, ◌<◌, ◌≤◌, ◌==◌, List, [], ◌∷◌, length, get_or, Bool, true, false, cond, Option, Some, None, refl, sym, ap, subst, ◌∙◌, arith, inl, inr}
use Rattle.std.specs.Prelude.{slice_get}
use Rattle.std.specs.List.{count_by}
use Rattle.std.specs.List.Sorted.{IsNonDecreasing, IsPermutation}
use Rattle.std.proofs.lemmas.List.Sorted.{sum_by-IsPermutation}
use Rattle.rule_check.proofs.Minima.{least_like}
use Rattle.std.proofs.lemmas.Bool.{cases_lt, eqb-true, eq-eqb}
use Rattle.std.proofs.lemmas.List.Sums.{sum_by-cons}
use Rattle.std.proofs.lemmas.Option.{same_Some, slice_get_within, slice_get-get_or, get_or_from_slice_get}
use Rattle.rule_check.specs.inner.Checks.{IsLeast}

pub count_cons : {A : Type 0} (p : A → Bool) (x : A) (xs : List A) → count_by p (x ∷ xs) ≡ cond (p x) 1 0 + count_by p xs
count_cons {A} p x xs = sum_by-cons (λ (y : A). cond (p y) 1 0) x xs

count_here : {A : Type 0} (p : A → Bool) (x : A) (xs : List A) → p x ≡ true → count_by p (x ∷ xs) ≡ 1 + count_by p xs
count_here p x xs is = count_cons p x xs ∙ ap (λ b. cond b 1 0 + count_by p xs) is

count_past : {A : Type 0} (p : A → Bool) (x : A) (xs : List A) → p x ≡ false → count_by p (x ∷ xs) ≡ 0 + count_by p xs
count_past p x xs is = count_cons p x xs ∙ ap (λ b. cond b 1 0 + count_by p xs) is

pub count_one : {A : Type 0} (p : A → Bool) (xs : List A) (j : ℕ) (x : A) → slice_get xs j ≡ Some x → p x ≡ true → 1 ≤ count_by p xs
count_one p [] j x there is = absurd cc
count_one p (y ∷ xs) zero x there is = let first : p y ≡ true = ap p (same_Some y x there) ∙ is in omega (arith, count_here p y xs first)
count_one p (y ∷ xs) (suc j) x there is = let rest : 1 ≤ count_by p xs = count_one p xs j x there is in omega (arith, count_cons p y xs)

pub count_two : {A : Type 0} (p : A → Bool) (xs : List A) (i j : ℕ) (x y : A) → i < j → slice_get xs i ≡ Some x → slice_get xs j ≡ Some y → p x ≡ true → p y ≡ true → 2 ≤ count_by p xs
count_two p [] i j x y less here there is other = absurd cc
count_two p (z ∷ xs) i zero x y less here there is other = absurd (omega arith)
count_two p (z ∷ xs) zero (suc j) x y less here there is other =
    let first : p z ≡ true = ap p (same_Some z x here) ∙ is in
    let rest : 1 ≤ count_by p xs = count_one p xs j y there other in
    omega (arith, count_here p z xs first)
count_two p (z ∷ xs) (suc i) (suc j) x y less here there is other =
    let rest : 2 ≤ count_by p xs = count_two p xs i j x y (omega arith) here there is other in
    omega (arith, count_cons p z xs)

-- One that passes.
pub record OneOf {A : Type 0} (p : A → Bool) (xs : List A) : Type 0 where
  pub index : ℕ
  pub one : A
  pub place : slice_get xs index ≡ Some one
  pub is : p one ≡ true

-- Two that pass, at two places.
pub record TwoOf {A : Type 0} (p : A → Bool) (xs : List A) : Type 0 where
  pub first : ℕ
  pub second : ℕ
  pub one : A
  pub other : A
  pub less : first < second
  pub place : slice_get xs first ≡ Some one
  pub later : slice_get xs second ≡ Some other
  pub is : p one ≡ true
  pub too : p other ≡ true

pub one_of : {A : Type 0} (p : A → Bool) (xs : List A) → 1 ≤ count_by p xs → OneOf p xs
one_of p [] many = absurd (omega arith)
one_of p (x ∷ xs) many =
    elim (p x) as (λ b. p x ≡ b → OneOf p (x ∷ xs)) [
      | true ↦ λ is. record { index = 0; one = x; place = refl; is = is }
      | false ↦ λ is. let rest = one_of p xs (omega (arith, count_past p x xs is)) in record { index = suc rest.index; one = rest.one; place = rest.place; is = rest.is }
    ] refl

pub two_of : {A : Type 0} (p : A → Bool) (xs : List A) → 2 ≤ count_by p xs → TwoOf p xs
two_of p [] many = absurd (omega arith)
two_of p (x ∷ xs) many =
    elim (p x) as (λ b. p x ≡ b → TwoOf p (x ∷ xs)) [
      | true ↦ λ is. let rest = one_of p xs (omega (arith, count_here p x xs is)) in record { first = 0; second = suc rest.index; one = x; other = rest.one; less = omega arith; place = refl; later = rest.place; is = is; too = rest.is }
      | false ↦ λ is. let rest = two_of p xs (omega (arith, count_past p x xs is)) in record { first = suc rest.first; second = suc rest.second; one = rest.one; other = rest.other; less = (let less : rest.first < rest.second = rest.less in omega arith); place = rest.place; later = rest.later; is = rest.is; too = rest.too }
    ] refl

-- ---- sorted numbers

-- Of the numbers before this place none is the next one's.
abbrev pub NoPair : List ℕ → ℕ → Type 0
NoPair xs next = (k : ℕ) → k + 1 < next → get_or xs k 0 ≡ get_or xs (k + 1) 0 → ⊥

-- of rising numbers, of which none is the next one's before a place, none less than that at the place is there twice
fewer : (xs : List ℕ) (next : ℕ) → IsNonDecreasing xs → NoPair xs next → (m : ℕ) → (next < length xs → m < get_or xs next 0) → 2 ≤ count_by (λ n. n == m) xs → ⊥
fewer xs next up apart m high many =
    let two = two_of (λ n. n == m) xs many in
    let inside : two.second < length xs = slice_get_within xs two.second two.other two.later in
    let less : two.first < two.second = two.less in
    let one : get_or xs two.first 0 ≡ two.one = get_or_from_slice_get xs two.first two.one 0 two.place in
    let other : get_or xs two.second 0 ≡ two.other = get_or_from_slice_get xs two.second two.other 0 two.later in
    let is : two.one ≡ m = eqb-true two.one m two.is in
    let too : two.other ≡ m = eqb-true two.other m two.too in
    elim (cases_lt two.second next) [
      | inl before ↦ (
          let low : get_or xs two.first 0 ≤ get_or xs (two.first + 1) 0 = up two.first (two.first + 1) 0 (omega arith) (omega arith) in
          let more : get_or xs (two.first + 1) 0 ≤ get_or xs two.second 0 = up (two.first + 1) two.second 0 (omega arith) inside in
          apart two.first (omega arith) (omega arith)
          )
      | inr after ↦ (
          let more : get_or xs next 0 ≤ get_or xs two.second 0 = up next two.second 0 after inside in
          let lower : m < get_or xs next 0 = high (omega arith) in
          omega arith
          )
    ]

pub pair_is_least : (xs : List ℕ) (next : ℕ) → 1 ≤ next → next < length xs → IsNonDecreasing xs → NoPair xs next → (n : ℕ) → n ≡ get_or xs next 0 → get_or xs (next - 1) 0 ≡ get_or xs next 0 → IsLeast (λ m. 2 ≤ count_by (λ k. k == m) xs) (Some n)
pair_is_least xs next low within up apart n named same = (
  count_two (λ k. k == n) xs (next - 1) next (get_or xs (next - 1) 0) (get_or xs next 0) (omega arith) (slice_get-get_or xs (next - 1) 0 (omega arith)) (slice_get-get_or xs next 0 within)
      (eq-eqb (get_or xs (next - 1) 0) n (same ∙ sym named)) (eq-eqb (get_or xs next 0) n (sym named)),
  λ m less many. fewer xs next up apart m (λ inside. omega arith) many,
)

pub no_pair_is_least : (xs : List ℕ) (next : ℕ) → length xs ≤ next → IsNonDecreasing xs → NoPair xs next → IsLeast (λ m. 2 ≤ count_by (λ k. k == m) xs) None
no_pair_is_least xs next all up apart n many = fewer xs next up apart n (λ inside. absurd (omega arith)) many

-- a list and its permutation have the same least number that is there twice
pub least_permuted : (xs ys : List ℕ) (found : Option ℕ) → IsPermutation xs ys → IsLeast (λ n. 2 ≤ count_by (λ m. m == n) ys) found → IsLeast (λ n. 2 ≤ count_by (λ m. m == n) xs) found
least_permuted xs ys found moved =
    let same : (n : ℕ) → count_by (λ m. m == n) ys ≡ count_by (λ m. m == n) xs = λ n. sum_by-IsPermutation (λ m. cond (m == n) 1 0) xs ys moved in
    least_like (λ n. 2 ≤ count_by (λ m. m == n) ys) (λ n. 2 ≤ count_by (λ m. m == n) xs) found (λ n many. subst (λ (k : ℕ). 2 ≤ k) (same n) many) (λ n many. subst (λ (k : ℕ). 2 ≤ k) (sym (same n)) many)
