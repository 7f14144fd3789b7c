-- What holds of each of a list, sums over a list, and numbers that are among others.
use Rattle.std.proofs.Common.{◌≡◌, ◌≢◌, ◌+◌, ◌<◌, ◌≤◌, ◌==◌, ◌||◌, ℕ, zero, suc, Bool, true, false, cond, List, [], ◌∷◌, ◌++◌, map, length, take, drop, get_or, Some, refl, sym, ap, subst, ◌∙◌, inl, inr, arith, add-one, drop-cons}
use Rattle.std.specs.Prelude.{nat_eq, slice_get}
use Rattle.std.specs.List.{AllByRecursion, IsDistinct, sum_by}
use Rattle.std.specs.Cmp.{nat_eq_equiv}
use Rattle.std.proofs.lemmas.Bool.{cases_eq, cases_lt, eqb-true, eq-eqb, ne_eqb, or_from, or_left, or_right, or_cases}
use Rattle.std.proofs.lemmas.List.{map-append, take_more}
use Rattle.std.proofs.lemmas.List.Sums.{sum_by-cons}
use Rattle.std.proofs.lemmas.Map.Keys.{IsDistinct-head, IsDistinct-push, IsDistinct-tail}
use Rattle.std.proofs.lemmas.Option.{same_Some}
use Rattle.changed_rules.specs.Counts.{is_among}

-- ---- each of a list

pub all_from : {A : Type 0} (P : A → Type 0) (xs : List A) → ((i : ℕ) (x : A) → slice_get xs i ≡ Some x → P x) → AllByRecursion P xs
all_from P [] each = tt
all_from P (x ∷ xs) each = (each 0 x refl, all_from P xs (λ i y is. each (suc i) y is))

pub all_weaker : {A : Type 0} (P Q : A → Type 0) (xs : List A) → ((x : A) → P x → Q x) → AllByRecursion P xs → AllByRecursion Q xs
all_weaker P Q [] to all = tt
all_weaker P Q (x ∷ xs) to all = (to x all.0, all_weaker P Q xs to all.1)

pub all_push : {A : Type 0} (P : A → Type 0) (xs : List A) (y : A) → AllByRecursion P xs → P y → AllByRecursion P (xs ++ y ∷ [])
all_push P [] y all last = (last, tt)
all_push P (x ∷ xs) y all last = (all.0, all_push P xs y all.1 last)

next_drop : {A : Type 0} (xs : List A) (i : ℕ) (x : A) → i < length xs → x ≡ get_or xs i x → drop i xs ≡ x ∷ drop (i + 1) xs
next_drop xs i x within is = drop-cons xs i x within ∙ ap (λ y. y ∷ drop (suc i) xs) (sym is) ∙ ap (λ (n : ℕ). x ∷ drop n xs) (sym (add-one i))

pub rest_of : {A : Type 0} (P : A → Type 0) (xs : List A) (i : ℕ) (x : A) → i < length xs → x ≡ get_or xs i x → AllByRecursion P (drop i xs) → AllByRecursion P (drop (i + 1) xs)
rest_of P xs i x within is all = (subst (AllByRecursion P) (next_drop xs i x within is) all).1

pub with_rest : {A : Type 0} (P : A → Type 0) (xs : List A) (i : ℕ) (x : A) → i < length xs → x ≡ get_or xs i x → P x → AllByRecursion P (drop (i + 1) xs) → AllByRecursion P (drop i xs)
with_rest P xs i x within is here all = subst (AllByRecursion P) (sym (next_drop xs i x within is)) (here, all)

pub drop_end : {A : Type 0} (xs : List A) (i : ℕ) → length xs ≤ i → drop i xs ≡ []
drop_end [] zero all = refl
drop_end [] (suc i) all = refl
drop_end (x ∷ xs) zero all = absurd (omega arith)
drop_end (x ∷ xs) (suc i) all = drop_end xs i (omega arith)

-- ---- sums

pub sum_same : {A : Type 0} (f g : A → ℕ) (xs : List A) → ((i : ℕ) (x : A) → slice_get xs i ≡ Some x → f x ≡ g x) → sum_by f xs ≡ sum_by g xs
sum_same f g [] same = refl
sum_same f g (x ∷ xs) same =
    let here : f x ≡ g x = same 0 x refl in
    let rest : sum_by f xs ≡ sum_by g xs = sum_same f g xs (λ i y is. same (suc i) y is) in
    omega (arith, sum_by-cons f x xs, sum_by-cons g x xs)

pub sum_zero : {A : Type 0} (f : A → ℕ) (xs : List A) → ((i : ℕ) (x : A) → slice_get xs i ≡ Some x → f x ≡ 0) → sum_by f xs ≡ 0
sum_zero f [] same = refl
sum_zero f (x ∷ xs) same =
    let here : f x ≡ 0 = same 0 x refl in
    let rest : sum_by f xs ≡ 0 = sum_zero f xs (λ i y is. same (suc i) y is) in
    omega (arith, sum_by-cons f x xs)

-- two sums that differ in one place
pub sum_apart : {A : Type 0} (f g : A → ℕ) (xs : List A) (i : ℕ) (x : A) → slice_get xs i ≡ Some x → ((j : ℕ) (y : A) → slice_get xs j ≡ Some y → j ≢ i → f y ≡ g y) → sum_by f xs + g x ≡ sum_by g xs + f x
sum_apart f g [] i x is same = absurd cc
sum_apart f g (first ∷ xs) zero x is same =
    let rest : sum_by f xs ≡ sum_by g xs = sum_same f g xs (λ j y at. same (suc j) y at (λ e. omega arith)) in
    let left : f first ≡ f x = ap f (same_Some first x is) in
    let right : g first ≡ g x = ap g (same_Some first x is) in
    omega (arith, sum_by-cons f first xs, sum_by-cons g first xs)
sum_apart f g (first ∷ xs) (suc i) x is same =
    let here : f first ≡ g first = same 0 first refl (λ e. omega arith) in
    let rest : sum_by f xs + g x ≡ sum_by g xs + f x = sum_apart f g xs i x is (λ j y at apart. same (suc j) y at (λ e. apart (omega arith))) in
    omega (arith, sum_by-cons f first xs, sum_by-cons g first xs)

pub sum_some : {A : Type 0} (f : A → ℕ) (xs : List A) → 1 ≤ sum_by f xs → (i : ℕ) × (x : A) × (slice_get xs i ≡ Some x) × (1 ≤ f x)
sum_some f [] many = absurd (omega arith)
sum_some {A} f (x ∷ xs) many =
    elim (cases_lt 0 (f x)) [
      | inl some ↦ (0, x, refl, omega arith)
      | inr none ↦ (let rest = sum_some f xs (omega (arith, sum_by-cons f x xs)) in (suc rest.0, rest.1, rest.2, rest.3))
    ]

pub sum_map : {A B : Type 0} (f : B → ℕ) (g : A → B) (xs : List A) → sum_by f (map g xs) ≡ sum_by (λ x. f (g x)) xs
sum_map f g [] = refl
sum_map {A} f g (x ∷ xs) =
    let rest : sum_by f (map g xs) ≡ sum_by (λ (y : A). f (g y)) xs = sum_map f g xs in
    omega (arith, sum_by-cons f (g x) (map g xs), sum_by-cons (λ (y : A). f (g y)) x xs)

-- ---- numbers among others

or_false : (b : Bool) → (b || false) ≡ b
or_false true = refl
or_false false = refl

pub among_push : (n : ℕ) (xs : List ℕ) (x : ℕ) → is_among n (xs ++ x ∷ []) ≡ (is_among n xs || (n == x))
among_push n [] x = or_false (n == x)
among_push n (y ∷ xs) x =
    ap (λ (b : Bool). (n == y) || b) (among_push n xs x) ∙ elim (n == y) as (λ b. (b || (is_among n xs || (n == x))) ≡ ((b || is_among n xs) || (n == x))) [ true ↦ refl | false ↦ refl ]

pub among_last : (n : ℕ) (xs : List ℕ) → is_among n (xs ++ n ∷ []) ≡ true
among_last n xs = among_push n xs n ∙ or_right (is_among n xs) (n == n) (eq-eqb n n refl)

pub above_all : (n : ℕ) (xs : List ℕ) → AllByRecursion (λ x. x < n) xs → is_among n xs ≡ false
above_all n [] all = refl
above_all n (x ∷ xs) all =
    let less : x < n = all.0 in
    or_from (n == x) (is_among n xs) (ne_eqb n x (λ same. omega arith)) (above_all n xs all.1)

pub among_at : (xs : List ℕ) (i x : ℕ) → slice_get xs i ≡ Some x → is_among x xs ≡ true
among_at [] i x is = absurd cc
among_at (y ∷ xs) zero x is = or_left (x == y) (is_among x xs) (eq-eqb x y (sym (same_Some y x is)))
among_at (y ∷ xs) (suc i) x is = or_right (x == y) (is_among x xs) (among_at xs i x is)

pub among_within : (most n : ℕ) (xs : List ℕ) → AllByRecursion (λ x. x < most) xs → is_among n xs ≡ true → n < most
among_within most n [] all is = absurd cc
among_within most n (x ∷ xs) all is =
    elim (or_cases (n == x) (is_among n xs) is) [
      | inl here ↦ (let less : x < most = all.0 in let same : n ≡ x = eqb-true n x here in omega arith)
      | inr there ↦ among_within most n xs all.1 there
    ]

-- numbers among others that are below a number are so too
pub within_same : (most : ℕ) (xs ys : List ℕ) → ((n : ℕ) → is_among n xs ≡ is_among n ys) → AllByRecursion (λ y. y < most) ys → AllByRecursion (λ x. x < most) xs
within_same most xs ys same all = all_from (λ (x : ℕ). x < most) xs (λ i x at. among_within most x ys all (sym (same x) ∙ among_at xs i x at))

apart_from : (x : ℕ) (ys : List ℕ) → AllByRecursion (λ y. nat_eq x y ≡ false) ys → is_among x ys ≡ false
apart_from x [] all = refl
apart_from x (y ∷ ys) all = or_from (x == y) (is_among x ys) all.0 (apart_from x ys all.1)

pub first_apart : (x : ℕ) (ys : List ℕ) → IsDistinct nat_eq (x ∷ ys) → is_among x ys ≡ false
first_apart x ys once = apart_from x ys (IsDistinct-head nat_eq x ys once)

pub distinct_drop : (xs : List ℕ) (i : ℕ) → IsDistinct nat_eq xs → IsDistinct nat_eq (drop i xs)
distinct_drop [] zero once = once
distinct_drop [] (suc i) once = once
distinct_drop (x ∷ xs) zero once = once
distinct_drop (x ∷ xs) (suc i) once = distinct_drop xs i (IsDistinct-tail nat_eq x xs once)

-- ---- numbers that are noted, each once

-- The numbers that are noted are those that were seen, and those among others, each once.
pub record AreNoted (has : ℕ → Bool) (others places : List ℕ) : Type 0 where
  pub seen : (n : ℕ) → has n ≡ is_among n places
  pub same : (n : ℕ) → is_among n places ≡ is_among n others
  pub once : IsDistinct nat_eq places

-- with a number that was not seen
pub note_new : (had has : ℕ → Bool) (others places : List ℕ) (x : ℕ) → ((q : ℕ) → has q ≡ cond (x == q) true (had q)) → had x ≡ false → AreNoted had others places → AreNoted has (others ++ x ∷ []) (places ++ x ∷ [])
note_new had has others places x more new noted = record {
  seen = λ n.
      more n
      ∙ elim (cases_eq x n) [
        | inl same ↦ ap (λ (b : Bool). cond b true (had n)) (eq-eqb x n same) ∙ sym (among_push n places x ∙ or_right (is_among n places) (n == x) (eq-eqb n x (sym same)))
        | inr apart ↦ ap (λ (b : Bool). cond b true (had n)) (ne_eqb x n apart) ∙ noted.seen n ∙ sym (among_push n places x ∙ ap (λ (b : Bool). is_among n places || b) (ne_eqb n x (λ same. apart (sym same))) ∙ or_false (is_among n places))
      ];
  same = λ n. among_push n places x ∙ ap (λ (b : Bool). b || (n == x)) (noted.same n) ∙ sym (among_push n others x);
  once = IsDistinct-push nat_eq_equiv places x noted.once (sym (noted.seen x) ∙ new);
}

-- with a number that was seen
pub note_old : (had has : ℕ → Bool) (others places : List ℕ) (x : ℕ) → ((q : ℕ) → has q ≡ cond (x == q) true (had q)) → had x ≡ true → AreNoted had others places → AreNoted has (others ++ x ∷ []) places
note_old had has others places x more old noted =
    let stands : is_among x places ≡ true = sym (noted.seen x) ∙ old in
    record {
      seen = λ n.
          more n
          ∙ elim (cases_eq x n) [
            | inl same ↦ ap (λ (b : Bool). cond b true (had n)) (eq-eqb x n same) ∙ sym (subst (λ (m : ℕ). is_among m places ≡ true) same stands)
            | inr apart ↦ ap (λ (b : Bool). cond b true (had n)) (ne_eqb x n apart) ∙ noted.seen n
          ];
      same = λ n.
          noted.same n
          ∙ elim (cases_eq x n) [
            | inl same ↦ sym (noted.same n) ∙ subst (λ (m : ℕ). is_among m places ≡ true) same stands ∙ sym (among_push n others x ∙ or_right (is_among n others) (n == x) (eq-eqb n x (sym same)))
            | inr apart ↦ sym (among_push n others x ∙ ap (λ (b : Bool). is_among n others || b) (ne_eqb n x (λ same. apart (sym same))) ∙ or_false (is_among n others))
          ];
      once = noted.once;
    }

pub mapped_more : {A B : Type 0} (f : A → B) (xs : List A) (i : ℕ) (x : A) → i < length xs → x ≡ get_or xs i x → map f (take (i + 1) xs) ≡ map f (take i xs) ++ f x ∷ []
mapped_more f xs i x within is = ap (map f) (take_more xs i x within) ∙ map-append f (take i xs) (get_or xs i x ∷ []) ∙ ap (λ y. map f (take i xs) ++ f y ∷ []) (sym is)
