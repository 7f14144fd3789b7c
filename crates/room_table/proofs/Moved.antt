-- Lists in another order: what is found in them, and those that rise.
use Rattle.std.proofs.Common.{◌≡◌, ℕ, zero, suc, ◌+◌, ◌<◌, ◌≤◌, ◌==◌, ◌⊎◌, Bool, true, false, cond, List, [], ◌∷◌, length, get_or, Option, Some, None, refl, sym, ap, subst, ◌∙◌, inl, inr, arith}
use Rattle.std.specs.List.{AllByRecursion, Contains, count_by, filter, find}
use Rattle.std.specs.List.Sorted.{IsPermutation, IsNonDecreasingBy}
use Rattle.std.proofs.lemmas.Bool.{eq-eqb}
use Rattle.std.proofs.lemmas.List.Elements.{All-contains, All-from_recursion, recursion_from_All, All-contains_itself, All-filter, filter_passes, Contains-append_cases, Contains-append_right, Contains-get_or}
use Rattle.std.proofs.lemmas.List.Sums.{sum_by-cons}
use Rattle.std.proofs.lemmas.List.Sorted.{IsPermutation-sym, Contains-permutation, sum_by-IsPermutation}
use Rattle.room_table.proofs.Rising.{Rises}

-- ---- membership

pub Contains-head : {X : Type 0} (x : X) (xs : List X) → Contains (x ∷ xs) x
Contains-head x xs = (0, omega arith, refl)

pub Contains-later : {X : Type 0} (first : X) (xs : List X) (x : X) → Contains xs x → Contains (first ∷ xs) x
Contains-later first xs x within = Contains-append_right (first ∷ []) xs x within

alone : {X : Type 0} (first x : X) → Contains (first ∷ []) x → first ≡ x
alone first x (zero, within, is) = is
alone first x (suc k, within, is) = absurd (omega arith)

pub first_or_later : {X : Type 0} (first : X) (xs : List X) (x : X) → Contains (first ∷ xs) x → (first ≡ x) ⊎ Contains xs x
first_or_later first xs x within =
    elim (Contains-append_cases (first ∷ []) xs x within) [
      | inl here ↦ inl (alone first x here)
      | inr later ↦ inr later
    ]

pub none_within : {X : Type 0} (x : X) → Contains [] x → ⊥
none_within x (k, within, is) = omega arith

pub all_from_within : {X : Type 0} (P : X → Type 0) (xs : List X) → ((x : X) → Contains xs x → P x) → AllByRecursion P xs
all_from_within P xs holds = recursion_from_All P xs (λ k d lt. holds (get_or xs k d) (Contains-get_or xs k d lt))

pub Contains-filter : {X : Type 0} (test : X → Bool) (xs : List X) (x : X) → Contains xs x → test x ≡ true → Contains (filter test xs) x
Contains-filter test [] x within passes = absurd (none_within x within)
Contains-filter {X} test (first ∷ xs) x within passes =
    elim (first_or_later first xs x within) [
      | inl here ↦ subst (λ (b : Bool). Contains (cond b (first ∷ filter test xs) (filter test xs)) x) (sym passes ∙ ap test (sym here)) (subst (Contains (first ∷ filter test xs)) here (Contains-head first (filter test xs)))
      | inr later ↦ (
          let rest = Contains-filter test xs x later passes in
          elim (test first) as (λ b. Contains (cond b (first ∷ filter test xs) (filter test xs)) x) [ true ↦ Contains-later first (filter test xs) x rest | false ↦ rest ]
          )
    ]

pub Contains-from_filter : {X : Type 0} (test : X → Bool) (xs : List X) (x : X) → Contains (filter test xs) x → Contains xs x × (test x ≡ true)
Contains-from_filter test xs x within = (
  All-contains (Contains xs) (filter test xs) x (All-filter test (Contains xs) xs (All-contains_itself xs)) within,
  All-contains (λ y. test y ≡ true) (filter test xs) x (filter_passes test xs) within,
)

-- ---- what is found where one passes at most

pub count_head : {X : Type 0} (test : X → Bool) (x : X) (xs : List X) → count_by test (x ∷ xs) ≡ cond (test x) 1 0 + count_by test xs
count_head test x xs = sum_by-cons (λ y. cond (test y) 1 0) x xs

pub passed : (b : Bool) → b ≡ true → cond {A = ℕ} b 1 0 ≡ 1
passed b is = ap (λ (c : Bool). cond {A = ℕ} c 1 0) is

pub failed : (b : Bool) → b ≡ false → cond {A = ℕ} b 1 0 ≡ 0
failed b is = ap (λ (c : Bool). cond {A = ℕ} c 1 0) is

counted : {X : Type 0} (test : X → Bool) (xs : List X) (x : X) → Contains xs x → test x ≡ true → 1 ≤ count_by test xs
counted test [] x within passes = absurd (none_within x within)
counted test (first ∷ xs) x within passes =
    let all = count_head test first xs in
    elim (first_or_later first xs x within) [
      | inl here ↦ let one = passed (test first) (ap test here ∙ passes) in omega arith
      | inr later ↦ let rest : 1 ≤ count_by test xs = counted test xs x later passes in omega arith
    ]

pub find_only : {X : Type 0} (test : X → Bool) (xs : List X) (x : X) → Contains xs x → test x ≡ true → count_by test xs ≤ 1 → find test xs ≡ Some x
find_only test [] x within passes once = absurd (none_within x within)
find_only test (first ∷ xs) x within passes once =
    let all = count_head test first xs in
    elim (first_or_later first xs x within) [
      | inl here ↦ ap (λ b. cond b (Some first) (find test xs)) (ap test here ∙ passes) ∙ ap Some here
      | inr later ↦ (
          let rest : 1 ≤ count_by test xs = counted test xs x later passes in
          elim (test first) as (λ b. test first ≡ b → cond b (Some first) (find test xs) ≡ Some x) [
            | true ↦ λ is. (let one = passed (test first) is in absurd (omega arith))
            | false ↦ λ is. (let none = failed (test first) is in find_only test xs x later passes (omega arith))
          ] refl
          )
    ]

pub found_within : {X : Type 0} (test : X → Bool) (xs : List X) (x : X) → find test xs ≡ Some x → Contains xs x × (test x ≡ true)
found_within test [] x is = absurd (cc)
found_within test (first ∷ xs) x is =
    elim (test first) as (λ b. test first ≡ b → cond b (Some first) (find test xs) ≡ Some x → Contains (first ∷ xs) x × (test x ≡ true)) [
      | true ↦ λ passes found. (let same : first ≡ x = cc in (subst (Contains (first ∷ xs)) same (Contains-head first xs), ap test (sym same) ∙ passes))
      | false ↦ λ fails found. (let rest = found_within test xs x found in (Contains-later first xs x rest.0, rest.1))
    ] refl is

found_as : {X : Type 0} (test : X → Bool) (xs ys : List X) → IsPermutation xs ys → count_by test ys ≤ 1 → (found : Option X) → find test xs ≡ found → (other : Option X) → find test ys ≡ other → found ≡ other
found_as test xs ys moved once (Some x) is other at =
    let within = found_within test xs x is in
    sym (find_only test ys x (Contains-permutation xs ys x moved within.0) within.1 once) ∙ at
found_as test xs ys moved once None is None at = refl
found_as test xs ys moved once None is (Some y) at =
    let within = found_within test ys y at in
    let few : count_by test xs ≤ 1 = subst (λ n. n ≤ 1) (sum_by-IsPermutation (λ x. cond (test x) 1 0) xs ys moved) once in
    sym is ∙ find_only test xs y (Contains-permutation ys xs y (IsPermutation-sym xs ys moved) within.0) within.1 few

-- where one passes at most, the same is found in any order
pub find_moved : {X : Type 0} (test : X → Bool) (xs ys : List X) → IsPermutation xs ys → count_by test ys ≤ 1 → find test xs ≡ find test ys
find_moved test xs ys moved once = found_as test xs ys moved once (find test xs) refl (find test ys) refl

-- ---- lists that rise

-- keys that don't fall, each once, rise
pub strictly : {X : Type 0} (key : X → ℕ) (xs : List X) → IsNonDecreasingBy key xs → ((q : ℕ) → count_by (λ x. key x == q) xs ≤ 1) → Rises key xs
strictly key [] order once = tt
strictly {X} key (x ∷ xs) order once =
    let after : (k : ℕ) (d : X) → k < length xs → key x < key (get_or xs k d) = λ k d within.
    (let le : key x ≤ key (get_or xs k d) = order 0 (suc k) d (omega arith) (omega arith) in
    let few : count_by (λ y. key y == key x) (x ∷ xs) ≤ 1 = once (key x) in
    let all = count_head (λ y. key y == key x) x xs in
    let one = passed (key x == key x) (eq-eqb (key x) (key x) refl) in
    let apart : key (get_or xs k d) ≡ key x → ⊥ = λ same.
    (let many : 1 ≤ count_by (λ y. key y == key x) xs = counted (λ y. key y == key x) xs (get_or xs k d) (Contains-get_or xs k d within) (eq-eqb (key (get_or xs k d)) (key x) same) in omega arith) in
    omega arith) in (
      above x xs xs after,
      strictly key xs (λ i j d le within. order (suc i) (suc j) d (omega arith) (omega arith)) (λ q. let few : count_by (λ y. key y == q) (x ∷ xs) ≤ 1 = once q in let all = count_head (λ y. key y == q) x xs in omega arith),
    )
  where
    above : (x : X) (all rest : List X) → ((k : ℕ) (d : X) → k < length rest → key x < key (get_or rest k d)) → AllByRecursion (λ later. key x < key later) rest
    above x all [] h = tt
    above x all (y ∷ rest) h = (h 0 y (omega arith), above x all rest (λ k d within. h (suc k) d (omega arith)))

all_within : {X : Type 0} (P : X → Type 0) (xs : List X) (x : X) → AllByRecursion P xs → Contains xs x → P x
all_within P xs x all within = All-contains P xs x (All-from_recursion P xs all) within

-- two such lists with the same members are one
pub same_rising : {X : Type 0} (key : X → ℕ) (xs ys : List X) → Rises key xs → Rises key ys → ((x : X) → Contains xs x → Contains ys x) → ((x : X) → Contains ys x → Contains xs x) → xs ≡ ys
same_rising key [] [] one other there back = refl
same_rising key [] (y ∷ ys) one other there back = absurd (none_within y (back y (Contains-head y ys)))
same_rising key (x ∷ xs) [] one other there back = absurd (none_within x (there x (Contains-head x xs)))
same_rising {X} key (x ∷ xs) (y ∷ ys) one other there back =
    let first : x ≡ y = elim (first_or_later y ys x (there x (Contains-head x xs))) [
      | inl same ↦ sym same
      | inr later ↦ elim (first_or_later x xs y (back y (Contains-head y ys))) [
        | inl same ↦ same
        | inr after ↦ (
            let less : key y < key x = all_within (λ z. key y < key z) ys x other.0 later in
            let more : key x < key y = all_within (λ z. key x < key z) xs y one.0 after in
            absurd (omega arith)
            )
      ]
    ] in
    let rest : xs ≡ ys = same_rising key xs ys one.1 other.1
    (λ z within. elim (first_or_later y ys z (there z (Contains-later x xs z within))) [
      | inl same ↦ (let less : key x < key z = all_within (λ w. key x < key w) xs z one.0 within in let keys : key x ≡ key z = ap key (first ∙ same) in absurd (omega arith))
      | inr later ↦ later
    ])
    (λ z within. elim (first_or_later x xs z (back z (Contains-later y ys z within))) [
      | inl same ↦ (let less : key y < key z = all_within (λ w. key y < key w) ys z other.0 within in let keys : key y ≡ key z = ap key (sym first ∙ same) in absurd (omega arith))
      | inr later ↦ later
    ]) in
    λ i. first i ∷ rest i
