-- What is found in a list of entries by its key.
use Rattle.std.proofs.Common.{◌≡◌, ℕ, zero, suc, ◌<◌, ◌≤◌, ◌==◌, List, [], ◌∷◌, ◌++◌, map, true, false, cond, Some, option_map, refl, sym, ap, ◌∙◌, ◌⊎◌, arith, inl, inr}
use Rattle.std.specs.Prelude.{slice_get}
use Rattle.std.specs.List.{count_by}
use Rattle.std.specs.Ordering.{nat_cmp}
use Rattle.std.specs.Cmp.{unsigned_tied}
use Rattle.std.specs.FinMap.{find}
use Rattle.std.proofs.lemmas.Bool.{eqb-true, eq-eqb, cases_order}
use Rattle.std.proofs.lemmas.Option.{same_Some, slice_get-map}
use Rattle.rule_check.proofs.Minima.{one_at}
use Rattle.rule_check.proofs.Twice.{count_two}

-- ---- places of lists that are made of others

pub mapped_back : {A B : Type 0} (f : A → B) (xs : List A) (k : ℕ) (y : B) → slice_get (map f xs) k ≡ Some y → (x : A) × (slice_get xs k ≡ Some x) × (f x ≡ y)
mapped_back f [] k y is = absurd cc
mapped_back f (x ∷ xs) zero y is = (x, refl, same_Some (f x) y is)
mapped_back f (x ∷ xs) (suc k) y is = mapped_back f xs k y is

pub mapped_at : {A B : Type 0} (f : A → B) (xs : List A) (k : ℕ) (x : A) → slice_get xs k ≡ Some x → slice_get (map f xs) k ≡ Some (f x)
mapped_at f xs k x is = slice_get-map f xs k ∙ ap (option_map f) is

pub left_at : {A : Type 0} (xs ys : List A) (k : ℕ) (x : A) → slice_get xs k ≡ Some x → slice_get (xs ++ ys) k ≡ Some x
left_at [] ys k x is = absurd cc
left_at (y ∷ xs) ys zero x is = is
left_at (y ∷ xs) ys (suc k) x is = left_at xs ys k x is

pub right_at : {A : Type 0} (xs ys : List A) (k : ℕ) (x : A) → slice_get ys k ≡ Some x → (m : ℕ) × (slice_get (xs ++ ys) m ≡ Some x)
right_at [] ys k x is = (k, is)
right_at (y ∷ xs) ys k x is = let rest = right_at xs ys k x is in (suc rest.0, rest.1)

pub split_at : {A : Type 0} (xs ys : List A) (k : ℕ) (x : A) → slice_get (xs ++ ys) k ≡ Some x → (slice_get xs k ≡ Some x) ⊎ ((m : ℕ) × (slice_get ys m ≡ Some x))
split_at [] ys k x is = inr (k, is)
split_at (y ∷ xs) ys zero x is = inl is
split_at (y ∷ xs) ys (suc k) x is = split_at xs ys k x is

-- ---- entries

find_cons : {V : Type 0} (q : ℕ) (e : ℕ × V) (es : List (ℕ × V)) → find nat_cmp q (e ∷ es) ≡ cond (q == e.0) (Some e.1) (find nat_cmp q es)
find_cons q e es = ap (λ b. cond b (Some e.1) (find nat_cmp q es)) (unsigned_tied q e.0)

-- what is found stands there
pub found_at : {V : Type 0} (q : ℕ) (es : List (ℕ × V)) (v : V) → find nat_cmp q es ≡ Some v → (k : ℕ) × (slice_get es k ≡ Some (q, v))
found_at q [] v is = absurd cc
found_at {V} q (e ∷ es) v is =
    elim (q == e.0) as (λ b. (q == e.0) ≡ b → cond b (Some e.1) (find nat_cmp q es) ≡ Some v → (k : ℕ) × (slice_get (e ∷ es) k ≡ Some (q, v))) [
      | true ↦ λ tied here. let key : e.0 ≡ q = sym (eqb-true q e.0 tied) in let value : e.1 ≡ v = same_Some e.1 v here in (0, λ i. Some (key i, value i))
      | false ↦ λ tied here. let rest = found_at q es v here in (suc rest.0, rest.1)
    ] refl (sym (find_cons q e es) ∙ is)

-- what stands there has a key that is found
pub at_found : {V : Type 0} (q : ℕ) (es : List (ℕ × V)) (k : ℕ) (v : V) → slice_get es k ≡ Some (q, v) → (w : V) × (find nat_cmp q es ≡ Some w)
at_found q [] k v is = absurd cc
at_found {V} q (e ∷ es) zero v is = let same : e ≡ (q, v) = same_Some e (q, v) is in (e.1, find_cons q e es ∙ ap (λ b. cond b (Some e.1) (find nat_cmp q es)) (eq-eqb q e.0 (ap (λ (x : ℕ × V). x.0) (sym same))))
at_found {V} q (e ∷ es) (suc k) v is =
    let rest = at_found q es k v is in
    elim (q == e.0) as (λ b. (q == e.0) ≡ b → (w : V) × (find nat_cmp q (e ∷ es) ≡ Some w)) [
      | true ↦ λ tied. (e.1, find_cons q e es ∙ ap (λ b. cond b (Some e.1) (find nat_cmp q es)) tied)
      | false ↦ λ tied. (rest.0, find_cons q e es ∙ ap (λ b. cond b (Some e.1) (find nat_cmp q es)) tied ∙ rest.1)
    ] refl

-- how often a key stands there
abbrev pub times : {V : Type 0} → ℕ → List (ℕ × V) → ℕ
times q es = count_by (λ e. e.0 == q) es

-- what stands there once under its key is found
pub once_found : {V : Type 0} (q : ℕ) (es : List (ℕ × V)) (k : ℕ) (v : V) → slice_get es k ≡ Some (q, v) → times q es < 2 → find nat_cmp q es ≡ Some v
once_found {V} q es k v is few =
    let found = at_found q es k v is in
    let there = found_at q es found.0 found.1 in
    let key : (q == q) ≡ true = eq-eqb q q refl in
    let apart : (i j : ℕ) (x y : V) → i < j → slice_get es i ≡ Some (q, x) → slice_get es j ≡ Some (q, y) → ⊥ =
    λ i j x y less one other. let many : 2 ≤ times q es = count_two (λ e. e.0 == q) es i j (q, x) (q, y) less one other key key in omega arith in
    elim (cases_order k there.0) [
      | inl same ↦ (let one : (q, v) ≡ (q, found.0) = one_at es k there.0 (q, v) (q, found.0) same is there.1 in found.1 ∙ ap Some (ap (λ (x : ℕ × V). x.1) (sym one)))
      | inr (inl less) ↦ absurd (apart k there.0 v found.0 less is there.1)
      | inr (inr less) ↦ absurd (apart there.0 k found.0 v less there.1 is)
    ]
