-- Lists by their places: one that is changed place by place, and one with another item at a place.
use Rattle.std.proofs.Common.{◌≡◌, ℕ, zero, suc, ◌+◌, ◌<◌, ◌≤◌, ◌==◌, nat_lt, Bool, true, false, cond, List, [], ◌∷◌, ◌++◌, map, length, get_or, set, take, drop, Option, Some, option_map, slice_get, refl, sym, ap, ◌∙◌, arith}
use Rattle.std.proofs.Math.Seq.{take-append_seam}
use Rattle.std.proofs.lemmas.Bool.{eqb-true, eqb-false, ltb-true, ltb-false, le-ltb, lt-ltb}
use Rattle.std.proofs.lemmas.Option.{slice_get_past, slice_get_within, slice_get-map}
use Rattle.world_rules.proofs.Same.{same_lists}

set_same : {A : Type 0} (xs : List A) (i : ℕ) (x : A) → i < length xs → slice_get (set xs i x) i ≡ Some x
set_same [] i x inside = absurd (omega arith)
set_same (y ∷ xs) zero x inside = refl
set_same (y ∷ xs) (suc i) x inside = set_same xs i x (omega arith)

set_other : {A : Type 0} (xs : List A) (i k : ℕ) (x : A) → (k ≡ i → ⊥) → slice_get (set xs i x) k ≡ slice_get xs k
set_other [] i k x apart = refl
set_other (y ∷ xs) zero zero x apart = absurd (apart refl)
set_other (y ∷ xs) zero (suc k) x apart = refl
set_other (y ∷ xs) (suc i) zero x apart = refl
set_other (y ∷ xs) (suc i) (suc k) x apart = set_other xs i k x (λ same. apart (ap suc same))

pub get_set : {A : Type 0} (xs : List A) (i k : ℕ) (x : A) → i < length xs → slice_get (set xs i x) k ≡ cond (k == i) (Some x) (slice_get xs k)
get_set xs i k x inside =
    elim (k == i) as (λ b. (k == i) ≡ b → slice_get (set xs i x) k ≡ cond b (Some x) (slice_get xs k)) [
      | true ↦ λ at. ap (slice_get (set xs i x)) (eqb-true k i at) ∙ set_same xs i x inside
      | false ↦ λ at. set_other xs i k x (eqb-false k i at)
    ] refl

-- Each item below a place was changed by the place, and the others stay.
abbrev pub AreChangedTo : {A : Type 0} → (ℕ → A → A) → ℕ → List A → List A → Type 0
AreChangedTo change i old new = (k : ℕ) → slice_get new k ≡ cond (nat_lt k i) (option_map (change k) (slice_get old k)) (slice_get old k)

module _ {A : Type 0} (change : ℕ → A → A) (old : List A) where
  pub changed_none : AreChangedTo change 0 old old
  changed_none k = ap (λ (b : Bool). cond b (option_map (change k) (slice_get old k)) (slice_get old k)) (sym (le-ltb k 0 (omega arith)))

  pub changed_here : (i : ℕ) (new : List A) (x : A) → AreChangedTo change i old new → slice_get new i ≡ Some x → slice_get old i ≡ Some x
  changed_here i new x are at = sym (are i ∙ ap (λ (b : Bool). cond b (option_map (change i) (slice_get old i)) (slice_get old i)) (not_below i)) ∙ at
    where
      not_below : (i : ℕ) → nat_lt i i ≡ false
      not_below i = elim (nat_lt i i) as (λ b. nat_lt i i ≡ b → b ≡ false) [ true ↦ λ is. absurd (omega (arith, ltb-true i i is)) | false ↦ λ is. refl ] refl

  step_at : (i k : ℕ) (x : A) → slice_get old i ≡ Some x
      → cond (k == i) (Some (change i x)) (cond (nat_lt k i) (option_map (change k) (slice_get old k)) (slice_get old k)) ≡ cond (nat_lt k (i + 1)) (option_map (change k) (slice_get old k)) (slice_get old k)
  step_at i k x was = elim (k == i) as (λ b. (k == i) ≡ b → cond b (Some (change i x)) (cond (nat_lt k i) (option_map (change k) (slice_get old k)) (slice_get old k)) ≡ cond (nat_lt k (i + 1)) (option_map (change k) (slice_get old k)) (slice_get old k)) [
    | true ↦ λ at.
        let same : k ≡ i = eqb-true k i at in
        let below : k < i + 1 = omega arith in
        ap (option_map (change i)) (sym was)
        ∙ ap (λ (n : ℕ). option_map (change n) (slice_get old n)) (sym same)
        ∙ ap (λ (b : Bool). cond b (option_map (change k) (slice_get old k)) (slice_get old k)) (sym (lt-ltb k (i + 1) below))
    | false ↦ λ at.
        let apart = eqb-false k i at in
        ap (λ (b : Bool). cond b (option_map (change k) (slice_get old k)) (slice_get old k)) (same_test apart)
  ] refl
    where
      same_test : (k ≡ i → ⊥) → nat_lt k i ≡ nat_lt k (i + 1)
      same_test apart = elim (nat_lt k i) as (λ b. nat_lt k i ≡ b → b ≡ nat_lt k (i + 1)) [
        | true ↦ λ is. let less : k < i + 1 = omega (arith, ltb-true k i is) in sym (lt-ltb k (i + 1) less)
        | false ↦ λ is. elim (nat_lt k (i + 1)) as (λ b. nat_lt k (i + 1) ≡ b → false ≡ b) [
          | true ↦ λ more. absurd (omega (arith, ltb-false k i is, ltb-true k (i + 1) more))
          | false ↦ λ more. refl
        ] refl
      ] refl

  pub changed_more : (i : ℕ) (new : List A) (x : A) → AreChangedTo change i old new → slice_get new i ≡ Some x → AreChangedTo change (i + 1) old (set new i (change i x))
  changed_more i new x are at k =
      get_set new i k (change i x) (slice_get_within new i x at)
      ∙ ap (λ (found : Option A). cond (k == i) (Some (change i x)) found) (are k)
      ∙ step_at i k x (changed_here i new x are at)

  pub changed_all : (i : ℕ) (new : List A) → AreChangedTo change i old new → length old ≤ i → (k : ℕ) → slice_get new k ≡ option_map (change k) (slice_get old k)
  changed_all i new are past k =
      are k
      ∙ elim (nat_lt k i) as (λ b. nat_lt k i ≡ b → cond b (option_map (change k) (slice_get old k)) (slice_get old k) ≡ option_map (change k) (slice_get old k)) [
        | true ↦ λ is. refl
        | false ↦ λ is.
            let none = slice_get_past old k (omega (arith, ltb-false k i is)) in
            none ∙ ap (option_map (change k)) (sym none)
      ] refl

-- one change for all places
pub changed_map : {A : Type 0} (change : A → A) (i : ℕ) (old new : List A) → AreChangedTo (λ k. change) i old new → length old ≤ i → new ≡ map change old
changed_map change i old new are past = same_lists new (map change old) (λ k. changed_all (λ k. change) old i new are past k ∙ sym (slice_get-map change old k))

pub read_place : {A : Type 0} (xs : List A) (i : ℕ) (x : A) → i < length xs → x ≡ get_or xs i x → slice_get xs i ≡ Some x
read_place [] i x inside is = absurd (omega arith)
read_place (first ∷ xs) zero x inside is = ap Some (sym is)
read_place (first ∷ xs) (suc i) x inside is = read_place xs i x (omega arith) is

-- an item among those before and after it
pub record Split {A : Type 0} (xs : List A) (i : ℕ) (x y : A) : Type 0 where
  pub before : List A
  pub after : List A
  pub place : length before ≡ i
  pub whole : xs ≡ before ++ x ∷ after
  pub other : set xs i y ≡ before ++ y ∷ after

pub split_at : {A : Type 0} (xs : List A) (i : ℕ) (x y : A) → slice_get xs i ≡ Some x → Split xs i x y
split_at [] i x y at = absurd (cc)
split_at (first ∷ xs) zero x y at = let same : first ≡ x = cc in record { before = []; after = xs; place = refl; whole = ap (λ z. z ∷ xs) same; other = refl }
split_at {A} (first ∷ xs) (suc i) x y at =
    let rest = split_at xs i x y at in
    record {
      before = first ∷ rest.before;
      after = rest.after;
      place = ap suc rest.place;
      whole = ap (λ (more : List A). first ∷ more) rest.whole;
      other = ap (λ (more : List A). first ∷ more) rest.other;
    }

-- a slice that was lent and written back
pub written_back : {A : Type 0} (xs new : List A) (len : ℕ) → length new ≡ length xs → len ≡ length xs → take len (new ++ drop (length new) xs) ≡ new
written_back {A} xs new len long same = ap (λ (n : ℕ). take n (new ++ drop (length new) xs)) (same ∙ sym long) ∙ take-append_seam new (drop (length new) xs)

pub read_middle : {A : Type 0} (before : List A) (x : A) (after : List A) → slice_get (before ++ x ∷ after) (length before) ≡ Some x
read_middle [] x after = refl
read_middle (first ∷ before) x after = read_middle before x after
