-- The least number that is so.
use Rattle.std.proofs.Common.{◌≡◌, ℕ, zero, suc, ◌+◌, ◌<◌, ◌≤◌, ◌⊎◌, List, [], ◌∷◌, length, get_or, Option, Some, None, min, refl, sym, ap, subst, ◌∙◌, arith, inl, inr}
use Rattle.std.specs.Prelude.{slice_get}
use Rattle.std.specs.List.{AllByRecursion}
use Rattle.std.specs.List.Sorted.{IsNonDecreasingBy}
use Rattle.std.proofs.lemmas.Bool.{cases_lt}
use Rattle.std.proofs.lemmas.Option.{same_Some, slice_get_within, get_or_from_slice_get, slice_get_read}
use Rattle.room_table.specs.declared.object.Object.{Object}
use Rattle.rule_check.specs.inner.Checks.{IsLeast, AnyObject, AnyOf, lesser_of}

-- what is so in other words has the same least number
pub least_like : (so other : ℕ → Type 0) (found : Option ℕ) → ((n : ℕ) → so n → other n) → ((n : ℕ) → other n → so n) → IsLeast so found → IsLeast other found
least_like so other None to from least = λ n is. least n (from n is)
least_like so other (Some n) to from least = (to n least.0, λ m less is. least.1 m less (from m is))

-- the lesser of two least numbers is the least that is so in either way
pub least_of_two : (one other so : ℕ → Type 0) → ((n : ℕ) → so n → one n ⊎ other n) → ((n : ℕ) → one n → so n) → ((n : ℕ) → other n → so n)
    → (a b : Option ℕ) → IsLeast one a → IsLeast other b → IsLeast so (lesser_of a b)
least_of_two one other so split left right None None first second = λ n is. elim (split n is) [ inl is ↦ first n is | inr is ↦ second n is ]
least_of_two one other so split left right None (Some n) first second = (right n second.0, λ m less is. elim (split m is) [ inl is ↦ first m is | inr is ↦ second.1 m less is ])
least_of_two one other so split left right (Some n) None first second = (left n first.0, λ m less is. elim (split m is) [ inl is ↦ first.1 m less is | inr is ↦ second m is ])
least_of_two one other so split left right (Some m) (Some n) first second =
    let below : (k : ℕ) → k < min m n → so k → ⊥ = λ k less is. elim (split k is) [ inl is ↦ first.1 k (omega arith) is | inr is ↦ second.1 k (omega arith) is ] in
    elim (cases_lt m n) [
      | inl less ↦ (let same : m ≡ min m n = omega arith in subst so same (left m first.0), below)
      | inr more ↦ (let same : n ≡ min m n = omega arith in subst so same (right n second.0), below)
    ]

-- ---- places of a list

-- Nothing below this place is so.
abbrev pub NoneBelow : {A : Type 0} → (ℕ → A → Type 0) → List A → ℕ → Type 0
NoneBelow {A} so xs i = (k : ℕ) (x : A) → k < i → slice_get xs k ≡ Some x → so k x → ⊥

-- what stands at a place is one
pub one_at : {A : Type 0} (xs : List A) (i k : ℕ) (x y : A) → i ≡ k → slice_get xs i ≡ Some x → slice_get xs k ≡ Some y → x ≡ y
one_at xs i k x y same here there = same_Some x y (sym here ∙ ap (slice_get xs) same ∙ there)

pub none_more : {A : Type 0} (so : ℕ → A → Type 0) (xs : List A) (i : ℕ) (x : A) → slice_get xs i ≡ Some x → (so i x → ⊥) → NoneBelow so xs i → NoneBelow so xs (i + 1)
none_more {A} so xs i x here not none k y less there is =
    elim (cases_lt k i) [
      | inl before ↦ none k y before there is
      | inr after ↦ (
          let same : k ≡ i = omega arith in
          let one : y ≡ x = one_at xs k i y x same there here in
          not (subst (λ (z : A). so i z) one (subst (λ (j : ℕ). so j y) same is))
          )
    ]

-- ---- objects in rising id

-- of two objects the later one has no lesser id
pub ids_up : (objects : List Object) → IsNonDecreasingBy (λ o. o.id) objects → (i j : ℕ) (one other : Object) → i ≤ j → slice_get objects i ≡ Some one → slice_get objects j ≡ Some other → one.id ≤ other.id
ids_up objects up i j one other le here there =
    let rises : (get_or objects i one).id ≤ (get_or objects j one).id = up i j one le (slice_get_within objects j other there) in
    let low : (get_or objects i one).id ≡ one.id = ap (λ (o : Object). o.id) (get_or_from_slice_get objects i one one here) in
    let high : (get_or objects j one).id ≡ other.id = ap (λ (o : Object). o.id) (get_or_from_slice_get objects j other one there) in
    omega arith

pub first_is_least : (so : Object → Type 0) (objects : List Object) (i : ℕ) (object : Object) → IsNonDecreasingBy (λ o. o.id) objects → slice_get objects i ≡ Some object → so object
    → NoneBelow (λ k o. so o) objects i → IsLeast (AnyObject so objects) (Some object.id)
first_is_least so objects i object up here bad none = (
  record { index = i; object = object; place = here; id = refl; is = bad },
  λ m less other.
      elim (cases_lt other.index i) [
        | inl before ↦ none other.index other.object before other.place other.is
        | inr after ↦ (
            let rises : object.id ≤ other.object.id = ids_up objects up i other.index object other.object after here other.place in
            let named : other.object.id ≡ m = other.id in
            absurd (omega arith)
            )
      ],
)

pub none_is_least : (so : Object → Type 0) (objects : List Object) (i : ℕ) → length objects ≤ i → NoneBelow (λ k o. so o) objects i → IsLeast (AnyObject so objects) None
none_is_least so objects i all none n is = let within : is.index < length objects = slice_get_within objects is.index is.object is.place in none is.index is.object (omega arith) is.place is.is

-- ---- one of a list

-- One of those below an index is so at this number.
abbrev pub AnyBelow : {A : Type 0} → (A → ℕ → Type 0) → List A → ℕ → ℕ → Type 0
AnyBelow {A} so xs i n = (any : AnyOf so xs n) × (any.index < i)

any_split : {A : Type 0} (so : A → ℕ → Type 0) (xs : List A) (i : ℕ) (x : A) → slice_get xs i ≡ Some x → (n : ℕ) → AnyBelow so xs (i + 1) n → AnyBelow so xs i n ⊎ so x n
any_split {A} so xs i x here n any =
    let less : any.0.index < i + 1 = any.1 in
    elim (cases_lt any.0.index i) [
      | inl before ↦ inl (any.0, before)
      | inr after ↦ (let same : any.0.index ≡ i = omega arith in inr (subst (λ (y : A). so y n) (one_at xs any.0.index i any.0.one x same any.0.place here) any.0.is))
    ]

pub least_more : {A : Type 0} (so : A → ℕ → Type 0) (xs : List A) (i : ℕ) (x : A) (least here : Option ℕ) → slice_get xs i ≡ Some x
    → IsLeast (AnyBelow so xs i) least → IsLeast (so x) here → IsLeast (AnyBelow so xs (i + 1)) (lesser_of least here)
least_more so xs i x least here at one other =
    least_of_two (AnyBelow so xs i) (so x) (AnyBelow so xs (i + 1)) (any_split so xs i x at)
    (λ n any. (any.0, let less : any.0.index < i = any.1 in omega arith))
    (λ n is. (record { index = i; one = x; place = at; is = is }, omega arith))
    least
    here
    one
    other

pub least_end : {A : Type 0} (so : A → ℕ → Type 0) (xs : List A) (i : ℕ) (least : Option ℕ) → length xs ≤ i → IsLeast (AnyBelow so xs i) least → IsLeast (AnyOf so xs) least
least_end so xs i least all is =
    least_like (AnyBelow so xs i) (AnyOf so xs) least (λ n any. any.0) (λ n any. (any, let within : any.index < length xs = slice_get_within xs any.index any.one any.place in omega arith)) is

-- ---- what a loop reads

pub read_at : {A : Type 0} (xs : List A) (i : ℕ) (x : A) → i < length xs → x ≡ get_or xs i x → slice_get xs i ≡ Some x
read_at xs i x within read = slice_get_read xs (length xs) i x refl within read

-- what holds of all holds of the one at a place
pub all_at : {A : Type 0} (so : A → Type 0) (xs : List A) (i : ℕ) (x : A) → AllByRecursion so xs → slice_get xs i ≡ Some x → so x
all_at so [] i x all is = absurd cc
all_at so (y ∷ xs) zero x all is = subst so (same_Some y x is) all.0
all_at so (y ∷ xs) (suc i) x all is = all_at so xs i x all.1 is
