-- Lists by their places.
use Rattle.std.proofs.Common.{◌≡◌, ℕ, suc, zero, ◌+◌, ◌<◌, ◌≤◌, ◌⊎◌, inl, inr, List, [], ◌∷◌, ◌++◌, length, get_or, map, refl, ap, sym, ◌∙◌, subst, arith, Option, Some, None, slice_get, All}
use Rattle.std.specs.Option.{option_map}
use Rattle.std.proofs.lemmas.Option.{slice_get-get_or, slice_get_within, get_or_from_slice_get, slice_get-map}
use Rattle.wasm_link.specs.Made.{EachAt}

pub same_found : {A : Type 0} {x y : A} (o : Option A) → o ≡ Some x → o ≡ Some y → x ≡ y
same_found o e f = cc

pub not_found : {A : Type 0} {x : A} (o : Option A) → o ≡ Some x → o ≡ None → ⊥
not_found o e f = cc

inside : {A : Type 0} {x y : A} → ◌≡◌ {A = Option A} (Some x) (Some y) → x ≡ y
inside e = cc

pub before_or : (a b : ℕ) → (a < b) ⊎ (b ≤ a)
before_or a b = grind arith

pub below_or : (i at : ℕ) → i < at + 1 → (i < at) ⊎ (i ≡ at)
below_or i at h = grind arith

pub found : {A : Type 0} (xs : List A) (i : ℕ) → i < length xs → (x : A) × (slice_get xs i ≡ Some x)
found [] i below = absurd (omega arith)
found (x ∷ xs) zero below = (x, refl)
found (x ∷ xs) (suc i) below = found xs i (omega arith)

pub get_left : {A : Type 0} (xs ys : List A) (i : ℕ) → i < length xs → slice_get (xs ++ ys) i ≡ slice_get xs i
get_left [] ys i below = absurd (omega arith)
get_left (x ∷ xs) ys zero below = refl
get_left (x ∷ xs) ys (suc i) below = get_left xs ys i (omega arith)

pub get_right : {A : Type 0} (xs ys : List A) (place i : ℕ) → place ≡ length xs + i → slice_get (xs ++ ys) place ≡ slice_get ys i
get_right [] ys place i e = let same : place ≡ i = omega arith in ap (slice_get ys) same
get_right (x ∷ xs) ys zero i e = absurd (omega arith)
get_right (x ∷ xs) ys (suc place) i e = get_right xs ys place i (omega arith)

-- ---- one more entry

further : {A : Type 0} (x y : A) (xs : List A) (place : ℕ) (o : Option A) → (o ≡ Some y) ⊎ ((place ≡ length xs) × (x ≡ y)) → (o ≡ Some y) ⊎ ((suc place ≡ suc (length xs)) × (x ≡ y))
further x y xs place o (inl e) = inl e
further x y xs place o (inr e) = inr (ap suc e.0, e.1)

pushed : {A : Type 0} (xs : List A) (x : A) (place : ℕ) (y : A) → slice_get (xs ++ x ∷ []) place ≡ Some y → (slice_get xs place ≡ Some y) ⊎ ((place ≡ length xs) × (x ≡ y))
pushed [] x zero y e = inr (refl, inside e)
pushed [] x (suc place) y e = absurd cc
pushed (z ∷ xs) x zero y e = inl e
pushed (z ∷ xs) x (suc place) y e = further x y xs place (slice_get xs place) (pushed xs x place y e)

pub each_none : {A : Type 0} (P : ℕ → A → Type 0) → EachAt P []
each_none P = record { each = λ place entry e. absurd cc }

pub each_push : {A : Type 0} (P : ℕ → A → Type 0) (xs : List A) (x : A) (n : ℕ) → length xs ≡ n → EachAt P xs → P n x → EachAt P (xs ++ x ∷ [])
each_push {A} P xs x n count h here = record {
  each = λ place entry e. elim (pushed xs x place entry e) [
    | inl f ↦ h.each place entry f
    | inr f ↦
        let there : n ≡ place = sym count ∙ sym f.0 in
        subst (λ (z : A). P place z) f.1 (subst (λ (z : ℕ). P z x) there here)
  ];
}

-- ---- all of them

pub all_from : {A : Type 0} (P : A → Type 0) (xs : List A) → ((i : ℕ) (x : A) → slice_get xs i ≡ Some x → P x) → All P xs
all_from P xs h = λ k d below. h k (get_or xs k d) (slice_get-get_or xs k d below)

pub all_at : {A : Type 0} (P : A → Type 0) (xs : List A) (i : ℕ) (x : A) → All P xs → slice_get xs i ≡ Some x → P x
all_at P xs i x h e = subst P (get_or_from_slice_get xs i x x e) (h i x (slice_get_within xs i x e))

pub all_left : {A : Type 0} (P : A → Type 0) (xs ys : List A) → All P (xs ++ ys) → All P xs
all_left P xs ys h = all_from P xs (λ i x e. all_at P (xs ++ ys) i x h (get_left xs ys i (slice_get_within xs i x e) ∙ e))

pub all_right : {A : Type 0} (P : A → Type 0) (xs ys : List A) → All P (xs ++ ys) → All P ys
all_right P xs ys h = all_from P ys (λ i x e. all_at P (xs ++ ys) (length xs + i) x h (get_right xs ys (length xs + i) i refl ∙ e))

pub get_map : {A B : Type 0} (f : A → B) (xs : List A) (i : ℕ) (x : A) → slice_get xs i ≡ Some x → slice_get (map f xs) i ≡ Some (f x)
get_map f xs i x e = slice_get-map f xs i ∙ ap (option_map f) e

pub found_under : {A B : Type 0} (f : A → B) (xs : List A) (i : ℕ) (y : B) → slice_get (map f xs) i ≡ Some y → (x : A) × (slice_get xs i ≡ Some x) × (f x ≡ y)
found_under f [] i y e = absurd cc
found_under f (x ∷ xs) zero y e = (x, refl, inside e)
found_under f (x ∷ xs) (suc i) y e = found_under f xs i y e

-- the entry that was read
pub read_at : {A : Type 0} (xs : List A) (i : ℕ) (x : A) → i < length xs → x ≡ get_or xs i x → slice_get xs i ≡ Some x
read_at xs i x below is = slice_get-get_or xs i x below ∙ ap Some (sym is)
