-- What a search along a list finds.
use Rattle.std.proofs.Common.{◌≡◌, ℕ, zero, suc, ◌+◌, ◌<◌, Bool, true, false, ◌||◌, List, [], ◌∷◌, ◌++◌, length, get_or, Some, None, refl, sym, ap, ◌∙◌, arith}
use Rattle.std.specs.List.{find, list_any, range_with_len}
use Rattle.std.proofs.lemmas.List.{map-id}
use Rattle.std.proofs.lemmas.List.FromFn.{map-range_with_len_more}

pub any_at : {X : Type 0} (p : X → Bool) (xs : List X) (i : ℕ) (d : X) → i < length xs → p (get_or xs i d) ≡ true → list_any p xs ≡ true
any_at p [] i d within here = absurd (omega arith)
any_at p (x ∷ xs) zero d within here = rw here refl
any_at p (x ∷ xs) (suc i) d within here = elim (p x) as (λ b. (b || list_any p xs) ≡ true) [
  | true ↦ refl
  | false ↦ any_at p xs i d (omega arith) here
]

pub any_nowhere : {X : Type 0} (p : X → Bool) (xs : List X) (d : X) → ((i : ℕ) → i < length xs → p (get_or xs i d) ≡ false) → list_any p xs ≡ false
any_nowhere p [] d none = refl
any_nowhere p (x ∷ xs) d none = rw (none 0 (omega arith)) (any_nowhere p xs d (λ i lt. none (suc i) (omega arith)))

pub find_at : {X : Type 0} (p : X → Bool) (xs : List X) (i : ℕ) (d : X) → i < length xs → p (get_or xs i d) ≡ true → ((k : ℕ) → k < i → p (get_or xs k d) ≡ false) → find p xs ≡ Some (get_or xs i d)
find_at p [] i d within here before = absurd (omega arith)
find_at p (x ∷ xs) zero d within here before = rw here refl
find_at p (x ∷ xs) (suc i) d within here before = rw (before 0 (omega arith)) (find_at p xs i d (omega arith) here (λ k lt. before (suc k) (omega arith)))

pub find_nowhere : {X : Type 0} (p : X → Bool) (xs : List X) (d : X) → ((i : ℕ) → i < length xs → p (get_or xs i d) ≡ false) → find p xs ≡ None
find_nowhere p [] d none = refl
find_nowhere p (x ∷ xs) d none = rw (none 0 (omega arith)) (find_nowhere p xs d (λ i lt. none (suc i) (omega arith)))

pub range_more : (n : ℕ) → range_with_len 0 (n + 1) ≡ range_with_len 0 n ++ n ∷ []
range_more n = sym (map-id (range_with_len 0 (n + 1))) ∙ map-range_with_len_more (λ (k : ℕ). k) 0 n n (omega arith) ∙ ap (λ (xs : List ℕ). xs ++ n ∷ []) (map-id (range_with_len 0 n))
