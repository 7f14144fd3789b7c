-- The last of a list, and those before it.
use Rattle.std.proofs.Common.{List, [], ◌∷◌, ◌++◌, All, subst, arith, suc}
use Rattle.std.proofs.lemmas.List.{get_or_append_left, length-append}

pub all_before : {X : Type 0} (P : X → Type 0) (xs : List X) (x : X) → All P (xs ++ x ∷ []) → All P xs
all_before P xs x h k d below = subst P (get_or_append_left xs (x ∷ []) d k below) (h k d (omega (arith, below, length-append xs (x ∷ []))))

tail_all : {X : Type 0} (P : X → Type 0) (y : X) (xs : List X) → All P (y ∷ xs) → All P xs
tail_all P y xs h k d below = h (suc k) d (omega (arith, below))

pub all_last : {X : Type 0} (P : X → Type 0) (xs : List X) (x : X) → All P (xs ++ x ∷ []) → P x
all_last P [] x h = h 0 x (omega arith)
all_last P (y ∷ xs) x h = all_last P xs x (tail_all P y (xs ++ x ∷ []) h)
