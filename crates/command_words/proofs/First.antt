-- The first word.
use Rattle.std.proofs.Common.{◌≡◌, ◌∙◌, List, [], ◌∷◌, Some, ap, sym, map}
use Rattle.std.specs.Prelude.{slice_get}
use Rattle.clap.specs.Walk.{Text}

same_some : {X : Type 0} (x y : X) → Some x ≡ Some y → x ≡ y
same_some x y same = cc

pub begun : {X : Type 0} (f : X → Text) (xs : List X) (x : X) (word : Text) → Some x ≡ slice_get xs 0
    → f x ≡ word → (rest : List Text) × (map f xs ≡ word ∷ rest)
begun f [] x word at same = cc
begun f (y ∷ ys) x word at same =
    (map f ys, ap (λ (first : Text). first ∷ map f ys) (sym (ap f (same_some x y at)) ∙ same))

same_head : (one other : Text) (xs ys : List Text) → one ∷ xs ≡ other ∷ ys → one ≡ other
same_head one other xs ys same = cc

pub first_word : {X : Type 0} (f : X → Text) (xs : List X) (x : X) (word : Text) (rest : List Text)
    → Some x ≡ slice_get xs 0 → map f xs ≡ word ∷ rest → f x ≡ word
first_word f [] x word rest at begins = cc
first_word f (y ∷ ys) x word rest at begins =
    ap f (same_some x y at) ∙ same_head (f y) word (map f ys) rest begins
