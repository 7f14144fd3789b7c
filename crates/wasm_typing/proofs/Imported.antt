-- Lists that are gathered in one pass.
use Rattle.std.proofs.Common.{◌≡◌, ℕ, suc, zero, ◌+◌, ◌<◌, List, [], ◌∷◌, ◌++◌, length, get_or, take, map, refl, ap, sym, ◌∙◌, arith, add-one, append_assoc, Option, Some, None, option_to_list}
use Rattle.std.proofs.lemmas.List.Elements.{All-nil, All-cons, All-head, All-tail}
use Rattle.std.specs.List.{filter_map, cons_option, All}

at_end : {Y : Type 0} (o : Option Y) → cons_option o [] ≡ option_to_list o
at_end None = refl
at_end (Some y) = refl

before : {Y : Type 0} (o : Option Y) (xs ys : List Y) → cons_option o (xs ++ ys) ≡ cons_option o xs ++ ys
before None xs ys = refl
before (Some y) xs ys = refl

filtered : {X Y : Type 0} (h : X → Option Y) (xs : List X) (at : ℕ) (x : X) → x ≡ get_or xs at x → at < length xs → filter_map h (take (suc at) xs) ≡ filter_map h (take at xs) ++ option_to_list (h x)
filtered h [] at x is below = absurd (omega arith)
filtered h (y ∷ ys) zero x is below = at_end (h y) ∙ ap (λ z. option_to_list (h z)) (sym is)
filtered h (y ∷ ys) (suc at) x is below = ap (cons_option (h y)) (filtered h ys at x is (omega arith)) ∙ before (h y) (filter_map h (take at ys)) (option_to_list (h x))

-- with what stands before
pub filtered_more : {X Y : Type 0} (h : X → Option Y) (xs : List X) (at : ℕ) (x : X) (first old new : List Y) → x ≡ get_or xs at x → at < length xs
    → old ≡ first ++ filter_map h (take at xs) → new ≡ old ++ option_to_list (h (get_or xs at x)) → new ≡ first ++ filter_map h (take (at + 1) xs)
filtered_more h xs at x first old new is below e f =
    f ∙ ap (λ z. old ++ option_to_list (h z)) (sym is) ∙ ap (λ z. z ++ option_to_list (h x)) e ∙ append_assoc first (filter_map h (take at xs)) (option_to_list (h x)) ∙ ap (λ z. first ++ z) (sym (rw add-one (filtered h xs at x is below)))

pub unmapped : {X Y : Type 0} (P : Y → Type 0) (f : X → Y) (xs : List X) → All P (map f xs) → All (λ x. P (f x)) xs
unmapped P f [] h = All-nil (λ x. P (f x))
unmapped P f (x ∷ xs) h = All-cons (λ x. P (f x)) x xs (All-head P (f x) (map f xs) h) (unmapped P f xs (All-tail P (f x) (map f xs) h))
