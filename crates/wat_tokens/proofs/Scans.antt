-- Bytes of a kind, one after the other.
use Rattle.std.proofs.Common.{◌≡◌, ℕ, zero, suc, ◌+◌, ◌-◌, ◌<◌, ◌≤◌, List, [], ◌∷◌, ◌++◌, length, take, drop, get_or, sym, ap, ◌∙◌, subst, arith}
use Rattle.std.specs.Prelude.{false, ◌==◌, Option, None, Some, IfNone}
use Rattle.std.proofs.lemmas.Bool.Decides.{nat_tests}
use Rattle.std.proofs.Math.Seq.{take-suc, drop-cons, take-add, take-append_seam}
use Rattle.std.proofs.lemmas.List.{take_rest, take_all, drop-drop, length-drop, length-take}
use Rattle.std.specs.List.{All}
use Rattle.wat_grammar.specs.Tokens.{BeginsWithNo, IsWordByte}
use Rattle.std.proofs.lemmas.List.Elements.{All-append, All-cons, All-nil}

pub all_one_more : (P : ℕ → Type 0) (xs : List ℕ) (n : ℕ) → n < length xs → All P (take n xs) → P (get_or xs n 0) → All P (take (n + 1) xs)
all_one_more P xs n within before here =
    let e : n + 1 ≡ suc n = omega arith in
    rw e (subst (All P) (sym (take-suc xs n 0 within)) (All-append P (take n xs) (get_or xs n 0 ∷ []) before (All-cons P (get_or xs n 0) [] here (All-nil P))))

-- the byte at a place, and those behind it
pub first_of : (xs : List ℕ) (n : ℕ) → n < length xs → drop n xs ≡ get_or xs n 0 ∷ drop (n + 1) xs
first_of xs n within = let e : n + 1 ≡ suc n = omega arith in rw e (drop-cons xs n 0 within)

pub none_begins : (P : ℕ → Type 0) (text : List ℕ) → text ≡ [] → BeginsWithNo P text
none_begins P text e = subst (BeginsWithNo P) (sym e) tt

-- two and three bytes at a place, and those behind them
pub two_of : (xs : List ℕ) (n : ℕ) → n + 1 < length xs → drop (n + 1) xs ≡ get_or xs (n + 1) 0 ∷ drop (n + 2) xs
two_of xs n within = let e : n + 2 ≡ suc (n + 1) = omega arith in rw e (drop-cons xs (n + 1) 0 within)

pub three_of : (xs : List ℕ) (n : ℕ) → n + 2 < length xs → drop (n + 2) xs ≡ get_or xs (n + 2) 0 ∷ drop (n + 3) xs
three_of xs n within = let e : n + 3 ≡ suc (n + 2) = omega arith in rw e (drop-cons xs (n + 2) 0 within)

pub first_two : (xs : List ℕ) (n : ℕ) → n + 1 < length xs → drop n xs ≡ get_or xs n 0 ∷ get_or xs (n + 1) 0 ∷ drop (n + 2) xs
first_two xs n within = first_of xs n (omega arith) ∙ ap (λ (z : List ℕ). get_or xs n 0 ∷ z) (two_of xs n within)

pub next_two : (xs : List ℕ) (n : ℕ) → n + 2 < length xs → drop (n + 1) xs ≡ get_or xs (n + 1) 0 ∷ get_or xs (n + 2) 0 ∷ drop (n + 3) xs
next_two xs n within = two_of xs n (omega arith) ∙ ap (λ (z : List ℕ). get_or xs (n + 1) 0 ∷ z) (three_of xs n within)

pub first_three : (xs : List ℕ) (n : ℕ) → n + 2 < length xs → drop n xs ≡ get_or xs n 0 ∷ get_or xs (n + 1) 0 ∷ get_or xs (n + 2) 0 ∷ drop (n + 3) xs
first_three xs n within = first_of xs n (omega arith) ∙ ap (λ (z : List ℕ). get_or xs n 0 ∷ z) (next_two xs n within)

-- what was taken and what stands behind it, taken together
pub take_more : (xs part : List ℕ) (at count : ℕ) → length part ≡ count → drop at xs ≡ part ++ drop (at + count) xs → at + count ≤ length xs → take at xs ++ part ≡ take (at + count) xs
take_more xs part at count size e within =
    let piece : take count (drop at xs) ≡ part = ap (take count) e ∙ subst (λ n. take n (part ++ drop (at + count) xs) ≡ part) size (take-append_seam part (drop (at + count) xs)) in
    sym (take-add at count xs ∙ ap (λ (z : List ℕ). take at xs ++ z) piece)

-- what stands behind the first bytes, as a slice of the rest gives it
pub behind : (xs : List ℕ) (n : ℕ) → take (length xs - n) (drop n xs) ≡ drop n xs
behind xs n = take_rest xs n

pub drop_more : (xs : List ℕ) (n m : ℕ) → drop m (drop n xs) ≡ drop (n + m) xs
drop_more xs n m = drop-drop m n xs

pub head_is : (xs : List ℕ) (byte : ℕ) → 0 < length xs → get_or xs 0 0 ≡ byte → xs ≡ byte ∷ drop 1 xs
head_is xs byte some e = first_of xs 0 some ∙ ap (λ z. z ∷ drop 1 xs) e

pub two_are : (xs : List ℕ) (one two : ℕ) → 1 < length xs → get_or xs 0 0 ≡ one → get_or xs 1 0 ≡ two → xs ≡ one ∷ two ∷ drop 2 xs
two_are xs one two some e f = first_two xs 0 some ∙ ap (λ z. z ∷ get_or xs 1 0 ∷ drop 2 xs) e ∙ ap (λ z. one ∷ z ∷ drop 2 xs) f

-- The text behind the first byte begins with none where its second byte is none.
pub none_behind : (P : ℕ → Type 0) (xs : List ℕ) → (1 < length xs → P (get_or xs 1 0) → ⊥) → BeginsWithNo P (drop 1 xs)
none_behind P [] none = tt
none_behind P (a ∷ []) none = tt
none_behind P (a ∷ b ∷ xs) none = none (omega arith)

-- What holds of all that was taken holds of all where all was taken.
pub all_taken : (P : ℕ → Type 0) (xs : List ℕ) (n : ℕ) → length xs ≤ n → All P (take n xs) → All P xs
all_taken P xs n whole h = subst (All P) (take_all n xs whole) h

pub left_behind : (xs : List ℕ) (n : ℕ) → length (drop n xs) ≡ length xs - n
left_behind xs n = length-drop n xs

pub length_taken : (xs : List ℕ) (n : ℕ) → 0 < n → n ≤ length xs → 0 < length (take n xs)
length_taken xs n some within = omega (arith, length-take n xs)

-- A run that ends before a byte of words is not there is not empty where the text begins with one.
pub run_is_some : (xs : List ℕ) (n : ℕ) → 0 < length xs → IsWordByte (get_or xs 0 0) → BeginsWithNo IsWordByte (drop n xs) → 0 < n
run_is_some [] n some p none = absurd (omega arith)
run_is_some (a ∷ xs) zero some p none = absurd (none p)
run_is_some (a ∷ xs) (suc n) some p none = omega arith

pub not_empty : (xs : List ℕ) → false ≡ (length xs == 0) → 0 < length xs
not_empty xs e = grind (arith, nat_tests)

pub none_then : {X P Q : Type 0} (found : Option X) → IfNone found P → (P → Q) → IfNone found Q
none_then None p f = f p
none_then (Some x) p f = tt
