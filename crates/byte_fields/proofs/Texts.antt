-- The texts of LEB128 numbers of any width.
use Rattle.std.proofs.Common.{◌≡◌, ℕ, zero, suc, ◌+◌, ◌-◌, ◌<◌, ◌≤◌, List, [], ◌∷◌, ◌++◌, length, take, drop, ap, ◌∙◌, arith, get_or, add-one, min, length-append}
use Rattle.std.proofs.lemmas.List.{drop_all, drop_more, get_or_append_left}
use Rattle.byte_fields.specs.inner.Texts.{LebText, text_last, text_more}

-- a text has a byte
pub text_some : {text : List ℕ} → LebText text → 0 < length text
text_some (text_last p) = omega arith
text_some (text_more p t) = omega arith

-- its last byte is below 128
pub text_end : {text : List ℕ} (last : ℕ) → LebText text → length text ≡ last + 1 → get_or text last 0 < 128
text_end zero (text_last p) e = p
text_end (suc last) (text_last p) e = absurd (omega arith)
text_end zero (text_more p t) e = absurd (omega (arith, text_some t))
text_end (suc last) (text_more p t) e = text_end last t (omega arith)

-- each byte before the last is 128 or more
pub text_before : {text : List ℕ} (k : ℕ) → LebText text → k + 1 < length text → 128 ≤ get_or text k 0
text_before k (text_last p) h = absurd (omega arith)
text_before zero (text_more p t) h = p
text_before (suc k) (text_more p t) h = text_before k t (omega arith)

-- the bytes up to the first below 128 are a text
pub text_up_to : (bytes : List ℕ) (last : ℕ) → last < length bytes → get_or bytes last 0 < 128 → ((k : ℕ) → k < last → 128 ≤ get_or bytes k 0) → LebText (take (last + 1) bytes)
text_up_to [] last h p q = absurd (omega arith)
text_up_to (b ∷ bs) zero h p q = text_last p
text_up_to (b ∷ bs) (suc last) h p q =
    let tail : LebText (take (last + 1) bs) = text_up_to bs last (omega arith) p (λ k l. q (suc k) (omega arith)) in
    let more : LebText (b ∷ take (last + 1) bs) = text_more (q 0 (omega arith)) tail in
    rw add-one (rw add-one at more)

-- no text of so many bytes begins bytes that are 128 or more
pub text_none : (bytes text rest : List ℕ) (most : ℕ) → ((k : ℕ) → k < min (length bytes) most → 128 ≤ get_or bytes k 0) → LebText text → length text ≤ most → bytes ≡ text ++ rest → ⊥
text_none bytes text rest most high t h e =
    let some = text_some t in
    let long : length bytes ≡ length text + length rest = ap length e ∙ length-append text rest in
    let at : get_or bytes (length text - 1) 0 ≡ get_or text (length text - 1) 0 = ap (λ z. get_or z (length text - 1) 0) e ∙ get_or_append_left text rest 0 (length text - 1) (omega arith) in
    omega (arith, text_end (length text - 1) t (omega arith), high (length text - 1) (omega arith))

-- no text begins another
pub text_one : {a b : List ℕ} → LebText a → LebText b → (p q : List ℕ) → a ++ p ≡ b ++ q → a ≡ b
text_one (text_last h) (text_last g) p q e = cc
text_one (text_last {byte = x} h) (text_more {byte = y} g t) p q e = let same : x ≡ y = cc in absurd (omega arith)
text_one (text_more {byte = x} h s) (text_last {byte = y} g) p q e = let same : x ≡ y = cc in absurd (omega arith)
text_one (text_more {byte = x} {bytes = xs} h s) (text_more {byte = y} {bytes = ys} g t) p q e =
    let head : x ≡ y = cc in
    let tails : xs ++ p ≡ ys ++ q = cc in
    let rest = text_one s t p q tails in
    cc

-- the last byte is all that is left before it
pub drop_last : (bytes : List ℕ) (last : ℕ) → length bytes ≡ last + 1 → drop last bytes ≡ get_or bytes last 0 ∷ []
drop_last bytes last e = drop_more bytes last 0 (omega arith) ∙ ap (λ z. get_or bytes last 0 ∷ z) (drop_all (last + 1) bytes (omega arith))
