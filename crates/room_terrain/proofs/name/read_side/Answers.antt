-- The letter tells which column or row it is, and the number follows it.
use Rattle.std.proofs.Common.{◌≡◌, ℕ, ◌+◌, ◌-◌, ◌≤◌, List, ◌∷◌, ◌++◌, length, take, drop, decimal, get_or, ℤ, pos, negsuc, ◌-ℤ◌, to_z, of_z, w32, sym, ap, ◌∙◌, arith}
use Rattle.std.proofs.lemmas.List.{take_rest, drop-drop}
use Rattle.std.proofs.lemmas.Int.{ints}
use Rattle.room_terrain.specs.Names.{EndsNumber, IsSideInRange, side_text}
use Rattle.room_terrain.proofs.name.read_side.Goals as goal

-- what stands behind the letter
abbrev tail_of : List ℕ → List ℕ
tail_of text = take (length text - 1) (drop 1 text)

-- the only number at the front of a text
abbrev IsNumber : List ℕ → ℕ → ℕ → Type 0
IsNumber text number digits = (n : ℕ) → (rest : List ℕ) → n ≤ 127 → EndsNumber rest → text ≡ decimal n ++ rest → (number ≡ n) × (drop digits text ≡ rest)

rest_is : (text : List ℕ) (digits : ℕ) → take (length text - (1 + digits)) (drop (1 + digits) text) ≡ drop digits (tail_of text)
rest_is text digits = take_rest text (1 + digits) ∙ sym (drop-drop digits 1 text) ∙ ap (drop digits) (sym (take_rest text 1))

tail_is : (text : List ℕ) (x : ℕ) (ys : List ℕ) → text ≡ x ∷ ys → tail_of text ≡ ys
tail_is text x ys e = take_rest text 1 ∙ ap (drop 1) e

head_is : (text : List ℕ) (x : ℕ) (ys : List ℕ) → text ≡ x ∷ ys → get_or text 0 0 ≡ x
head_is text x ys e = ap (λ (t : List ℕ). get_or t 0 0) e

below_zero : (n : ℕ) → n ≤ 127 → to_z w32 (of_z w32 (negsuc 0 -ℤ to_z w32 n)) ≡ negsuc n
below_zero n most = omega (arith, ints)

from_zero : (n : ℕ) → n ≤ 127 → to_z w32 n ≡ pos n
from_zero n most = omega (arith, ints)

before_case : (text : List ℕ) (before after number digits : ℕ) → (before ≡ after → ⊥) → get_or text 0 0 ≡ before → IsNumber (tail_of text) number digits
    → (side : ℤ) (rest : List ℕ) → IsSideInRange side → EndsNumber rest → text ≡ side_text before after side ++ rest
    → (to_z w32 (of_z w32 (negsuc 0 -ℤ to_z w32 number)) ≡ side) × (take (length text - (1 + digits)) (drop (1 + digits) text) ≡ rest)
before_case text before after number digits differ head is (pos n) rest within ends e =
    absurd (differ (sym head ∙ head_is text after (decimal n ++ rest) e))
before_case text before after number digits differ head is (negsuc n) rest within ends e =
    let found : (number ≡ n) × (drop digits (tail_of text) ≡ rest) = is n rest within ends (tail_is text before (decimal n ++ rest) e) in
    (ap (λ (k : ℕ). to_z w32 (of_z w32 (negsuc 0 -ℤ to_z w32 k))) found.0 ∙ below_zero n within, rest_is text digits ∙ found.1)

after_case : (text : List ℕ) (before after number digits : ℕ) → (get_or text 0 0 ≡ before → ⊥) → IsNumber (tail_of text) number digits
    → (side : ℤ) (rest : List ℕ) → IsSideInRange side → EndsNumber rest → text ≡ side_text before after side ++ rest
    → (to_z w32 number ≡ side) × (take (length text - (1 + digits)) (drop (1 + digits) text) ≡ rest)
after_case text before after number digits other is (pos n) rest within ends e =
    let found : (number ≡ n) × (drop digits (tail_of text) ≡ rest) = is n rest within ends (tail_is text after (decimal n ++ rest) e) in
    (ap (λ (k : ℕ). to_z w32 k) found.0 ∙ from_zero n within, rest_is text digits ∙ found.1)
after_case text before after number digits other is (negsuc n) rest within ends e =
    absurd (other (head_is text before (decimal n ++ rest) e))

pub returns-then-letter-before-clause-all : goal.returns-then-letter-before-clause-all
returns-then-letter-before-clause-all c = before_case _ _ _ _ _ c.requires c.if-letter-before.true c.in-Some.ensures.all

pub returns-then-letter-after-clause-all : goal.returns-then-letter-after-clause-all
returns-then-letter-after-clause-all c = after_case _ _ _ _ _ c.if-letter-before.false c.in-Some.ensures.all
