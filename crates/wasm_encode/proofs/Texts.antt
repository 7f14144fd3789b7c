-- Texts of so many bytes at most: of numbers, and of compound values from those of their parts.
use Rattle.std.proofs.Common.{◌≡◌, ℕ, zero, suc, ◌+◌, ◌-◌, ◌*◌, ◌/◌, ◌%◌, ◌^◌, ◌<◌, ◌≤◌, ℤ, pos, negsuc, ◌+ℤ◌, ◌-ℤ◌, ◌*ℤ◌, List, [], ◌∷◌, ◌++◌, length, length-append, refl, ap, sym, ◌∙◌, subst, arith, All}
use Rattle.std.proofs.lemmas.Int.{ints}
use Rattle.std.proofs.lemmas.List.Elements.{All-head, All-tail}
use Rattle.std.proofs.lemmas.List.Sums.{sum_by-cons}
use Rattle.std.proofs.Math.Pow.{pow_mono}
use Rattle.std.specs.Prelude.{sum_by}
use native.Mathlib.Decide.{dec_le}
use Rattle.byte_fields.specs.Leb.{unsigned_last, unsigned_more, SpellsSigned, signed_last, signed_negative, signed_more}
use Rattle.byte_fields.proofs.Signed.{IsWithin, half_more}
use Rattle.byte_fields.proofs.WrittenSigned.{within_less}
use Rattle.wasm_values.specs.Spelling.{SpellsU32, Then, SpellsMark, SpellsEach, each_none, each_next, SpellsList, SpellsBytes, SpellsSized}
use Rattle.wasm_encode.specs.inner.Parts.{SpellsPart, part_present}
use Rattle.wasm_encode.specs.Encodable.{IsU32, IsSigned}
use Rattle.wasm_encode.proofs.Numbers.{unsigned_less}
use Rattle.wasm_encode.proofs.Tagged.{IsTagged}

-- The value is spelled by so many bytes at most.
pub record HasText (V : Type 0) (Spells : List ℕ → V → Type 0) (value : V) (most : ℕ) : Type 0 where
  pub text : List ℕ
  pub spelled : Spells text value
  pub short : length text ≤ most

pub text_wider : {V : Type 0} {Spells : List ℕ → V → Type 0} {value : V} {most : ℕ} → HasText V Spells value most → (more : ℕ) → most ≤ more → HasText V Spells value more
text_wider t more h = record { text = t.text; spelled = t.spelled; short = omega (arith, t.short) }

-- Numbers.
greatest : SpellsU32 (0xff ∷ 0xff ∷ 0xff ∷ 0xff ∷ 0x0f ∷ []) 4294967295
greatest = unsigned_more (omega arith) (omega arith) (omega arith) (unsigned_more (omega arith) (omega arith) (omega arith) (unsigned_more (omega arith) (omega arith) (omega arith) (unsigned_more (omega arith) (omega arith) (omega arith) (unsigned_last (omega arith) (omega arith)))))

pub u32_text : (n : ℕ) → IsU32 n → HasText ℕ SpellsU32 n 5
u32_text n h =
    let less = unsigned_less greatest n (omega arith) in
    record { text = less.0; spelled = less.1; short = less.2 }

-- seven bits, and what is left above them
high_part : ℤ → ℤ
high_part (pos n) = pos (n / 128)
high_part (negsuc n) = negsuc (n / 128)

low_part : ℤ → ℕ
low_part (pos n) = n % 128
low_part (negsuc n) = 127 - n % 128

parts_of : (n : ℤ) → n ≡ pos (2 ^ 7) *ℤ high_part n +ℤ pos (low_part n)
unfolding high_part low_part
parts_of (pos n) = omega (arith, ints)
parts_of (negsuc n) = omega (arith, ints)

low_below : (n : ℤ) → low_part n < 128
unfolding low_part
low_below (pos n) = omega arith
low_below (negsuc n) = omega arith

one_byte : (width : ℕ) (n : ℤ) → width ≤ 7 → IsWithin (2 ^ (width - 1)) n → HasText ℤ (SpellsSigned width) n 1
one_byte width (pos n) h w =
    let small : 2 ^ (width - 1) ≤ 2 ^ 6 = pow_mono {j = 6} (omega arith) in
    record { text = n ∷ []; spelled = signed_last (omega (arith, ints, w.most)) (omega (arith, ints, w.most)); short = omega arith }
one_byte width (negsuc n) h w =
    let small : 2 ^ (width - 1) ≤ 2 ^ 6 = pow_mono {j = 6} (omega arith) in
    let below : n < 2 ^ (width - 1) = omega (arith, ints, w.least) in
    let number : pos (127 - n) -ℤ pos (2 ^ 7) ≡ negsuc n = omega (arith, ints) in
    let P : ℤ → Type 0 = λ z. SpellsSigned width ((127 - n) ∷ []) z in
    record { text = (127 - n) ∷ []; spelled = subst P number (signed_negative (omega arith) (omega arith) (omega arith)); short = omega arith }

more_bytes : (count width : ℕ) (n : ℤ) → 7 < width → IsWithin (2 ^ (width - 1)) n → (IsWithin (2 ^ (width - 7 - 1)) (high_part n) → HasText ℤ (SpellsSigned (width - 7)) (high_part n) count) → HasText ℤ (SpellsSigned width) n (suc count)
more_bytes count width n many w f =
    let half : ℕ = 2 ^ (width - 7 - 1) in
    let P : ℕ → Type 0 = λ z. IsWithin z n in
    let rest = f (within_less half n (high_part n) (low_part n) (subst P (half_more width many) w) (parts_of n) (low_below n)) in
    let low = low_below n in
    let kept : 128 + low_part n - 2 ^ 7 ≡ low_part n = omega arith in
    let number : pos (2 ^ 7) *ℤ high_part n +ℤ pos (128 + low_part n - 2 ^ 7) ≡ n = ap (λ z. pos (2 ^ 7) *ℤ high_part n +ℤ pos z) kept ∙ sym (parts_of n) in
    let Q : ℤ → Type 0 = λ z. SpellsSigned width ((128 + low_part n) ∷ rest.text) z in
    record { text = (128 + low_part n) ∷ rest.text; spelled = subst Q number (signed_more (omega arith) (omega arith) many rest.spelled); short = omega (arith, rest.short) }

signed_any : (count width : ℕ) (n : ℤ) → 0 < width → width ≤ 7 * count → IsWithin (2 ^ (width - 1)) n → HasText ℤ (SpellsSigned width) n count
signed_any zero width n some h w = absurd (omega arith)
signed_any (suc count) width n some h w = elim (dec_le width 7) [
  | yes few ↦ text_wider (one_byte width n few w) (suc count) (omega arith)
  | no many ↦ more_bytes count width n (omega arith) w (λ left. signed_any count (width - 7) (high_part n) (omega arith) (omega arith) left)
]

pub signed_text : (count width : ℕ) (n : ℤ) → 0 < width → width ≤ 7 * count → IsSigned width n → HasText ℤ (SpellsSigned width) n count
signed_text count width n some h (least, most) = signed_any count width n some h (record { least = least; most = most })

-- One byte that stands for itself, one value behind another, and a byte before a value.
pub mark_text : (mark : ℕ) → HasText (Unit {0}) (SpellsMark mark) tt 1
mark_text mark = record { text = mark ∷ []; spelled = refl; short = omega arith }

pub then_text : {V W : Type 0} (First : List ℕ → V → Type 0) (Second : List ℕ → W → Type 0) (v : V) (w : W) (a b : ℕ) → HasText V First v a → HasText W Second w b → HasText (V × W) (Then First Second) (v, w) (a + b)
then_text First Second v w a b s t = record {
  text = s.text ++ t.text;
  spelled = (s.text, t.text, s.spelled, t.spelled, refl);
  short = omega (arith, s.short, t.short, length-append s.text t.text);
}

pub tagged_text : {V W : Type 0} {Spells : List ℕ → V → Type 0} {Inner : List ℕ → W → Type 0} {make : W → V} {tag : ℕ} → IsTagged V W Spells Inner make tag → (inner : W) (a : ℕ) → HasText W Inner inner a → HasText V Spells (make inner) (1 + a)
tagged_text {tag = tag} t inner a s = record { text = tag ∷ s.text; spelled = t.spell s.text inner s.spelled; short = omega (arith, s.short) }

-- Entries, one behind the other.
pub each_text : {V : Type 0} (Spells : List ℕ → V → Type 0) (P : V → Type 0) (weight : V → ℕ) → ((v : V) → P v → weight v < 2 ^ 32 → HasText V Spells v (weight v)) → (vs : List V) → All P vs → sum_by weight vs < 2 ^ 32 → HasText (List V) (SpellsEach Spells) vs (sum_by weight vs)
each_text Spells P weight f [] all small = record { text = []; spelled = each_none; short = omega arith }
each_text Spells P weight f (v ∷ vs) all small =
    let sum = sum_by-cons weight v vs in
    let first = f v (All-head P v vs all) (omega (arith, sum, small)) in
    let rest = each_text Spells P weight f vs (All-tail P v vs all) (omega (arith, sum, small)) in
    record {
      text = first.text ++ rest.text;
      spelled = each_next first.spelled rest.spelled;
      short = omega (arith, sum, first.short, rest.short, length-append first.text rest.text);
    }

count_least : {V : Type 0} (weight : V → ℕ) → ((v : V) → 1 ≤ weight v) → (vs : List V) → length vs ≤ sum_by weight vs
count_least weight f [] = omega arith
count_least weight f (v ∷ vs) = omega (arith, sum_by-cons weight v vs, f v, count_least weight f vs)

-- A list, which is its count and its entries.
pub list_text : {V : Type 0} (Spells : List ℕ → V → Type 0) (P : V → Type 0) (weight : V → ℕ) → ((v : V) → 1 ≤ weight v) → ((v : V) → P v → weight v < 2 ^ 32 → HasText V Spells v (weight v)) → (vs : List V) → All P vs → sum_by weight vs < 2 ^ 32 → HasText (List V) (SpellsList Spells) vs (5 + sum_by weight vs)
list_text Spells P weight some f vs all small =
    let count = u32_text (length vs) (omega (arith, count_least weight some vs, small)) in
    let texts = each_text Spells P weight f vs all small in
    record {
      text = count.text ++ texts.text;
      spelled = (count.text, texts.text, count.spelled, texts.spelled, refl);
      short = omega (arith, count.short, texts.short, length-append count.text texts.text);
    }

-- so many bytes for each entry
sum_same : {V : Type 0} (k : ℕ) (vs : List V) → sum_by (λ v. k) vs ≡ k * length vs
sum_same k [] = omega arith
sum_same {V} k (v ∷ vs) = let weight : V → ℕ = λ v. k in omega (arith, sum_by-cons weight v vs, sum_same k vs)

pub list_same : {V : Type 0} (Spells : List ℕ → V → Type 0) (P : V → Type 0) (k : ℕ) → 1 ≤ k → ((v : V) → P v → HasText V Spells v k) → (vs : List V) → All P vs → k * length vs < 2 ^ 32 → HasText (List V) (SpellsList Spells) vs (5 + k * length vs)
list_same {V} Spells P k some f vs all small =
    let weight : V → ℕ = λ v. k in
    let sum : sum_by weight vs ≡ k * length vs = sum_same k vs in
    text_wider (list_text Spells P weight (λ v. some) (λ v p h. f v p) vs all (omega (arith, sum, small))) (5 + k * length vs) (omega (arith, sum))

pub bytes_text : (content : List ℕ) → length content < 2 ^ 32 → HasText (List ℕ) SpellsBytes content (5 + length content)
bytes_text content h =
    let count = u32_text (length content) h in
    record { text = count.text ++ content; spelled = (count.text, count.spelled, refl); short = omega (arith, count.short, length-append count.text content) }

-- A value behind its size, and a section.
pub sized_text : {V : Type 0} (Spells : List ℕ → V → Type 0) (v : V) (a : ℕ) → HasText V Spells v a → a < 2 ^ 32 → HasText V (SpellsSized Spells) v (5 + a)
sized_text Spells v a s h =
    let bytes = bytes_text s.text (omega (arith, s.short, h)) in
    record { text = bytes.text; spelled = (s.text, s.spelled, bytes.spelled); short = omega (arith, s.short, bytes.short) }

pub part_text : {V : Type 0} (number : ℕ) (Spells : List ℕ → V → Type 0) (empty v : V) (a : ℕ) → HasText V Spells v a → a < 2 ^ 32 → HasText V (SpellsPart number Spells empty) v (6 + a)
part_text number Spells empty v a s h =
    let sized = sized_text Spells v a s h in
    record { text = number ∷ sized.text; spelled = part_present sized.spelled; short = omega (arith, sized.short) }
