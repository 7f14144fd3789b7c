-- Shortest spellings of numbers.
use Rattle.std.proofs.Common.{◌≡◌, ℕ, ◌+◌, ◌-◌, ◌*◌, ◌/◌, ◌%◌, ◌^◌, ◌<◌, ◌≤◌, ℤ, List, [], ◌∷◌, ◌++◌, length, length-append, refl, ap, sym, ◌∙◌, subst, arith}
use Rattle.std.proofs.lemmas.Int.{ints}
use Rattle.std.proofs.Math.Pow.{pow_mono}
use Rattle.byte_fields.specs.Front.{SpellsShortest}
use Rattle.byte_fields.specs.Leb.{SpellsUnsigned, unsigned_last, unsigned_more, SpellsSigned, signed_last, signed_negative, signed_more}
use Rattle.byte_fields.proofs.Texts.{text_some}
use Rattle.byte_fields.proofs.Unsigned.{unsigned_range}
use Rattle.byte_fields.proofs.Signed.{signed_text, signed_range, IsWithin, same_left}
use Rattle.byteorder.specs.Endian.{little_bytes}
use Rattle.wasm_values.proofs.Opcodes.{SpellsLittle}
use Rattle.wasm_values.specs.Spelling.{SpellsU32, SpellsBytes, SpellsSized}
use Rattle.wasm_encode.specs.inner.Gains.{IsSpelled, Gains}
use Rattle.wasm_encode.proofs.Shortest.{then_least}

-- a smaller number has a spelling that is no longer
pub unsigned_less : {width n : ℕ} {text : List ℕ} → SpellsUnsigned width text n → (m : ℕ) → m ≤ n → (less : List ℕ) × SpellsUnsigned width less m × (length less ≤ length text)
unsigned_less (unsigned_last {byte = byte} p q) m h = (m ∷ [], unsigned_last (omega arith) (omega arith), omega arith)
unsigned_less {width = width} (unsigned_more {byte = byte} {high = high} {bytes = bytes} p q r s) m h =
    let rest = unsigned_less s (m / 128) (omega arith) in
    let number : 2 ^ 7 * (m / 128) + ((128 + m % 128) - 2 ^ 7) ≡ m = omega arith in
    let spelled : SpellsUnsigned width ((128 + m % 128) ∷ rest.0) (2 ^ 7 * (m / 128) + ((128 + m % 128) - 2 ^ 7)) = unsigned_more (omega arith) (omega arith) r rest.1 in
    let P : ℕ → Type 0 = λ z. SpellsUnsigned width ((128 + m % 128) ∷ rest.0) z in
    ((128 + m % 128) ∷ rest.0, subst P number spelled, omega (arith, rest.2))

-- the shortest spelling of a smaller number is no longer
pub unsigned_monotone : (width m n : ℕ) (a b : List ℕ) → SpellsShortest (SpellsUnsigned width) a m → SpellsUnsigned width b n → m ≤ n → length a ≤ length b
unsigned_monotone width m n a b s t h =
    let less = unsigned_less t m h in
    omega (arith, s.1 less.0 less.1, less.2)

-- it has 32 bits
pub u32_below : (n : ℕ) → IsSpelled SpellsU32 n → n < 2 ^ 32
u32_below n (text, s) = unsigned_range s

-- the count of a shortest list of bytes is the shortest
count_shortest : (content text : List ℕ) → SpellsShortest SpellsBytes text content → (count : List ℕ) × SpellsShortest SpellsU32 count (length content) × (text ≡ count ++ content)
count_shortest content text ((count, s, e), least) =
    (count, (s, λ other t. omega (arith, least (other ++ content) (other, t, refl), length-append other content, length-append count content, ap length e)), e)

-- A value behind its size.
pub sized_shortest : {V : Type 0} (Spells : List ℕ → V → Type 0) (v : V) (content text : List ℕ) → SpellsShortest Spells content v → SpellsShortest SpellsBytes text content → SpellsShortest (SpellsSized Spells) text v
sized_shortest Spells v content text s t =
    let count = count_shortest content text t in
    ((content, s.0, t.0), λ other (inside, p, (x, q, g)). rw count.2 (then_least count.0 content other x inside g (unsigned_monotone 32 (length content) (length inside) count.0 x count.1 q (s.1 inside p)) (s.1 inside p)))

pub gains_sized : {V : Type 0} (Spells : List ℕ → V → Type 0) (v : V) (content a b : List ℕ) → SpellsShortest Spells content v → Gains SpellsBytes content a b → Gains (SpellsSized Spells) v a b
gains_sized Spells v content a b s (text, t, e) = (text, sized_shortest Spells v content text s t, e)

-- what was written to an empty vector
pub content_shortest : {V : Type 0} (Spells : List ℕ → V → Type 0) (v : V) (a content : List ℕ) → a ≡ [] → Gains Spells v a content → SpellsShortest Spells content v
content_shortest Spells v a content none (text, s, e) =
    let P : List ℕ → Type 0 = λ z. SpellsShortest Spells z v in
    subst P (sym (e ∙ ap (λ z. z ++ text) none)) s

-- What stands behind the size is spelled, and is no longer than 32 bits say.
pub sized_spelled : {V : Type 0} (Spells : List ℕ → V → Type 0) (v : V) → IsSpelled (SpellsSized Spells) v → IsSpelled Spells v
sized_spelled Spells v (text, (content, s, t)) = (content, s)

pub sized_below : {V : Type 0} (Spells : List ℕ → V → Type 0) (v : V) (content : List ℕ) → IsSpelled (SpellsSized Spells) v → SpellsShortest Spells content v → length content < 2 ^ 32
sized_below Spells v content (text, (inside, s, (count, t, e))) k = omega (arith, unsigned_range t, k.1 inside s)

-- A number of fewer bits is spelled with more of them too.
signed_wider : {width wide : ℕ} {n : ℤ} {text : List ℕ} → SpellsSigned width text n → width ≤ wide → SpellsSigned wide text n
signed_wider {width = width} {wide = wide} (signed_last p q) h =
    let grows : 2 ^ (width - 1) ≤ 2 ^ (wide - 1) = pow_mono (omega arith) in
    signed_last p (omega arith)
signed_wider {width = width} {wide = wide} (signed_negative p q r) h =
    let grows : 2 ^ (width - 1) ≤ 2 ^ (wide - 1) = pow_mono (omega arith) in
    signed_negative p q (omega arith)
signed_wider (signed_more p q r s) h = signed_more p q (omega arith) (signed_wider s (omega arith))

-- a text that is no longer than one of fewer bits has as few
signed_narrower : {width wide : ℕ} {m n : ℤ} {text other : List ℕ} → SpellsSigned wide text m → SpellsSigned width other n → m ≡ n → 0 < width → length text ≤ length other → SpellsSigned width text m
signed_narrower {width = width} {m = m} {n = n} (signed_last {byte = b} p q) t e some h =
    let range : IsWithin (2 ^ (width - 1)) n = signed_range some t in
    signed_last p (omega (arith, ints, range.most, e))
signed_narrower {width = width} {m = m} {n = n} (signed_negative {byte = b} p q r) t e some h =
    let range : IsWithin (2 ^ (width - 1)) n = signed_range some t in
    signed_negative p q (omega (arith, ints, range.least, e))
signed_narrower (signed_more p q r s) (signed_last t u) e some h = absurd (omega (arith, text_some (signed_text s)))
signed_narrower (signed_more p q r s) (signed_negative t u v) e some h = absurd (omega (arith, text_some (signed_text s)))
signed_narrower {width = width} (signed_more {byte = x} {high = m} p q r s) (signed_more {byte = y} {high = n} t u v w) e some h =
    let left = same_left m n (x - 2 ^ 7) (y - 2 ^ 7) e (omega arith) (omega arith) in
    signed_more p q v (signed_narrower {width = width - 7} s w left.0 (omega arith) (omega arith))

-- The shortest spelling of 64 bits, where there is one of 32.
pub gains_signed : (n : ℤ) (a b : List ℕ) → IsSpelled (SpellsSigned 32) n → Gains (SpellsSigned 64) n a b → Gains (SpellsSigned 32) n a b
gains_signed n a b (other, t) (text, s, e) =
    (text, (signed_narrower s.0 t refl (omega arith) (s.1 other (signed_wider t (omega arith))), λ more r. s.1 more (signed_wider r (omega arith))), e)

-- A number in a fixed count of bytes.
pub gains_little : (count number : ℕ) (a b : List ℕ) → number < 256 ^ count → b ≡ a ++ little_bytes count number → Gains (SpellsLittle count) number a b
gains_little count number a b h e = (little_bytes count number, ((h, refl), λ other (g, s). omega (arith, ap length s)), e)
