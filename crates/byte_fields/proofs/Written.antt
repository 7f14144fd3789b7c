-- Shortest spellings, written a byte at a time.
use Rattle.std.proofs.Common.{◌≡◌, ℕ, ◌+◌, ◌-◌, ◌*◌, ◌/◌, ◌^◌, ◌<◌, ◌≤◌, List, [], ◌∷◌, ◌++◌, length, refl, subst, append_assoc, arith}
use Rattle.std.proofs.Math.Pow.{pow_mono}
use Rattle.byte_fields.specs.Front.{SpellsShortest}
use Rattle.byte_fields.specs.Leb.{SpellsUnsigned, unsigned_last, unsigned_more}
use Rattle.byte_fields.proofs.Texts.{text_some}
use Rattle.byte_fields.proofs.Unsigned.{unsigned_text, unsigned_same, seven_more}

-- With a shortest spelling of what is left behind them, the bytes written so far spell the value as shortly as can be.
abbrev pub Leads : {V : Type 0} → (List ℕ → V → Type 0) → (List ℕ → V → Type 0) → List ℕ → V → V → Type 0
Leads Whole Left front value left =
    (bytes : List ℕ) → SpellsShortest Left bytes left → SpellsShortest Whole (front ++ bytes) value

-- one byte more
pub leads_more : {V : Type 0} (Whole Left Next : List ℕ → V → Type 0) (front longer : List ℕ) (value left next : V) (byte : ℕ) → Leads Whole Left front value left → longer ≡ front ++ byte ∷ [] → ((bytes : List ℕ) → SpellsShortest Next bytes next → SpellsShortest Left (byte ∷ bytes) left) → Leads Whole Next longer value next
leads_more Whole Left Next front longer value left next byte k e step = λ bytes s.
    rw (e, append_assoc front (byte ∷ []) bytes) (k (byte ∷ bytes) (step bytes s))

-- a number below 128 is its own shortest spelling
pub unsigned_shortest_last : (width n : ℕ) → n < 128 → n < 2 ^ width → SpellsShortest (SpellsUnsigned width) (n ∷ []) n
unsigned_shortest_last width n p q = (unsigned_last p q, λ other s. omega (arith, text_some (unsigned_text s)))

-- a larger one is its lowest seven bits and what is left
pub unsigned_no_shorter : {width n : ℕ} {other : List ℕ} (high low most : ℕ) → SpellsUnsigned width other n → n ≡ 2 ^ 7 * high + low → 0 < high → low < 128 → ((bytes : List ℕ) → SpellsUnsigned (width - 7) bytes high → most ≤ length bytes) → most + 1 ≤ length other
unsigned_no_shorter high low most (unsigned_last p q) e h l f = absurd (omega arith)
unsigned_no_shorter {width = w} high low most (unsigned_more {byte = b} {high = other} {bytes = bs} p q r s) e h l f =
    let same : other ≡ high = omega arith in
    let P : ℕ → Type 0 = λ z. SpellsUnsigned (w - 7) bs z in
    let rest = f bs (subst P same s) in
    omega arith

pub unsigned_shortest_more : (width n byte high : ℕ) (bytes : List ℕ) → 2 ^ 7 ≤ byte → byte < 2 ^ 8 → 7 < width → 0 < high → n ≡ 2 ^ 7 * high + (byte - 2 ^ 7) → SpellsShortest (SpellsUnsigned (width - 7)) bytes high → SpellsShortest (SpellsUnsigned width) (byte ∷ bytes) n
unsigned_shortest_more width n byte high bytes p q r h e s =
    let spelled : SpellsUnsigned width (byte ∷ bytes) (2 ^ 7 * high + (byte - 2 ^ 7)) = unsigned_more p q r s.0 in
    let least : (other : List ℕ) → SpellsUnsigned width other n → length bytes + 1 ≤ length other = λ other t. unsigned_no_shorter high (byte - 2 ^ 7) (length bytes) t e h (omega arith) s.1 in
    (rw e spelled, λ other t. omega (arith, least other t))

-- a number that takes more than seven bits
pub wide : (width n : ℕ) → 128 ≤ n → n < 2 ^ width → 7 < width
wide width n p q =
    let f : width ≤ 7 → 2 ^ width ≤ 2 ^ 7 = λ h. pow_mono {j = 7} h in
    grind (arith, f)

pub narrower : (width n : ℕ) → 7 < width → n < 2 ^ width → n / 128 < 2 ^ (width - 7)
narrower width n p q = let parts = seven_more width p in omega arith

-- there is one shortest spelling
pub unsigned_shortest_one : (width n : ℕ) (a b : List ℕ) → SpellsShortest (SpellsUnsigned width) a n → SpellsShortest (SpellsUnsigned width) b n → a ≡ b
unsigned_shortest_one width n a b s t =
    let less = s.1 b t.0 in
    let more = t.1 a s.0 in
    unsigned_same s.0 t.0 refl (omega arith)
