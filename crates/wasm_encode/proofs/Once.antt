-- There is one shortest spelling: for compound forms, from that of their parts.
use Rattle.std.proofs.Common.{◌≡◌, ℕ, ◌<◌, ◌≤◌, List, [], ◌∷◌, ◌++◌, length, length-append, refl, ap, sym, ◌∙◌, subst, arith}
use native.Mathlib.Decide.{dec_le}
use Rattle.byte_fields.specs.Front.{SpellsShortest}
use Rattle.byte_fields.proofs.Written.{unsigned_shortest_one}
use Rattle.wasm_values.specs.Spelling.{SpellsU32, Then, SpellsMark, SpellsEach, each_none, each_next, SpellsList, SpellsBytes, SpellsSized}
use Rattle.wasm_values.proofs.Opcodes.{SpellsNothing}
use Rattle.wasm_encode.specs.inner.Parts.{SpellsPart, part_absent, part_present}
use Rattle.wasm_encode.proofs.Numbers.{unsigned_less}
use Rattle.wasm_encode.proofs.Tagged.{IsTagged}
use Rattle.wasm_encode.proofs.Assembled.{absent_part}

-- Two shortest spellings of the value are the same.
pub record IsOne (V : Type 0) (Spells : List ℕ → V → Type 0) (value : V) : Type 0 where
  pub same : (a b : List ℕ) → SpellsShortest Spells a value → SpellsShortest Spells b value → a ≡ b

-- where it has one spelling at most
pub only_one : {V : Type 0} (Spells : List ℕ → V → Type 0) (value : V) → ((a b : List ℕ) → Spells a value → Spells b value → a ≡ b) → IsOne V Spells value
only_one Spells value only = record { same = λ a b s t. only a b s.0 t.0 }

-- where its spellings are those of another form
pub one_by : {V W : Type 0} (Spells : List ℕ → V → Type 0) (Inner : List ℕ → W → Type 0) (value : V) (inner : W) → ((text : List ℕ) → Spells text value → Inner text inner) → ((text : List ℕ) → Inner text inner → Spells text value) → IsOne W Inner inner → IsOne V Spells value
one_by Spells Inner value inner to from k = record {
  same = λ a b s t. k.same a b (to a s.0, λ other r. s.1 other (from other r)) (to b t.0, λ other r. t.1 other (from other r));
}

pub nothing_one : IsOne (Unit {0}) SpellsNothing tt
nothing_one = only_one SpellsNothing tt (λ a b e f. e ∙ sym f)

pub mark_one : (mark : ℕ) → IsOne (Unit {0}) (SpellsMark mark) tt
mark_one mark = only_one (SpellsMark mark) tt (λ a b e f. e ∙ sym f)

pub u32_one : (n : ℕ) → IsOne ℕ SpellsU32 n
u32_one n = record { same = λ a b s t. unsigned_shortest_one 32 n a b s t }

-- The parts of a shortest text are shortest.
front_shortest : {V W : Type 0} (First : List ℕ → V → Type 0) (Second : List ℕ → W → Type 0) (v : V) (w : W) (text front back : List ℕ) → First front v → Second back w → text ≡ front ++ back → ((other : List ℕ) → Then First Second other (v, w) → length text ≤ length other) → SpellsShortest First front v
front_shortest First Second v w text front back s t e least =
    (s, λ x r. omega (arith, least (x ++ back) (x, back, r, t, refl), length-append x back, length-append front back, ap length e))

back_shortest : {V W : Type 0} (First : List ℕ → V → Type 0) (Second : List ℕ → W → Type 0) (v : V) (w : W) (text front back : List ℕ) → First front v → Second back w → text ≡ front ++ back → ((other : List ℕ) → Then First Second other (v, w) → length text ≤ length other) → SpellsShortest Second back w
back_shortest First Second v w text front back s t e least =
    (t, λ x r. omega (arith, least (front ++ x) (front, x, s, r, refl), length-append front x, length-append front back, ap length e))

then_same : {V W : Type 0} (First : List ℕ → V → Type 0) (Second : List ℕ → W → Type 0) (v : V) (w : W) → IsOne V First v → IsOne W Second w → (a b : List ℕ) → SpellsShortest (Then First Second) a (v, w) → SpellsShortest (Then First Second) b (v, w) → a ≡ b
then_same First Second v w k l a b ((front, back, s, t, e), least) ((start, end, u, r, f), less) =
    let one : front ≡ start = k.same front start (front_shortest First Second v w a front back s t e least) (front_shortest First Second v w b start end u r f less) in
    let two : back ≡ end = l.same back end (back_shortest First Second v w a front back s t e least) (back_shortest First Second v w b start end u r f less) in
    e ∙ ap (λ z. z ++ back) one ∙ ap (λ z. start ++ z) two ∙ sym f

-- One value, and another behind it.
pub then_one : {V W : Type 0} (First : List ℕ → V → Type 0) (Second : List ℕ → W → Type 0) (v : V) (w : W) → IsOne V First v → IsOne W Second w → IsOne (V × W) (Then First Second) (v, w)
then_one First Second v w k l = record { same = then_same First Second v w k l }

-- Entries, one behind the other.
each_apart : {V : Type 0} (Spells : List ℕ → V → Type 0) (v : V) (vs : List V) (text : List ℕ) → SpellsEach Spells text (v ∷ vs) → Then Spells (SpellsEach Spells) text (v, vs)
each_apart Spells v vs text (each_next {text = front} {more = more} s ss) = (front, more, s, ss, refl)

each_together : {V : Type 0} (Spells : List ℕ → V → Type 0) (v : V) (vs : List V) (text : List ℕ) → Then Spells (SpellsEach Spells) text (v, vs) → SpellsEach Spells text (v ∷ vs)
each_together Spells v vs text (front, more, s, ss, e) = rw e (each_next s ss)

empty_text : {V : Type 0} (Spells : List ℕ → V → Type 0) (text : List ℕ) → SpellsEach Spells text [] → text ≡ []
empty_text Spells text each_none = refl

pub each_one : {V : Type 0} (Spells : List ℕ → V → Type 0) → ((v : V) → IsOne V Spells v) → (vs : List V) → IsOne (List V) (SpellsEach Spells) vs
each_one Spells k [] = only_one (SpellsEach Spells) [] (λ a b s t. empty_text Spells a s ∙ sym (empty_text Spells b t))
each_one Spells k (v ∷ vs) = one_by (SpellsEach Spells) (Then Spells (SpellsEach Spells)) (v ∷ vs) (v, vs) (each_apart Spells v vs) (each_together Spells v vs) (then_one Spells (SpellsEach Spells) v vs (k v) (each_one Spells k vs))

-- A list, which is its count and its entries.
pub list_one : {V : Type 0} (Spells : List ℕ → V → Type 0) → ((v : V) → IsOne V Spells v) → (vs : List V) → IsOne (List V) (SpellsList Spells) vs
list_one Spells k vs = one_by (SpellsList Spells) (Then SpellsU32 (SpellsEach Spells)) vs (length vs, vs) (λ text s. s) (λ text s. s) (then_one SpellsU32 (SpellsEach Spells) (length vs) vs (u32_one (length vs)) (each_one Spells k vs))

-- A list of bytes, which is their count and the bytes.
abbrev Same : List ℕ → List ℕ → Type 0
Same text content = text ≡ content

pub bytes_one : (content : List ℕ) → IsOne (List ℕ) SpellsBytes content
bytes_one content =
    one_by SpellsBytes (Then SpellsU32 Same) content (length content, content) (λ text (count, s, e). (count, content, s, refl, e)) (λ text (count, back, s, same, e). (count, s, e ∙ ap (λ z. count ++ z) same))
    (then_one SpellsU32 Same (length content) content (u32_one (length content)) (only_one Same content (λ a b e f. e ∙ sym f)))

-- A byte, and another form behind it.
tag_apart : {V W : Type 0} {Spells : List ℕ → V → Type 0} {Inner : List ℕ → W → Type 0} {make : W → V} {tag : ℕ} → IsTagged V W Spells Inner make tag → (inner : W) (text : List ℕ) → Spells text (make inner) → Then (SpellsMark tag) Inner text (tt, inner)
tag_apart {tag = tag} t inner text s = let behind = t.only text inner s in (tag ∷ [], behind.0, refl, behind.1, behind.2)

tag_together : {V W : Type 0} {Spells : List ℕ → V → Type 0} {Inner : List ℕ → W → Type 0} {make : W → V} {tag : ℕ} → IsTagged V W Spells Inner make tag → (inner : W) (text : List ℕ) → Then (SpellsMark tag) Inner text (tt, inner) → Spells text (make inner)
tag_together {V} {W} {Spells} {make = make} t inner text (front, behind, mark, s, e) =
    let P : List ℕ → Type 0 = λ z. Spells z (make inner) in
    subst P (sym (e ∙ ap (λ z. z ++ behind) mark)) (t.spell behind inner s)

pub tagged_one : {V W : Type 0} {Spells : List ℕ → V → Type 0} {Inner : List ℕ → W → Type 0} {make : W → V} {tag : ℕ} → IsTagged V W Spells Inner make tag → (inner : W) → IsOne W Inner inner → IsOne V Spells (make inner)
tagged_one {V} {W} {Spells} {Inner} {make} {tag} t inner k = one_by Spells (Then (SpellsMark tag) Inner) (make inner) (tt, inner) (tag_apart t inner) (tag_together t inner) (then_one (SpellsMark tag) Inner tt inner (mark_one tag) k)

-- A value behind its size: a shorter content would have a size of no more bytes.
smaller : {V : Type 0} (Spells : List ℕ → V → Type 0) (v : V) (text content count other : List ℕ) → Spells other v → SpellsU32 count (length content) → text ≡ count ++ content → ((more : List ℕ) → SpellsSized Spells more v → length text ≤ length more) → length other < length content → ⊥
smaller Spells v text content count other s t e least h =
    let less = unsigned_less t (length other) (omega arith) in
    omega (arith, less.2, least (less.0 ++ other) (other, s, (less.0, less.1, refl)), length-append less.0 other, length-append count content, ap length e)

content_shortest : {V : Type 0} (Spells : List ℕ → V → Type 0) (v : V) (text content count : List ℕ) → Spells content v → SpellsU32 count (length content) → text ≡ count ++ content → ((more : List ℕ) → SpellsSized Spells more v → length text ≤ length more) → SpellsShortest Spells content v
content_shortest Spells v text content count s t e least =
    (s, λ other r. elim (dec_le (length content) (length other)) [ yes h ↦ h | no h ↦ absurd (smaller Spells v text content count other r t e least (omega arith)) ])

sized_same : {V : Type 0} (Spells : List ℕ → V → Type 0) (v : V) → IsOne V Spells v → (a b : List ℕ) → SpellsShortest (SpellsSized Spells) a v → SpellsShortest (SpellsSized Spells) b v → a ≡ b
sized_same {V} Spells v k a b ((content, s, (count, t, e)), least) ((inside, u, (size, r, f)), less) =
    let one : content ≡ inside = k.same content inside (content_shortest Spells v a content count s t e least) (content_shortest Spells v b inside size u r f less) in
    let P : List ℕ → Type 0 = λ z. SpellsBytes b z in
    let here : SpellsShortest SpellsBytes a content = ((count, t, e), λ other p. least other (content, s, p)) in
    let there : SpellsShortest SpellsBytes b content = (subst P (sym one) (size, r, f), λ other p. less other (content, s, p)) in
    (bytes_one content).same a b here there

pub sized_one : {V : Type 0} (Spells : List ℕ → V → Type 0) (v : V) → IsOne V Spells v → IsOne V (SpellsSized Spells) v
sized_one Spells v k = record { same = sized_same Spells v k }

-- A section that may be left out.
part_same : {V : Type 0} {number : ℕ} {Spells : List ℕ → V → Type 0} {empty value same : V} {a b : List ℕ} → IsOne V (SpellsSized Spells) value → SpellsPart number Spells empty a value → SpellsPart number Spells empty b same → value ≡ same → ((other : List ℕ) → SpellsPart number Spells empty other value → length a ≤ length other) → ((other : List ℕ) → SpellsPart number Spells empty other value → length b ≤ length other) → a ≡ b
part_same k part_absent part_absent e least less = refl
part_same k part_absent (part_present t) e least less = absurd (omega (arith, less [] part_absent))
part_same {number = number} {Spells = Spells} {empty = empty} {value = value} k (part_present s) part_absent e least less = absurd (omega (arith, least [] (absent_part number Spells empty value e)))
part_same {V = V} {number = number} {Spells = Spells} k (part_present {bytes = bytes} s) (part_present {bytes = inside} t) e least less =
    let P : V → Type 0 = λ z. SpellsSized Spells inside z in
    ap (λ z. number ∷ z) (k.same bytes inside (s, λ other r. omega (arith, least (number ∷ other) (part_present r))) (subst P (sym e) t, λ other r. omega (arith, less (number ∷ other) (part_present r))))

pub part_one : {V : Type 0} (number : ℕ) (Spells : List ℕ → V → Type 0) (empty value : V) → IsOne V Spells value → IsOne V (SpellsPart number Spells empty) value
part_one number Spells empty value k = record { same = λ a b s t. part_same (sized_one Spells value k) s.0 t.0 refl s.1 t.1 }
