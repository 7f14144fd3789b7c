-- The groups of an object's fields, and objects, at the front of the same bytes.
use Rattle.std.proofs.Common.{◌≡◌, ℕ, zero, suc, get_or, subst, ◌+◌, ◌<◌, ◌≤◌, ◌^◌, List, [], ◌∷◌, ◌++◌, map, length, sym, ap, ◌∙◌, refl, arith, length-append}
use Rattle.std.proofs.lemmas.List.{length-map}
use Rattle.byteorder.specs.Endian.{little_bytes}
use Rattle.game_tables.specs.Numbers.{kind_number, part_number}
use Rattle.game_tables.specs.declared.kind.Kind.{Kind}
use Rattle.game_tables.specs.declared.kind.Part.{Part}
use Rattle.game_tables.proofs.Numbers.{kind_number_injective, part_number_injective}
use Rattle.room_table.specs.declared.object.Object.{Object}
use Rattle.world_bytes.specs.declared.object.Head.{Head}
use Rattle.world_bytes.specs.declared.object.Counts.{Counts}
use Rattle.world_bytes.specs.Forms.{HasObjectForm, object_bytes}
use Rattle.world_bytes.specs.inner.Rows.{Leads, HasHeadForm, head_row, head_of, HasCountsForm, counts_row, counts_of, HasBodyForm, body_row, object_row}
use Rattle.world_bytes.proofs.Words.{text_one, behind_word, word_short, behind_byte}

-- ---- what an object is

pub head_short : (head : Head) (bytes rest : List ℕ) → length bytes < 8 → bytes ≡ head_row head rest → ⊥
unfolding head_row
head_short head bytes rest short e = word_short 8 head.id bytes _ short e

pub head_behind_id : (head : Head) (id : ℕ) (bytes left rest : List ℕ) → id < 2 ^ 64 → HasHeadForm head → bytes ≡ little_bytes 8 id ++ left → bytes ≡ head_row head rest
    → (id ≡ head.id) × (left ≡ kind_number head.kind ∷ head.x ∷ head.y ∷ (little_bytes 4 head.owner ++ rest))
unfolding head_row
head_behind_id head id bytes left rest fits form e f = behind_word 8 id head.id bytes left _ fits form.id e f

pub head_whole : (head : Head) (bytes a b c d rest : List ℕ) → bytes ≡ little_bytes 8 head.id ++ a → a ≡ kind_number head.kind ∷ b → b ≡ head.x ∷ c → c ≡ head.y ∷ d → d ≡ little_bytes 4 head.owner ++ rest → bytes ≡ head_row head rest
unfolding head_row
head_whole head bytes a b c d rest e f g h i =
    e ∙ ap (λ (z : List ℕ). little_bytes 8 head.id ++ z) (f ∙ ap (λ (z : List ℕ). kind_number head.kind ∷ z) (g ∙ ap (λ (z : List ℕ). head.x ∷ z) (h ∙ ap (λ (z : List ℕ). head.y ∷ z) i)))

head_from : ℕ → Kind → ℕ → ℕ → ℕ → Head
head_from id kind x y owner = record { id = id; kind = kind; x = x; y = y; owner = owner }

head_same : (a b : Head) → a.id ≡ b.id → a.kind ≡ b.kind → a.x ≡ b.x → a.y ≡ b.y → a.owner ≡ b.owner → a ≡ b
unfolding head_from
head_same a b e f g h i =
    let same : head_from a.id a.kind a.x a.y a.owner ≡ head_from b.id b.kind b.x b.y b.owner = cc in
    same

pub head_one : (a b : Head) (bytes r s : List ℕ) → HasHeadForm a → HasHeadForm b → bytes ≡ head_row a r → bytes ≡ head_row b s → (a ≡ b) × (r ≡ s)
unfolding head_row
head_one a b bytes r s p q e f =
    let one = behind_word 8 a.id b.id bytes _ _ p.id q.id e f in
    let two = behind_byte (kind_number a.kind) (kind_number b.kind) _ _ _ refl one.1 in
    let three = behind_byte a.x b.x _ _ _ refl two.1 in
    let four = behind_byte a.y b.y _ _ _ refl three.1 in
    let five = behind_word 4 a.owner b.owner _ r s p.owner q.owner refl four.1 in
    (head_same a b one.0 (kind_number_injective a.kind b.kind two.0) three.0 four.0 five.0, five.1)

pub head_length : (head : Head) (rest : List ℕ) → length (head_row head rest) ≡ 15 + length rest
unfolding head_row
head_length head rest = omega arith

-- ---- an object's numbers

pub counts_whole : (counts : Counts) (bytes a b c d e f rest : List ℕ) → bytes ≡ little_bytes 4 counts.hits ++ a → a ≡ little_bytes 8 counts.energy ++ b → b ≡ little_bytes 4 counts.timer ++ c → c ≡ little_bytes 4 counts.extra ++ d → d ≡ little_bytes 8 counts.progress ++ e → e ≡ little_bytes 4 counts.other ++ f → f ≡ little_bytes 4 counts.other_ticks ++ rest → bytes ≡ counts_row counts rest
unfolding counts_row
counts_whole counts bytes a b c d e f rest h i j k l m n =
    h ∙ ap (λ (z : List ℕ). little_bytes 4 counts.hits ++ z) (i ∙ ap (λ (z : List ℕ). little_bytes 8 counts.energy ++ z) (j ∙ ap (λ (z : List ℕ). little_bytes 4 counts.timer ++ z) (k ∙ ap (λ (z : List ℕ). little_bytes 4 counts.extra ++ z) (l ∙ ap (λ (z : List ℕ). little_bytes 8 counts.progress ++ z) (m ∙ ap (λ (z : List ℕ). little_bytes 4 counts.other ++ z) n)))))

pub counts_length : (counts : Counts) (rest : List ℕ) → length (counts_row counts rest) ≡ 36 + length rest
unfolding counts_row
counts_length counts rest = omega arith

pub counts_short : (counts : Counts) (bytes rest : List ℕ) → length bytes < 36 → bytes ≡ counts_row counts rest → ⊥
counts_short counts bytes rest short e = omega (arith, ap length e, counts_length counts rest)

counts_from : ℕ → ℕ → ℕ → ℕ → ℕ → ℕ → ℕ → Counts
counts_from hits energy timer extra progress other other_ticks =
    record { hits = hits; energy = energy; timer = timer; extra = extra; progress = progress; other = other; other_ticks = other_ticks }

counts_same : (a b : Counts) → a.hits ≡ b.hits → a.energy ≡ b.energy → a.timer ≡ b.timer → a.extra ≡ b.extra → a.progress ≡ b.progress → a.other ≡ b.other → a.other_ticks ≡ b.other_ticks → a ≡ b
unfolding counts_from
counts_same a b e f g h i j k =
    let same : counts_from a.hits a.energy a.timer a.extra a.progress a.other a.other_ticks ≡ counts_from b.hits b.energy b.timer b.extra b.progress b.other b.other_ticks = cc in
    same

pub counts_one : (a b : Counts) (bytes r s : List ℕ) → HasCountsForm a → HasCountsForm b → bytes ≡ counts_row a r → bytes ≡ counts_row b s → (a ≡ b) × (r ≡ s)
unfolding counts_row
counts_one a b bytes r s p q e f =
    let one = behind_word 4 a.hits b.hits bytes _ _ p.hits q.hits e f in
    let two = behind_word 8 a.energy b.energy _ _ _ p.energy q.energy refl one.1 in
    let three = behind_word 4 a.timer b.timer _ _ _ p.timer q.timer refl two.1 in
    let four = behind_word 4 a.extra b.extra _ _ _ p.extra q.extra refl three.1 in
    let five = behind_word 8 a.progress b.progress _ _ _ p.progress q.progress refl four.1 in
    let six = behind_word 4 a.other b.other _ _ _ p.other q.other refl five.1 in
    let seven = behind_word 4 a.other_ticks b.other_ticks _ r s p.other_ticks q.other_ticks refl six.1 in
    (counts_same a b one.0 two.0 three.0 four.0 five.0 six.0 seven.0, seven.1)

-- ---- a body

pub parts_one : (a b : List Part) → map part_number a ≡ map part_number b → a ≡ b
parts_one [] [] e = refl
parts_one [] (y ∷ b) e = absurd (cc)
parts_one (x ∷ a) [] e = absurd (cc)
parts_one (x ∷ a) (y ∷ b) e =
    let both = behind_byte (part_number x) (part_number y) _ (map part_number a) (map part_number b) refl e in
    let first : x ≡ y = part_number_injective x y both.0 in
    let rest : a ≡ b = parts_one a b both.1 in
    cc

pub body_one : (a b : List Part) (bytes r s : List ℕ) → bytes ≡ body_row a r → bytes ≡ body_row b s → (a ≡ b) × (r ≡ s)
unfolding body_row
body_one a b bytes r s e f =
    let one = behind_byte (length a) (length b) bytes (map part_number a ++ r) (map part_number b ++ s) e f in
    let size : length (map part_number a) ≡ length (map part_number b) = length-map a part_number ∙ one.0 ∙ sym (length-map b part_number) in
    let two = text_one (map part_number a) (map part_number b) r s size one.1 in
    (parts_one a b two.0, two.1)

pub body_length : (body : List Part) (rest : List ℕ) → length (body_row body rest) ≡ 1 + length body + length rest
unfolding body_row
body_length body rest = omega (arith, length-append (map part_number body) rest, length-map body part_number)

pub body_short : (body : List Part) (rest bytes : List ℕ) → bytes ≡ [] → bytes ≡ body_row body rest → ⊥
body_short body rest bytes none e = omega (arith, ap length none, ap length e, body_length body rest)

-- what is behind the count that was read
pub body_count : (body : List Part) (rest : List ℕ) (count : ℕ) (bytes left : List ℕ) → bytes ≡ count ∷ left → bytes ≡ body_row body rest → (count ≡ length body) × (left ≡ map part_number body ++ rest)
unfolding body_row
body_count body rest count bytes left e f = behind_byte count (length body) bytes left (map part_number body ++ rest) e f

pub body_behind_short : (body : List Part) (rest : List ℕ) (count : ℕ) (bytes left : List ℕ) → bytes ≡ count ∷ left → length left < count → bytes ≡ body_row body rest → ⊥
body_behind_short body rest count bytes left e short f =
    let one = body_count body rest count bytes left e f in
    omega (arith, one.0, ap length one.1, length-append (map part_number body) rest, length-map body part_number)

-- the numbers that were read are those of the body
pub body_numbers : (body : List Part) (rest : List ℕ) (count : ℕ) (bytes left numbers behind : List ℕ) → bytes ≡ count ∷ left → left ≡ numbers ++ behind → length numbers ≡ count → bytes ≡ body_row body rest → numbers ≡ map part_number body
body_numbers body rest count bytes left numbers behind e f size g =
    let one = body_count body rest count bytes left e g in
    (text_one numbers (map part_number body) behind rest (size ∙ one.0 ∙ sym (length-map body part_number)) (sym f ∙ one.1)).0

pub body_whole : (body : List Part) (count : ℕ) (bytes left numbers rest : List ℕ) → bytes ≡ count ∷ left → left ≡ numbers ++ rest → length numbers ≡ count → numbers ≡ map part_number body → count ≤ 50 → Leads HasBodyForm body_row bytes body rest
unfolding body_row
body_whole body count bytes left numbers rest e f size same most =
    let counted : count ≡ length body = sym size ∙ ap length same ∙ length-map body part_number in
    (record { parts = omega arith }, e ∙ ap (λ (z : ℕ). z ∷ left) counted ∙ ap (λ (z : List ℕ). length body ∷ z) (f ∙ ap (λ (z : List ℕ). z ++ rest) same))

parts_none_at : (part : Part) (body : List Part) (i : ℕ) → i < length (map part_number (part ∷ body)) → ((other : Part) → get_or (map part_number (part ∷ body)) i 0 ≡ part_number other → ⊥) → ⊥
parts_none_at part body zero below none = none part refl
parts_none_at part [] (suc i) below none = omega arith
parts_none_at part (next ∷ body) (suc i) below none = parts_none_at next body i (omega arith) none

-- a number that is of no part is in no body
pub parts_none : (body : List Part) (numbers : List ℕ) (i : ℕ) → numbers ≡ map part_number body → i < length numbers → ((part : Part) → get_or numbers i 0 ≡ part_number part → ⊥) → ⊥
parts_none [] numbers i e below none = omega (arith, ap length e)
parts_none (part ∷ body) numbers i e below none =
    let P : List ℕ → Type 0 = λ z. i < length z → ((other : Part) → get_or z i 0 ≡ part_number other → ⊥) → ⊥ in
    subst P (sym e) (parts_none_at part body i) below none

-- ---- an object

pub object_parts : (object : Object) (rest : List ℕ) → object_row object rest ≡ head_row (head_of object) (counts_row (counts_of object) (body_row object.body rest))
unfolding object_bytes head_row counts_row body_row
object_parts object rest = refl

pub head_form : (object : Object) → HasObjectForm object → HasHeadForm (head_of object)
head_form object form =
    record { kind = form.kind; column = form.tile.column; row = form.tile.row; id = form.id; owner = form.owner }

pub counts_form : (object : Object) → HasObjectForm object → HasCountsForm (counts_of object)
counts_form object form =
    record { hits = form.hits; energy = form.energy; timer = form.timer; extra = form.extra; progress = form.progress; other = form.other; other_ticks = form.other_ticks }

pub object_form : (object : Object) → HasHeadForm (head_of object) → HasCountsForm (counts_of object) → HasBodyForm object.body → HasObjectForm object
object_form object head counts body =
    record {
      kind = head.kind;
      tile = record { column = head.column; row = head.row };
      parts = body.parts;
      id = head.id;
      owner = head.owner;
      hits = counts.hits;
      energy = counts.energy;
      timer = counts.timer;
      extra = counts.extra;
      progress = counts.progress;
      other = counts.other;
      other_ticks = counts.other_ticks;
    }

pub object_whole : (object : Object) (bytes a b rest : List ℕ) → Leads HasHeadForm head_row bytes (head_of object) a → Leads HasCountsForm counts_row a (counts_of object) b → Leads HasBodyForm body_row b object.body rest → Leads HasObjectForm object_row bytes object rest
object_whole object bytes a b rest head counts body =
    let whole : bytes ≡ object_row object rest =
    head.1 ∙ ap (λ (z : List ℕ). head_row (head_of object) z) (counts.1 ∙ ap (λ (z : List ℕ). counts_row (counts_of object) z) body.1) ∙ sym (object_parts object rest) in
    (object_form object head.0 counts.0 body.0, whole)

pub object_behind_head : (object : Object) (head : Head) (bytes left rest : List ℕ) → HasObjectForm object → Leads HasHeadForm head_row bytes head left → bytes ≡ object_row object rest → (head ≡ head_of object) × (left ≡ counts_row (counts_of object) (body_row object.body rest))
object_behind_head object head bytes left rest form read e =
    head_one head (head_of object) bytes left (counts_row (counts_of object) (body_row object.body rest)) read.0 (head_form object form) read.1 (e ∙ object_parts object rest)

pub object_behind_counts : (object : Object) (head : Head) (counts : Counts) (bytes left behind rest : List ℕ) → HasObjectForm object → Leads HasHeadForm head_row bytes head left → Leads HasCountsForm counts_row left counts behind → bytes ≡ object_row object rest → (counts ≡ counts_of object) × (behind ≡ body_row object.body rest)
object_behind_counts object head counts bytes left behind rest form read next e =
    counts_one counts (counts_of object) left behind (body_row object.body rest) next.0 (counts_form object form) next.1 (object_behind_head object head bytes left rest form read e).1

object_from : Head → Counts → List Part → Object
object_from head counts body =
    record {
      id = head.id;
      kind = head.kind;
      x = head.x;
      y = head.y;
      owner = head.owner;
      hits = counts.hits;
      energy = counts.energy;
      timer = counts.timer;
      extra = counts.extra;
      progress = counts.progress;
      other = counts.other;
      other_ticks = counts.other_ticks;
      body = body;
    }

object_same : (a b : Object) → head_of a ≡ head_of b → counts_of a ≡ counts_of b → a.body ≡ b.body → a ≡ b
unfolding object_from
object_same a b e f g =
    let first : object_from (head_of a) (counts_of a) a.body ≡ object_from (head_of b) (counts_of a) a.body = ap (λ (h : Head). object_from h (counts_of a) a.body) e in
    let second : object_from (head_of b) (counts_of a) a.body ≡ object_from (head_of b) (counts_of b) a.body = ap (λ (k : Counts). object_from (head_of b) k a.body) f in
    let third : object_from (head_of b) (counts_of b) a.body ≡ object_from (head_of b) (counts_of b) b.body = ap (λ (p : List Part). object_from (head_of b) (counts_of b) p) g in
    first ∙ second ∙ third

-- two objects at the front of the same bytes are one
pub object_one : (a b : Object) (bytes r s : List ℕ) → HasObjectForm a → HasObjectForm b → bytes ≡ object_row a r → bytes ≡ object_row b s → (a ≡ b) × (r ≡ s)
object_one a b bytes r s p q e f =
    let behind : List ℕ = body_row a.body r in
    let left : List ℕ = counts_row (counts_of a) behind in
    let head : Leads HasHeadForm head_row bytes (head_of a) left = (head_form a p, e ∙ object_parts a r) in
    let counts : Leads HasCountsForm counts_row left (counts_of a) behind = (counts_form a p, refl) in
    let one = object_behind_head b (head_of a) bytes left s q head f in
    let two = object_behind_counts b (head_of a) (counts_of a) bytes left behind s q head counts f in
    let three = body_one a.body b.body behind r s refl two.1 in
    (object_same a b one.0 two.0 three.0, three.1)
