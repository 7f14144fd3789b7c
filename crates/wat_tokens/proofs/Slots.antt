-- The hash of a word, and the words that are found by it.
use Rattle.std.proofs.Common.{◌≡◌, ℕ, zero, suc, ◌+◌, ◌*◌, ◌%◌, Bor, ◌<◌, List, [], ◌∷◌, length, drop, slice_index_or, get_or, map, Option, Some, None, refl, ap, sym, ◌∙◌, subst, arith}
use Rattle.std.specs.Prelude.{Bool, true, false, nat_eq, ◌==◌, if◌then◌else◌}
use Rattle.std.proofs.lemmas.Option.{same_Some}
use Rattle.wat_grammar.specs.Words.{words, word_in, word_of}
use Rattle.wasm_values.proofs.Groups.{numbers, same_among}
use Rattle.wat_tokens.specs.declared.opcodes.TheConstants.{SLOTS}
use Rattle.wat_tokens.specs.inner.Slots.{codes_in_order, hash_from, words_in_order}

pub hash_nil : (hash : ℕ) → hash_from hash [] ≡ hash
unfolding hash_from
hash_nil hash = refl

-- One byte more.
pub hash_next : (word : List ℕ) (i hash d : ℕ) → i < length word → hash_from hash (drop i word) ≡ hash_from ((hash * 61 + slice_index_or word i d) % 598) (drop (suc i) word)
unfolding hash_from
hash_next [] i hash d h = absurd (omega (arith, h))
hash_next (byte ∷ word) zero hash d h = refl
hash_next (byte ∷ word) (suc i) hash d h = hash_next word i hash d (omega (arith, h))

pub less : (n : ℕ) → n % 598 < 598
less n = omega arith

-- ---- by evaluation of all words

abbrev word_there : ℕ → Option (List ℕ)
word_there i = word_of (get_or codes_in_order i 0)

abbrev some_there : ℕ → Option (List ℕ)
some_there i = Some (get_or words_in_order i [])

all_there : map word_there (numbers 109 0) ≡ map some_there (numbers 109 0)
unfolding numbers words words_in_order codes_in_order word_in word_of
all_there = refl

-- The word at a place is that of the opcode there.
pub word_found : (place : ℕ) (word : List ℕ) → place < 109 → get_or words_in_order place [] ≡ word → word_of (get_or codes_in_order place 0) ≡ Some word
word_found place word h e = same_among word_there some_there 109 0 all_there place (omega arith) (omega (arith, h)) ∙ ap Some e

abbrev slot_there : ℕ → ℕ
slot_there i = get_or SLOTS (hash_from 0 (get_or words_in_order i [])) 0

abbrev same : ℕ → ℕ
same i = i

all_placed : map slot_there (numbers 109 0) ≡ map same (numbers 109 0)
unfolding numbers words words_in_order hash_from
all_placed = refl

-- A word is where its hash says.
placed : (place : ℕ) (word : List ℕ) → place < 109 → get_or words_in_order place [] ≡ word → get_or SLOTS (hash_from 0 word) 0 ≡ place
placed place word h e = ap (λ (z : List ℕ). get_or SLOTS (hash_from 0 z) 0) (sym e) ∙ same_among slot_there same 109 0 all_placed place (omega arith) (omega (arith, h))

-- ---- rows

abbrev second : ℕ × List ℕ → List ℕ
second row = row.1

in_row : (here : Bool) (row : ℕ × List ℕ) (rows : List (ℕ × List ℕ)) (code : ℕ) (word : List ℕ) → (if here then Some row.1 else word_in rows code) ≡ Some word
    → (word_in rows code ≡ Some word → (i : ℕ) × (i < length rows) × (get_or (map second rows) i [] ≡ word))
    → (i : ℕ) × (i < length (row ∷ rows)) × (get_or (map second (row ∷ rows)) i [] ≡ word)
in_row true row rows code word e more = (0, omega arith, same_Some row.1 word e)
in_row false row rows code word e more = let there = more e in (suc there.0, omega (arith, there.1), there.2)

in_rows : (rows : List (ℕ × List ℕ)) (code : ℕ) (word : List ℕ) → word_in rows code ≡ Some word → (i : ℕ) × (i < length rows) × (get_or (map second rows) i [] ≡ word)
unfolding word_in
in_rows [] code word e = absurd (cc)
in_rows (row ∷ rows) code word e = in_row (row.0 == code) row rows code word e (in_rows rows code word)

rows_count : length words ≡ 109
unfolding words
rows_count = refl

-- Where the word of an opcode is not at its place, it is no word of an opcode.
pub word_stands : (code : ℕ) (word : List ℕ) (place : ℕ) → word_of code ≡ Some word → place ≡ get_or SLOTS (hash_from 0 word) 0 → (place < 109) × (get_or words_in_order place [] ≡ word)
unfolding word_of words_in_order
word_stands code word place is at =
    let there = in_rows words code word is in
    let few : there.0 < 109 = let h = there.1 in let n = rows_count in omega (arith, h, n) in
    let here : there.0 ≡ place = sym (placed there.0 word few there.2) ∙ sym at in
    subst (λ (z : ℕ). (z < 109) × (get_or words_in_order z [] ≡ word)) here (few, there.2)

-- What a borrow at a place holds.
pub now_at : (list : List (Bor (List ℕ))) (place : ℕ) (d : Bor (List ℕ)) → (get_or list place d).now ≡ get_or (map (λ (b : Bor (List ℕ)). b.now) list) place d.now
now_at [] place d = refl
now_at (first ∷ list) zero d = refl
now_at (first ∷ list) (suc place) d = now_at list place d
