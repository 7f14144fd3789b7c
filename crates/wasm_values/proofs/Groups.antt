-- The rows of the opcodes, by bounds, as the code tells them apart.
use Rattle.std.proofs.Common.{◌≡◌, ℕ, zero, suc, ◌≤◌, ◌<◌, ◌+◌, List, [], ◌∷◌, map, Option, None, Some, refl, sym, ap, ◌∙◌, ◌⊎◌, inl, inr, arith}
use Rattle.std.specs.Prelude.{Bool, nat_lt, ◌==◌, if◌then◌else◌, true, false}
use Rattle.std.proofs.lemmas.Bool.Decides.{nat_tests}
use native.Mathlib.Decide.{dec_le}
use Rattle.wasm_values.specs.Opcodes.{Meaning, meaning, meaning_in, opcodes, loads, stores, unary, binary, moves_float, works_on_floats}
use Rattle.wasm_values.specs.Instructions.{IsLoad, load_row, IsStore, store_row, IsFloatMemory, IsNumeric, unary_row, binary_row, IsFloatPlain}

-- ---- functions of numbers below a bound

-- So many numbers from one on.
unfoldable pub numbers : ℕ → ℕ → List ℕ
numbers zero first = []
numbers (suc count) first = first ∷ numbers count (suc first)

-- Functions that agree on a list of numbers agree on each of them.
pub same_among : {A : Type 0} (f g : ℕ → A) (count first : ℕ) → map f (numbers count first) ≡ map g (numbers count first) → (n : ℕ) → first ≤ n → n < first + count → f n ≡ g n
unfolding numbers
same_among f g zero first same n low high = absurd (omega arith)
same_among f g (suc count) first same n low high = elim (dec_le n first) [
  | yes h ↦ let e : n ≡ first = omega arith in let head : f first ≡ g first = cc in rw e head
  | no h ↦ let tail : map f (numbers count (suc first)) ≡ map g (numbers count (suc first)) = cc in same_among f g count (suc first) tail n (omega arith) (omega arith)
]

-- ---- no row from 256 on

abbrev all_below : List (ℕ × Meaning) → Bool
all_below [] = true
all_below (row ∷ rows) = if nat_lt row.0 256 then all_below rows else false

none_in : (rows : List (ℕ × Meaning)) → all_below rows ≡ true → (op : ℕ) → 256 ≤ op → meaning_in rows op ≡ None
unfolding meaning_in
none_in [] below op high = refl
none_in (row ∷ rows) below op high =
    let here : nat_lt row.0 256 ≡ true = grind (arith, nat_tests) in
    let there : all_below rows ≡ true = grind (arith, nat_tests) in
    let other : (row.0 == op) ≡ false = grind (arith, nat_tests) in
    rw other (none_in rows there op high)

pub none_high : (op : ℕ) → 256 ≤ op → meaning op ≡ None
unfolding meaning meaning_in opcodes
none_high op high = none_in opcodes refl op high

-- No row has an opcode below the first of the loads.
abbrev none_at : ℕ → Option Meaning
none_at op = None

none_low : map meaning (numbers 0x28 0) ≡ map none_at (numbers 0x28 0)
unfolding numbers meaning meaning_in opcodes
none_low = refl

pub meaning_low : (op : ℕ) → op < 0x28 → meaning op ≡ None
meaning_low op low = same_among meaning none_at 0x28 0 none_low op (omega arith) (omega arith)

-- ---- the groups

pub data Group : Type 0 where
  load_group : Group
  store_group : Group
  float_memory_group : Group
  numeric_group : Group
  float_plain_group : Group
  no_group : Group

unfoldable pub group : Option Meaning → Group
group None = no_group
group (Some (loads value bytes signed)) = load_group
group (Some (stores value bytes)) = store_group
group (Some (unary from to)) = numeric_group
group (Some (binary from to)) = numeric_group
group (Some moves_float) = float_memory_group
group (Some works_on_floats) = float_plain_group

unfoldable pub group_by_bounds : ℕ → Group
group_by_bounds op =
    if nat_lt op 0x28 then no_group
    else if nat_lt op 0x2a then load_group
    else if nat_lt op 0x2c then float_memory_group
    else if nat_lt op 0x36 then load_group
    else if nat_lt op 0x38 then store_group
    else if nat_lt op 0x3a then float_memory_group
    else if nat_lt op 0x3f then store_group
    else if nat_lt op 0x45 then no_group
    else if nat_lt op 0x5b then numeric_group
    else if nat_lt op 0x67 then float_plain_group
    else if nat_lt op 0x8b then numeric_group
    else if nat_lt op 0xa7 then float_plain_group
    else if nat_lt op 0xa8 then numeric_group
    else if nat_lt op 0xac then float_plain_group
    else if nat_lt op 0xae then numeric_group
    else if nat_lt op 0xc0 then float_plain_group
    else if nat_lt op 0xc5 then numeric_group
    else no_group

same_low : map (λ op. group (meaning op)) (numbers 256 0) ≡ map group_by_bounds (numbers 256 0)
unfolding numbers group meaning meaning_in opcodes group_by_bounds
same_low = refl

high_group : (op : ℕ) → 256 ≤ op → group_by_bounds op ≡ no_group
unfolding group_by_bounds
high_group op high = grind (arith, nat_tests)

high_meaning : (op : ℕ) → 256 ≤ op → group (meaning op) ≡ no_group
unfolding group
high_meaning op high = rw (none_high op high) refl

pub grouped : (op : ℕ) → group (meaning op) ≡ group_by_bounds op
grouped op = elim (dec_le 256 op) [
  | yes h ↦ high_meaning op h ∙ sym (high_group op h)
  | no h ↦ same_among (λ op. group (meaning op)) group_by_bounds 256 0 same_low op (omega arith) (omega arith)
]

-- ---- from the rows to bounds

load_grouped : (op : ℕ) → IsLoad op → group_by_bounds op ≡ load_group
unfolding group
load_grouped op (load_row e) = sym (grouped op) ∙ ap group e

store_grouped : (op : ℕ) → IsStore op → group_by_bounds op ≡ store_group
unfolding group
store_grouped op (store_row e) = sym (grouped op) ∙ ap group e

float_memory_grouped : (op : ℕ) → IsFloatMemory op → group_by_bounds op ≡ float_memory_group
unfolding group
float_memory_grouped op e = sym (grouped op) ∙ ap group e

numeric_grouped : (op : ℕ) → IsNumeric op → group_by_bounds op ≡ numeric_group
unfolding group
numeric_grouped op (unary_row e) = sym (grouped op) ∙ ap group e
numeric_grouped op (binary_row e) = sym (grouped op) ∙ ap group e

float_plain_grouped : (op : ℕ) → IsFloatPlain op → group_by_bounds op ≡ float_plain_group
unfolding group
float_plain_grouped op e = sym (grouped op) ∙ ap group e

memory_bounds : (op : ℕ) → (group_by_bounds op ≡ load_group) ⊎ (group_by_bounds op ≡ store_group) ⊎ (group_by_bounds op ≡ float_memory_group) → (0x28 ≤ op) × (op ≤ 0x3e)
unfolding group_by_bounds
memory_bounds op h = (grind (arith, nat_tests), grind (arith, nat_tests))

pub load_bounds : (op : ℕ) → IsLoad op → (0x28 ≤ op) × (op ≤ 0x3e)
load_bounds op r = memory_bounds op (inl (load_grouped op r))

pub store_bounds : (op : ℕ) → IsStore op → (0x28 ≤ op) × (op ≤ 0x3e)
store_bounds op r = memory_bounds op (inr (inl (store_grouped op r)))

pub float_memory_bounds : (op : ℕ) → IsFloatMemory op → (0x28 ≤ op) × (op ≤ 0x3e)
float_memory_bounds op r = memory_bounds op (inr (inr (float_memory_grouped op r)))

operation_bounds : (op : ℕ) → (group_by_bounds op ≡ numeric_group) ⊎ (group_by_bounds op ≡ float_plain_group) → (0x45 ≤ op) × (op ≤ 0xc4)
unfolding group_by_bounds
operation_bounds op h = (grind (arith, nat_tests), grind (arith, nat_tests))

pub numeric_bounds : (op : ℕ) → IsNumeric op → (0x45 ≤ op) × (op ≤ 0xc4)
numeric_bounds op r = operation_bounds op (inl (numeric_grouped op r))

pub float_plain_bounds : (op : ℕ) → IsFloatPlain op → (0x45 ≤ op) × (op ≤ 0xc4)
float_plain_bounds op r = operation_bounds op (inr (float_plain_grouped op r))

-- ---- from bounds to the rows

load_meaning : (op : ℕ) (found : Option Meaning) → meaning op ≡ found → group found ≡ load_group → IsLoad op
unfolding group
load_meaning op None is e = absurd (cc)
load_meaning op (Some (loads value bytes signed)) is e = load_row is
load_meaning op (Some (stores value bytes)) is e = absurd (cc)
load_meaning op (Some (unary from to)) is e = absurd (cc)
load_meaning op (Some (binary from to)) is e = absurd (cc)
load_meaning op (Some moves_float) is e = absurd (cc)
load_meaning op (Some works_on_floats) is e = absurd (cc)

store_meaning : (op : ℕ) (found : Option Meaning) → meaning op ≡ found → group found ≡ store_group → IsStore op
unfolding group
store_meaning op None is e = absurd (cc)
store_meaning op (Some (loads value bytes signed)) is e = absurd (cc)
store_meaning op (Some (stores value bytes)) is e = store_row is
store_meaning op (Some (unary from to)) is e = absurd (cc)
store_meaning op (Some (binary from to)) is e = absurd (cc)
store_meaning op (Some moves_float) is e = absurd (cc)
store_meaning op (Some works_on_floats) is e = absurd (cc)

numeric_meaning : (op : ℕ) (found : Option Meaning) → meaning op ≡ found → group found ≡ numeric_group → IsNumeric op
unfolding group
numeric_meaning op None is e = absurd (cc)
numeric_meaning op (Some (loads value bytes signed)) is e = absurd (cc)
numeric_meaning op (Some (stores value bytes)) is e = absurd (cc)
numeric_meaning op (Some (unary from to)) is e = unary_row is
numeric_meaning op (Some (binary from to)) is e = binary_row is
numeric_meaning op (Some moves_float) is e = absurd (cc)
numeric_meaning op (Some works_on_floats) is e = absurd (cc)

float_memory_meaning : (op : ℕ) (found : Option Meaning) → meaning op ≡ found → group found ≡ float_memory_group → IsFloatMemory op
unfolding group
float_memory_meaning op None is e = absurd (cc)
float_memory_meaning op (Some (loads value bytes signed)) is e = absurd (cc)
float_memory_meaning op (Some (stores value bytes)) is e = absurd (cc)
float_memory_meaning op (Some (unary from to)) is e = absurd (cc)
float_memory_meaning op (Some (binary from to)) is e = absurd (cc)
float_memory_meaning op (Some moves_float) is e = is
float_memory_meaning op (Some works_on_floats) is e = absurd (cc)

float_plain_meaning : (op : ℕ) (found : Option Meaning) → meaning op ≡ found → group found ≡ float_plain_group → IsFloatPlain op
unfolding group
float_plain_meaning op None is e = absurd (cc)
float_plain_meaning op (Some (loads value bytes signed)) is e = absurd (cc)
float_plain_meaning op (Some (stores value bytes)) is e = absurd (cc)
float_plain_meaning op (Some (unary from to)) is e = absurd (cc)
float_plain_meaning op (Some (binary from to)) is e = absurd (cc)
float_plain_meaning op (Some moves_float) is e = absurd (cc)
float_plain_meaning op (Some works_on_floats) is e = is

pub load_whole : {op : ℕ} → 0x28 ≤ op → op ≤ 0x29 → IsLoad op
unfolding group_by_bounds
load_whole {op = op} low high = let e : group_by_bounds op ≡ load_group = grind (arith, nat_tests) in load_meaning op (meaning op) refl (grouped op ∙ e)

pub load_part : {op : ℕ} → 0x2c ≤ op → op ≤ 0x35 → IsLoad op
unfolding group_by_bounds
load_part {op = op} low high = let e : group_by_bounds op ≡ load_group = grind (arith, nat_tests) in load_meaning op (meaning op) refl (grouped op ∙ e)

pub store_whole : {op : ℕ} → 0x36 ≤ op → op ≤ 0x37 → IsStore op
unfolding group_by_bounds
store_whole {op = op} low high = let e : group_by_bounds op ≡ store_group = grind (arith, nat_tests) in store_meaning op (meaning op) refl (grouped op ∙ e)

pub store_part : {op : ℕ} → 0x3a ≤ op → op ≤ 0x3e → IsStore op
unfolding group_by_bounds
store_part {op = op} low high = let e : group_by_bounds op ≡ store_group = grind (arith, nat_tests) in store_meaning op (meaning op) refl (grouped op ∙ e)

pub float_load : {op : ℕ} → 0x2a ≤ op → op ≤ 0x2b → IsFloatMemory op
unfolding group_by_bounds
float_load {op = op} low high = let e : group_by_bounds op ≡ float_memory_group = grind (arith, nat_tests) in float_memory_meaning op (meaning op) refl (grouped op ∙ e)

pub float_store : {op : ℕ} → 0x38 ≤ op → op ≤ 0x39 → IsFloatMemory op
unfolding group_by_bounds
float_store {op = op} low high = let e : group_by_bounds op ≡ float_memory_group = grind (arith, nat_tests) in float_memory_meaning op (meaning op) refl (grouped op ∙ e)

pub compares : {op : ℕ} → 0x45 ≤ op → op ≤ 0x5a → IsNumeric op
unfolding group_by_bounds
compares {op = op} low high = let e : group_by_bounds op ≡ numeric_group = grind (arith, nat_tests) in numeric_meaning op (meaning op) refl (grouped op ∙ e)

pub computes : {op : ℕ} → 0x67 ≤ op → op ≤ 0x8a → IsNumeric op
unfolding group_by_bounds
computes {op = op} low high = let e : group_by_bounds op ≡ numeric_group = grind (arith, nat_tests) in numeric_meaning op (meaning op) refl (grouped op ∙ e)

pub wraps : {op : ℕ} → op ≡ 0xa7 → IsNumeric op
unfolding group_by_bounds
wraps {op = op} same = let e : group_by_bounds op ≡ numeric_group = grind (arith, nat_tests) in numeric_meaning op (meaning op) refl (grouped op ∙ e)

pub extends : {op : ℕ} → 0xac ≤ op → op ≤ 0xad → IsNumeric op
unfolding group_by_bounds
extends {op = op} low high = let e : group_by_bounds op ≡ numeric_group = grind (arith, nat_tests) in numeric_meaning op (meaning op) refl (grouped op ∙ e)

pub extends_within : {op : ℕ} → 0xc0 ≤ op → op ≤ 0xc4 → IsNumeric op
unfolding group_by_bounds
extends_within {op = op} low high = let e : group_by_bounds op ≡ numeric_group = grind (arith, nat_tests) in numeric_meaning op (meaning op) refl (grouped op ∙ e)

pub compares_float : {op : ℕ} → 0x5b ≤ op → op ≤ 0x66 → IsFloatPlain op
unfolding group_by_bounds
compares_float {op = op} low high = let e : group_by_bounds op ≡ float_plain_group = grind (arith, nat_tests) in float_plain_meaning op (meaning op) refl (grouped op ∙ e)

pub computes_float : {op : ℕ} → 0x8b ≤ op → op ≤ 0xab → (op ≡ 0xa7 → ⊥) → IsFloatPlain op
unfolding group_by_bounds
computes_float {op = op} low high not = let e : group_by_bounds op ≡ float_plain_group = grind (arith, nat_tests) in float_plain_meaning op (meaning op) refl (grouped op ∙ e)

pub converts : {op : ℕ} → 0xae ≤ op → op ≤ 0xbf → IsFloatPlain op
unfolding group_by_bounds
converts {op = op} low high = let e : group_by_bounds op ≡ float_plain_group = grind (arith, nat_tests) in float_plain_meaning op (meaning op) refl (grouped op ∙ e)
