-- A value says one thing at most, by each form.
use Rattle.std.proofs.Common.{◌≡◌, ℕ, ◌/◌, ◌%◌, ◌^◌, ◌<◌, Bool, true, false, List, [], ◌∷◌, map, Option, Some, None, refl, sym, subst, ◌∙◌, arith, inl, inr}
use Rattle.std.specs.List.{AllByRecursion}
use Rattle.std.proofs.lemmas.Bool.Decides.{nat_tests}
use Rattle.serde_json.specs.Data.{Data, number, unsigned, string, array, Items, no_items, item}
use Rattle.serde_json.specs.Find.{get}
use Rattle.serde_json.specs.View.{items_of}
use Rattle.game_tables.specs.declared.kind.Part.{Part}
use Rattle.game_tables.specs.Texts.{part_text}
use Rattle.game_tables.proofs.Texts.{kind_text_injective, part_text_injective}
use Rattle.room_terrain.specs.declared.terrain.Ground.{Ground}
use Rattle.room_terrain.specs.declared.terrain.Ground.TheVariants.{Plain, Wall, Swamp}
use Rattle.room_terrain.specs.Names.{Names}
use Rattle.room_terrain.proofs.Unique.{one_name}
use Rattle.world_form.specs.declared.field.Field.{Field}
use Rattle.world_form.specs.Keys.{key}
use Rattle.world_form.specs.Digits.{ground_digit, hex_digit, hex}
use Rattle.world_form.specs.Facts.{IsWhole, IsKindText, IsBodyList, IsNameText, IsTerrainText, IsTokenText, IsMemoryText, Requires, Defaults, SayEach, IsListOf}

-- ---- constructors

pub some_none : {A : Type 0} (found : Option A) (a : A) → found ≡ Some a → found ≡ None → ⊥
some_none found a some none = cc

pub one_some : {A : Type 0} (found : Option A) (a b : A) → found ≡ Some a → found ≡ Some b → a ≡ b
one_some found a b one other = cc

pub true_false : (b : Bool) → b ≡ true → b ≡ false → ⊥
true_false b here there = cc

one_whole : (n m : ℕ) → number (unsigned n) ≡ number (unsigned m) → n ≡ m
one_whole n m e = cc

one_text : (text other : List ℕ) → string text ≡ string other → text ≡ other
one_text text other e = cc

pub one_array : (values others : Items) → array values ≡ array others → values ≡ others
one_array values others e = cc

-- ---- forms

-- A value says one thing at most.
abbrev pub IsOne : {A : Type 0} → (Data → A → Type 0) → Type 0
IsOne {A} Form = (value : Data) (said other : A) → Form value said → Form value other → said ≡ other

pub whole_one : (low high : ℕ) → IsOne (IsWhole low high)
whole_one low high value n m one other = one_whole n m (sym one.0 ∙ other.0)

pub kind_one : IsOne IsKindText
kind_one value kind other one two = kind_text_injective kind other (one_text _ _ (sym one ∙ two))

parts_same : (parts others : List Part) → items_of (map (λ part. string (part_text part)) parts) ≡ items_of (map (λ part. string (part_text part)) others) → parts ≡ others
parts_same [] [] e = refl
parts_same [] (other ∷ others) e = absurd cc
parts_same (part ∷ parts) [] e = absurd cc
parts_same (part ∷ parts) (other ∷ others) e =
    let texts : part_text part ≡ part_text other = cc in
    let rest : items_of (map (λ part. string (part_text part)) parts) ≡ items_of (map (λ part. string (part_text part)) others) = cc in
    let first = part_text_injective part other texts in
    let later = parts_same parts others rest in
    λ i. first i ∷ later i

pub body_one : IsOne IsBodyList
body_one value parts others one other = parts_same parts others (one_array _ _ (sym one.0 ∙ other.0))

pub name_one : IsOne IsNameText
name_one value name other one two = one_name one.0 name other one.2 (subst (λ text. Names text other) (one_text _ _ (sym two.1 ∙ one.1)) two.2)

ground_same : (ground other : Ground) → ground_digit ground ≡ ground_digit other → ground ≡ other
ground_same Plain Plain e = refl
ground_same Plain Wall e = absurd (omega arith)
ground_same Plain Swamp e = absurd (omega arith)
ground_same Wall Plain e = absurd (omega arith)
ground_same Wall Wall e = refl
ground_same Wall Swamp e = absurd (omega arith)
ground_same Swamp Plain e = absurd (omega arith)
ground_same Swamp Wall e = absurd (omega arith)
ground_same Swamp Swamp e = refl

front_same : (a b : ℕ) (more rest : List ℕ) → a ∷ more ≡ b ∷ rest → (a ≡ b) × (more ≡ rest)
front_same a b more rest e = (cc, cc)

grounds_same : (grounds others : List Ground) → map ground_digit grounds ≡ map ground_digit others → grounds ≡ others
grounds_same [] [] e = refl
grounds_same [] (other ∷ others) e = absurd cc
grounds_same (ground ∷ grounds) [] e = absurd cc
grounds_same (ground ∷ grounds) (other ∷ others) e =
    let parts = front_same (ground_digit ground) (ground_digit other) (map ground_digit grounds) (map ground_digit others) e in
    let first = ground_same ground other parts.0 in
    let later = grounds_same grounds others parts.1 in
    λ i. first i ∷ later i

pub terrain_one : IsOne IsTerrainText
terrain_one value grounds others one other = grounds_same grounds others (one_text _ _ (sym one.0 ∙ other.0))

pub token_one : IsOne IsTokenText
token_one value token other one two = one_text token other (sym one.0 ∙ two.0)

digit_same : (n m : ℕ) → n < 16 → m < 16 → hex_digit n ≡ hex_digit m → n ≡ m
digit_same n m low below e = grind (arith, nat_tests)

hex_same : (bytes others : List ℕ) → AllByRecursion (λ byte. byte < 2 ^ 8) bytes → AllByRecursion (λ byte. byte < 2 ^ 8) others → hex bytes ≡ hex others → bytes ≡ others
hex_same [] [] small low e = refl
hex_same [] (other ∷ others) small low e = absurd cc
hex_same (byte ∷ bytes) [] small low e = absurd cc
hex_same (byte ∷ bytes) (other ∷ others) small low e =
    let head = front_same _ _ (hex_digit (byte % 16) ∷ hex bytes) (hex_digit (other % 16) ∷ hex others) e in
    let next = front_same _ _ (hex bytes) (hex others) head.1 in
    let under : byte < 2 ^ 8 = small.0 in
    let below : other < 2 ^ 8 = low.0 in
    let high : byte / 16 ≡ other / 16 = digit_same (byte / 16) (other / 16) (omega arith) (omega arith) head.0 in
    let back : byte % 16 ≡ other % 16 = digit_same (byte % 16) (other % 16) (omega arith) (omega arith) next.0 in
    let first : byte ≡ other = omega arith in
    let later = hex_same bytes others small.1 low.1 next.1 in
    λ i. first i ∷ later i

pub memory_one : IsOne IsMemoryText
memory_one value bytes others one other = hex_same bytes others one.2 other.2 (one_text _ _ (sym one.0 ∙ other.0))

-- ---- keys

pub required_one : {A : Type 0} (field : Field) (Form : Data → A → Type 0) → IsOne Form → IsOne (Requires field Form)
required_one field Form one part said other here there =
    let same : there.0 ≡ here.0 = one_some (get (key field) part) there.0 here.0 there.1 here.1 in
    one here.0 said other here.2 (subst (λ value. Form value other) same there.2)

pub default_one : {A : Type 0} (field : Field) (Form : Data → A → Type 0) → IsOne Form → (default instead : A) → default ≡ instead
    → (part : Data) (said other : A) → Defaults field Form default part said → Defaults field Form instead part other → said ≡ other
default_one field Form one default instead same part said other (inl here) (inl there) = required_one field Form one part said other here there
default_one field Form one default instead same part said other (inl here) (inr there) = absurd (some_none _ here.0 here.1 there.0)
default_one field Form one default instead same part said other (inr here) (inl there) = absurd (some_none _ there.0 there.1 here.0)
default_one field Form one default instead same part said other (inr here) (inr there) = here.1 ∙ same ∙ sym there.1

-- ---- lists

pub each_one : {A : Type 0} (Says : Data → A → Type 0) → IsOne Says → (values : Items) (list others : List A) → SayEach Says values list → SayEach Says values others → list ≡ others
each_one Says one no_items [] [] here there = refl
each_one Says one no_items [] (other ∷ others) here there = absurd there
each_one Says one no_items (said ∷ list) others here there = absurd here
each_one Says one (item value values) [] others here there = absurd here
each_one Says one (item value values) (said ∷ list) [] here there = absurd there
each_one Says one (item value values) (said ∷ list) (other ∷ others) here there =
    let first = one value said other here.0 there.0 in
    let later = each_one Says one values list others here.1 there.1 in
    λ i. first i ∷ later i

pub list_of_one : {A : Type 0} (Says : Data → A → Type 0) → IsOne Says → IsOne (IsListOf Says)
list_of_one Says one value list others here there =
    let same : there.0 ≡ here.0 = one_array there.0 here.0 (sym there.1 ∙ here.1) in
    each_one Says one here.0 list others here.2 (subst (λ values. SayEach Says values others) same there.2)
