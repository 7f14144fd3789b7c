-- A value of whole numbers, clear texts, lists and objects with their keys in order is read back from its compact text.
use Rattle.std.proofs.Common.{◌≡◌, ℕ, suc, ◌^◌, ◌<◌, ◌≤◌, max, ◌&&◌, Bool, true, false, List, [], ◌∷◌, decimal, IsUtf8, Some, option_map, option_and_then, Ordering, Less, Equal, Greater, refl, sym, ap, ap₂, ◌∙◌, append-nil, arith}
use Rattle.std.specs.Prelude.{⊤}
use Rattle.std.specs.Ordering.{nat_cmp, match_ordering}
use Rattle.std.specs.Cmp.Lexicographic.{slice_cmp}
use Rattle.std.proofs.lemmas.Bool.{and_parts, and_from}
use Rattle.std.proofs.lemmas.Fmt.{IsAscii-decimal}
use Rattle.std.proofs.lemmas.Str.{IsUtf8-append, IsUtf8-from_ascii}
use Rattle.json.specs.Lex.{tokens}
use Rattle.json.specs.Print.{quoted}
use Rattle.json.specs.Json as json
use Rattle.json.specs.Tree as tree
use Rattle.json.proofs.Printed.Decimals.{IsNumber-decimal}
use Rattle.json.proofs.Printed.Trees.{ArePrintable-json_tokens, value-json_tokens}
use Rattle.json.proofs.Printed.Tokens.{tokens-print}
use Rattle.json.proofs.Printed.Utf8.{are_ascii, IsUtf8-are_ascii}
use Rattle.serde_json.specs.Data.{Num, unsigned, negative, float, Data, null, boolean, number, string, array, object, Items, no_items, item, Members, no_members, member, put, depth, items_depth, members_depth}
use Rattle.serde_json.specs.Read.{of_json, of_items, of_members, max_depth, read}
use Rattle.serde_json.specs.Written.{outline, items_outline, members_outline, comma_if, compact_text, items_text, members_text}
use Rattle.serde_json.proofs.Numbers.{number_of-decimal}
use Rattle.serde_json.proofs.Texts.{print-outline}
use Rattle.world_form.proofs.Clear.{is_clear, IsUtf8-clear}

-- ---- keys in order

abbrev pub is_greater : Ordering → Bool
is_greater Less = false
is_greater Equal = false
is_greater Greater = true

-- the key comes before all of these
abbrev pub before_all : List ℕ → Members → Bool
before_all key no_members = true
before_all key (member other value members) = is_greater (slice_cmp nat_cmp other key) && before_all key members

abbrev pub is_rising : Members → Bool
is_rising no_members = true
is_rising (member key value members) = before_all key members && is_rising members

-- ---- legible values

abbrev pub IsLegibleNumber : Num → Type 0
IsLegibleNumber (unsigned n) = n < 2 ^ 64
IsLegibleNumber (negative z) = ⊥
IsLegibleNumber (float x) = ⊥

abbrev mutual
  pub IsLegible : Data → Type 0
  IsLegible null = ⊤
  IsLegible (boolean b) = ⊥
  IsLegible (number n) = IsLegibleNumber n
  IsLegible (string text) = is_clear text ≡ true
  IsLegible (array values) = AreLegible values
  IsLegible (object members) = HasLegible members × (is_rising members ≡ true)

  pub AreLegible : Items → Type 0
  AreLegible no_items = ⊤
  AreLegible (item value values) = IsLegible value × AreLegible values

  pub HasLegible : Members → Type 0
  HasLegible no_members = ⊤
  HasLegible (member key value members) = (is_clear key ≡ true) × IsLegible value × HasLegible members

-- ---- as JSON: its numbers, its depth, and what it is read as

mutual
  has_numbers : (value : Data) → IsLegible value → tree.HasNumbers (outline value)
  has_numbers null legible = tt
  has_numbers (boolean b) legible = absurd legible
  has_numbers (number (unsigned n)) legible = IsNumber-decimal n legible
  has_numbers (number (negative z)) legible = absurd legible
  has_numbers (number (float x)) legible = absurd legible
  has_numbers (string text) legible = tt
  has_numbers (array values) legible = items_have_numbers values legible
  has_numbers (object members) legible = members_have_numbers members legible.0

  items_have_numbers : (values : Items) → AreLegible values → tree.ItemsHaveNumbers (items_outline values)
  items_have_numbers no_items legible = tt
  items_have_numbers (item value values) legible = (has_numbers value legible.0, items_have_numbers values legible.1)

  members_have_numbers : (members : Members) → HasLegible members → tree.MembersHaveNumbers (members_outline members)
  members_have_numbers no_members legible = tt
  members_have_numbers (member key value members) legible = (has_numbers value legible.1, members_have_numbers members legible.2)

mutual
  depth_outline : (value : Data) → tree.depth (outline value) ≡ depth value
  depth_outline null = refl
  depth_outline (boolean b) = refl
  depth_outline (number n) = refl
  depth_outline (string text) = refl
  depth_outline (array values) = ap suc (items_depth_outline values)
  depth_outline (object members) = ap suc (members_depth_outline members)

  items_depth_outline : (values : Items) → tree.items_depth (items_outline values) ≡ items_depth values
  items_depth_outline no_items = refl
  items_depth_outline (item value values) = ap₂ max (depth_outline value) (items_depth_outline values)

  members_depth_outline : (members : Members) → tree.members_depth (members_outline members) ≡ members_depth members
  members_depth_outline no_members = refl
  members_depth_outline (member key value members) = ap₂ max (depth_outline value) (members_depth_outline members)

-- these members, and then those
abbrev joined : Members → Members → Members
joined no_members later = later
joined (member key value members) later = member key value (joined members later)

-- the keys of the first come before those of the second
abbrev all_before : Members → Members → Bool
all_before no_members later = true
all_before (member key value members) later = before_all key later && all_before members later

greater_is : (order : Ordering) → is_greater order ≡ true → order ≡ Greater
greater_is Less greater = absurd cc
greater_is Equal greater = absurd cc
greater_is Greater greater = refl

put_last : (found : Members) (key : List ℕ) (value : Data) (later : Members) → all_before found (member key value later) ≡ true → put key value found ≡ joined found (member key value no_members)
put_last no_members key value later before = refl
put_last (member other said found) key value later before =
    let both = and_parts (before_all other (member key value later)) (all_before found (member key value later)) before in
    let order = greater_is (slice_cmp nat_cmp key other) (and_parts (is_greater (slice_cmp nat_cmp key other)) (before_all other later) both.0).0 in
    ap (λ order. match_ordering order (member key value (member other said found)) (member other value found) (member other said (put key value found))) order
    ∙ ap (member other said) (put_last found key value later both.1)

before_more : (found : Members) (key : List ℕ) (value : Data) (later : Members) → before_all key later ≡ true → all_before found (member key value later) ≡ true → all_before (joined found (member key value no_members)) later ≡ true
before_more no_members key value later rises before = and_from _ _ rises refl
before_more (member other said found) key value later rises before =
    let both = and_parts (before_all other (member key value later)) (all_before found (member key value later)) before in
    let here = and_parts (is_greater (slice_cmp nat_cmp key other)) (before_all other later) both.0 in
    and_from _ _ here.1 (before_more found key value later rises both.1)

joined_more : (found : Members) (key : List ℕ) (value : Data) (later : Members) → joined (joined found (member key value no_members)) later ≡ joined found (member key value later)
joined_more no_members key value later = refl
joined_more (member other said found) key value later = ap (member other said) (joined_more found key value later)

joined_none : (found : Members) → joined found no_members ≡ found
joined_none no_members = refl
joined_none (member other said found) = ap (member other said) (joined_none found)

mutual
  back : (value : Data) → IsLegible value → of_json (outline value) ≡ Some value
  back null legible = refl
  back (boolean b) legible = absurd legible
  back (number (unsigned n)) legible = ap (option_map number) (number_of-decimal n legible)
  back (number (negative z)) legible = absurd legible
  back (number (float x)) legible = absurd legible
  back (string text) legible = refl
  back (array values) legible = ap (option_map array) (items_back values legible)
  back (object members) legible = ap (option_map object) (members_back members no_members legible.0 legible.1 refl)

  items_back : (values : Items) → AreLegible values → of_items (items_outline values) ≡ Some values
  items_back no_items legible = refl
  items_back (item value values) legible =
      ap (option_and_then (λ said. option_map (item said) (of_items (items_outline values)))) (back value legible.0) ∙ ap (option_map (item value)) (items_back values legible.1)

  members_back : (members found : Members) → HasLegible members → is_rising members ≡ true → all_before found members ≡ true → of_members (members_outline members) found ≡ Some (joined found members)
  members_back no_members found legible rises before = ap Some (sym (joined_none found))
  members_back (member key value members) found legible rises before =
      let both = and_parts (before_all key members) (is_rising members) rises in
      ap (option_and_then (λ said. of_members (members_outline members) (put key said found))) (back value legible.1)
      ∙ ap (of_members (members_outline members)) (put_last found key value members before)
      ∙ members_back members (joined found (member key value no_members)) legible.2 both.1 (before_more found key value members both.0 before)
      ∙ ap Some (joined_more found key value members)

-- ---- its text

comma_utf8 : (later : Bool) → IsUtf8 (comma_if later)
comma_utf8 true = IsUtf8-are_ascii (44 ∷ []) refl
comma_utf8 false = IsUtf8-are_ascii [] refl

after : (byte : ℕ) (text : List ℕ) → are_ascii (byte ∷ []) ≡ true → IsUtf8 text → IsUtf8 (byte ∷ text)
after byte text low utf8 = IsUtf8-append (byte ∷ []) text (IsUtf8-are_ascii (byte ∷ []) low) utf8

mutual
  text_utf8 : (value : Data) → IsLegible value → IsUtf8 (compact_text value)
  text_utf8 null legible = IsUtf8-are_ascii _ refl
  text_utf8 (boolean b) legible = absurd legible
  text_utf8 (number (unsigned n)) legible = IsUtf8-from_ascii (decimal n) (IsAscii-decimal n legible)
  text_utf8 (number (negative z)) legible = absurd legible
  text_utf8 (number (float x)) legible = absurd legible
  text_utf8 (string text) legible = IsUtf8-clear text legible
  text_utf8 (array values) legible = after 91 (items_text false values) refl (items_utf8 false values legible)
  text_utf8 (object members) legible = after 123 (members_text false members) refl (members_utf8 false members legible.0)

  items_utf8 : (later : Bool) (values : Items) → AreLegible values → IsUtf8 (items_text later values)
  items_utf8 later no_items legible = IsUtf8-are_ascii (93 ∷ []) refl
  items_utf8 later (item value values) legible =
      IsUtf8-append (comma_if later) _ (comma_utf8 later) (IsUtf8-append (compact_text value) (items_text true values) (text_utf8 value legible.0) (items_utf8 true values legible.1))

  members_utf8 : (later : Bool) (members : Members) → HasLegible members → IsUtf8 (members_text later members)
  members_utf8 later no_members legible = IsUtf8-are_ascii (125 ∷ []) refl
  members_utf8 later (member key value members) legible =
      IsUtf8-append (comma_if later) _ (comma_utf8 later)
      (IsUtf8-append (quoted key) _ (IsUtf8-clear key legible.0)
      (after 58 _ refl (IsUtf8-append (compact_text value) (members_text true members) (text_utf8 value legible.1) (members_utf8 true members legible.2))))

pub legible_utf8 : (value : Data) → IsLegible value → IsUtf8 (compact_text value)
legible_utf8 = text_utf8

-- the grammar of tokens reads its text as JSON
as_json : (value : Data) → IsLegible value → depth value ≤ max_depth → option_and_then (λ p. json.if_last p.0 p.1) (json.value max_depth (tokens (compact_text value))) ≡ Some (outline value)
as_json value legible shallow =
    let j = outline value in
    let low : tree.depth j ≤ max_depth = omega (arith, depth_outline value) in
    ap (λ text. option_and_then (λ p. json.if_last p.0 p.1) (json.value max_depth (tokens text))) (sym (print-outline value))
    ∙ ap (option_and_then (λ p. json.if_last p.0 p.1))
    (ap (json.value max_depth) (tokens-print (tree.json_tokens j) (ArePrintable-json_tokens j (has_numbers value legible)) ∙ sym (append-nil (tree.json_tokens j)))
    ∙ value-json_tokens j max_depth [] low)

pub legible_read : (value : Data) → IsLegible value → depth value ≤ max_depth → read (compact_text value) ≡ Some value
legible_read value legible shallow = ap (option_and_then of_json) (as_json value legible shallow) ∙ back value legible
