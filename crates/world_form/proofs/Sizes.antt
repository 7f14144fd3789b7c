-- How long the compact text of a legible value is at most.
use Rattle.std.proofs.Common.{ℕ, ◌+◌, ◌*◌, ◌^◌, ◌<◌, ◌≤◌, Bool, true, false, List, [], ◌∷◌, ◌++◌, length, map, arith, length-append}
use Rattle.std.specs.List.{AllByRecursion}
use Rattle.std.proofs.lemmas.Fmt.{length-decimal-le}
use Rattle.json.specs.Print.{quoted}
use Rattle.serde_json.specs.Data.{unsigned, negative, float, Data, null, boolean, number, string, array, object, Items, no_items, item, Members, no_members, member}
use Rattle.serde_json.specs.View.{items_of}
use Rattle.serde_json.specs.Written.{comma_if, compact_text, items_text, members_text}
use Rattle.world_form.proofs.Clear.{length-clear}
use Rattle.world_form.proofs.Legible.{IsLegible, AreLegible, HasLegible}

-- a number has 20 digits at most, and each value and member has a comma
abbrev mutual
  pub size : Data → ℕ
  size null = 4
  size (boolean b) = 5
  size (number n) = 20
  size (string text) = length text + 2
  size (array values) = 2 + items_size values
  size (object members) = 2 + members_size members

  pub items_size : Items → ℕ
  items_size no_items = 0
  items_size (item value values) = 1 + size value + items_size values

  pub members_size : Members → ℕ
  members_size no_members = 0
  members_size (member key value members) = 4 + length key + size value + members_size members

comma_short : (later : Bool) → length (comma_if later) ≤ 1
comma_short true = omega arith
comma_short false = omega arith

mutual
  text_short : (value : Data) → IsLegible value → length (compact_text value) ≤ size value
  text_short null legible = omega arith
  text_short (boolean b) legible = absurd legible
  text_short (number (unsigned n)) legible = length-decimal-le 20 n (omega arith) (let low : n < 2 ^ 64 = legible in omega arith) legible
  text_short (number (negative z)) legible = absurd legible
  text_short (number (float x)) legible = absurd legible
  text_short (string text) legible = omega (arith, length-clear text legible)
  text_short (array values) legible = let short = items_short false values legible in omega arith
  text_short (object members) legible = let short = members_short false members legible.0 in omega arith

  items_short : (later : Bool) (values : Items) → AreLegible values → length (items_text later values) ≤ 1 + items_size values
  items_short later no_items legible = omega arith
  items_short later (item value values) legible =
      let comma = comma_short later in
      let here = text_short value legible.0 in
      let more = items_short true values legible.1 in
      let front = length-append (comma_if later) (compact_text value ++ items_text true values) in
      let back = length-append (compact_text value) (items_text true values) in
      omega arith

  members_short : (later : Bool) (members : Members) → HasLegible members → length (members_text later members) ≤ 1 + members_size members
  members_short later no_members legible = omega arith
  members_short later (member key value members) legible =
      let comma = comma_short later in
      let named = length-clear key legible.0 in
      let here = text_short value legible.1 in
      let more = members_short true members legible.2 in
      let front = length-append (comma_if later) (quoted key ++ 58 ∷ (compact_text value ++ members_text true members)) in
      let middle = length-append (quoted key) (58 ∷ (compact_text value ++ members_text true members)) in
      let back = length-append (compact_text value) (members_text true members) in
      omega arith

pub length-compact_text : (value : Data) → IsLegible value → length (compact_text value) ≤ size value
length-compact_text = text_short

-- ---- lists

pub list_short : {A : Type 0} (P : A → Type 0) (data_of : A → Data) (most : ℕ) → ((x : A) → P x → size (data_of x) ≤ most) → (xs : List A) → AllByRecursion P xs → items_size (items_of (map data_of xs)) ≤ (1 + most) * length xs
list_short P data_of most short [] all = omega arith
list_short P data_of most short (x ∷ xs) all =
    let here = short x all.0 in
    let rest = list_short P data_of most short xs all.1 in
    omega arith
