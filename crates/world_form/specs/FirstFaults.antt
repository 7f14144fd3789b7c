-- The first fault of a world file, from the top down: the checks of its keys, in their order.
use Rattle.std.specs.Prelude.{◌≡◌, ℕ, suc, ◌-◌, ◌^◌, ◌⊎◌, true, false, List, [], ◌∷◌, ◌++◌, Option, Some}
use Rattle.std.specs.Prelude.{None, option_and_then}
use Rattle.serde_json.specs.Data.{Data, Items, no_items, item}
use Rattle.serde_json.specs.Find.{get, as_array}
use Rattle.game_tables.specs.declared.kind.Kind.{Kind}
use Rattle.game_tables.specs.Kinds.{is_in_rules}
use Rattle.game_tables.specs.Limits.{most_limit, most_bucket, most_points}
use Rattle.world_form.specs.declared.fault.WorldFault.{WorldFault}
use Rattle.world_form.specs.declared.fault.WorldFault.TheVariants.{Missing, BadValue, NotBuilt}
use Rattle.world_form.specs.declared.field.Field.{Field}
use Rattle.world_form.specs.declared.field.Field.TheVariants as fields
use Rattle.world_form.specs.Facts.{Requires, IsWhole, IsWhole32, IsWhole53, IsList, IsKindText, IsBodyList}
use Rattle.world_form.specs.Facts.{IsNameText, IsTerrainText, IsTokenText, IsMemoryText}
use Rattle.world_form.specs.Keys.{key}

-- a check of a part of the file: that it holds, or with which fault it fails
pub record Check : Type 1 where
  pub Holds : Type 0
  pub Fails : WorldFault → Type 0

-- Of checks in their order this is the fault of the first that fails.
abbrev pub IsFirst : List Check → WorldFault → Type 0
IsFirst [] fault = ⊥
IsFirst (check ∷ later) fault = check.Fails fault ⊎ (check.Holds × IsFirst later fault)

-- All checks hold.
abbrev pub AllHold : List Check → Type 0
AllHold [] = Unit {0}
AllHold (check ∷ later) = check.Holds × AllHold later

-- ---- keys

-- The key is absent.
abbrev pub IsAbsent : Field → Data → Type 0
IsAbsent field part = get (key field) part ≡ None

-- The key's value has the form, whatever it says.
abbrev pub IsFormed : {A : Type 0} → Field → (Data → A → Type 0) → Data → Type 0
IsFormed {A} field Form part = (said : A) × Requires field Form part said

-- The key has a value that is not of the form.
abbrev pub IsMalformed : {A : Type 0} → Field → (Data → A → Type 0) → Data → Type 0
IsMalformed {A} field Form part =
    (value : Data) × (get (key field) part ≡ Some value) × ((said : A) → Form value said → ⊥)

-- a key that must be there, of the part at this place of its list
abbrev pub required : {A : Type 0} → Field → (Data → A → Type 0) → ℕ → Data → Check
required field Form place part = record {
  Holds = IsFormed field Form part;
  Fails =
      λ fault. (IsAbsent field part × (fault ≡ Missing field))
      ⊎ (IsMalformed field Form part × (fault ≡ BadValue field place));
}

-- a key that may be absent
abbrev pub optional : {A : Type 0} → Field → (Data → A → Type 0) → ℕ → Data → Check
optional field Form place part = record {
  Holds = IsFormed field Form part ⊎ IsAbsent field part;
  Fails = λ fault. IsMalformed field Form part × (fault ≡ BadValue field place);
}

-- the kind is one of the rules in force
abbrev pub known_kind : Data → Check
known_kind part = record {
  Holds = (kind : Kind) × Requires fields.Kind IsKindText part kind × (is_in_rules kind 1 ≡ true);
  Fails =
      λ fault. (kind : Kind) × Requires fields.Kind IsKindText part kind × (is_in_rules kind 1 ≡ false)
      × (fault ≡ NotBuilt kind);
}

-- ---- parts, each at its place in its own list, from 0 on

-- the checks of each value of a list, from a place on
abbrev pub each_from : (ℕ → Data → List Check) → ℕ → Items → List Check
each_from checks place no_items = []
each_from checks place (item value values) = checks place value ++ each_from checks (suc place) values

-- the values of the list at a key, and none where there is no list
abbrev pub values_of : Option Items → Items
values_of (Some values) = values
values_of None = no_items

abbrev pub values_at : Field → Data → Items
values_at field part = values_of (option_and_then as_array (get (key field) part))

abbrev pub object_checks : ℕ → Data → List Check
object_checks place part =
    required fields.Id (IsWhole 1 (2 ^ 53)) place part
    ∷ required fields.Kind IsKindText place part
    ∷ known_kind part
    ∷ required fields.X (IsWhole 0 49) place part
    ∷ required fields.Y (IsWhole 0 49) place part
    ∷ optional fields.Owner IsWhole32 place part
    ∷ optional fields.Body IsBodyList place part
    ∷ optional fields.Hits IsWhole32 place part
    ∷ optional fields.Energy IsWhole53 place part
    ∷ optional fields.Timer IsWhole32 place part
    ∷ optional fields.Extra IsWhole32 place part
    ∷ optional fields.Progress IsWhole53 place part
    ∷ optional fields.Other IsWhole32 place part
    ∷ optional fields.OtherTicks IsWhole32 place part
    ∷ []

-- A room's own keys come before those of its objects.
abbrev pub room_checks : ℕ → Data → List Check
room_checks place part =
    required fields.Name IsNameText place part
    ∷ required fields.Terrain IsTerrainText place part
    ∷ required fields.Next (IsWhole 1 (2 ^ 32 - 1)) place part
    ∷ required fields.Objects IsList place part
    ∷ each_from object_checks 0 (values_at fields.Objects part)

abbrev pub player_checks : ℕ → Data → List Check
player_checks place part =
    required fields.Player (IsWhole 1 (2 ^ 32 - 1)) place part
    ∷ optional fields.Token IsTokenText place part
    ∷ required fields.Limit (IsWhole 0 most_limit) place part
    ∷ optional fields.Bucket (IsWhole 0 most_bucket) place part
    ∷ optional fields.Points (IsWhole 0 most_points) place part
    ∷ optional fields.Memory IsMemoryText place part
    ∷ []

-- The players are looked at after all rooms.
abbrev pub world_checks : Data → List Check
world_checks part =
    required fields.Version (IsWhole 1 1) 0 part
    ∷ required fields.Tick IsWhole53 0 part
    ∷ required fields.Rooms IsList 0 part
    ∷ each_from room_checks 0 (values_at fields.Rooms part)
    ++ optional fields.Players IsList 0 part
    ∷ each_from player_checks 0 (values_at fields.Players part)
