-- Where not all checks of a world file hold, one fails; and it fails with a fault of a key.
use Rattle.std.proofs.Common.{◌≡◌, ℕ, Bool, true, false, [], ◌∷◌, Option, Some, None, refl, sym, subst, inl, inr}
use Rattle.std.specs.Prelude.{⊤}
use Rattle.serde_json.specs.Data.{Data}
use Rattle.serde_json.specs.Find.{get}
use Rattle.game_tables.specs.Kinds.{is_in_rules}
use Rattle.world_form.specs.declared.fault.WorldFault.{WorldFault}
use Rattle.world_form.specs.declared.fault.WorldFault.TheVariants as faults
use Rattle.world_form.specs.declared.field.Field.{Field}
use Rattle.world_form.specs.declared.field.Field.TheVariants as fields
use Rattle.world_form.specs.Keys.{key}
use Rattle.world_form.specs.Facts.{IsKindText}
use Rattle.world_form.specs.FirstFaults.{Check, IsFirst, AllHold, IsFormed, required, optional, known_kind, world_checks}
use Rattle.world_form.proofs.Checks.{AllOf, all_of_append, first_such, IsDecided, AreDecided, decided_append, some_first}
use Rattle.world_form.proofs.EachCheck.{IsOfKinds, world_such}

-- ---- faults of keys

abbrev pub IsOfKey : WorldFault → Type 0
IsOfKey faults.TooLong = ⊥
IsOfKey faults.NotJson = ⊥
IsOfKey (faults.Missing field) = ⊤
IsOfKey (faults.BadValue field place) = ⊤
IsOfKey (faults.NotBuilt kind) = ⊤
IsOfKey (faults.Rule rule n) = ⊥
IsOfKey faults.Memory = ⊥

abbrev FailsOfKey : Check → Type 0
FailsOfKey check = (fault : WorldFault) → check.Fails fault → IsOfKey fault

required_of_key : {A : Type 0} (field : Field) (Form : Data → A → Type 0) (place : ℕ) (part : Data) → FailsOfKey (required field Form place part)
required_of_key field Form place part fault fails = elim fails [ inl here ↦ subst IsOfKey (sym here.1) tt | inr here ↦ subst IsOfKey (sym here.1) tt ]

optional_of_key : {A : Type 0} (field : Field) (Form : Data → A → Type 0) (place : ℕ) (part : Data) → FailsOfKey (optional field Form place part)
optional_of_key field Form place part fault fails = subst IsOfKey (sym fails.1) tt

known_kind_of_key : (part : Data) → FailsOfKey (known_kind part)
known_kind_of_key part fault fails = subst IsOfKey (sym fails.3) tt

all_of_keys : IsOfKinds (AllOf FailsOfKey)
all_of_keys = record {
  nothing = tt;
  joined = all_of_append FailsOfKey;
  of_required = λ A field Form place part. (required_of_key field Form place part, tt);
  of_optional = λ A field Form place part. (optional_of_key field Form place part, tt);
  of_kind = λ place part. (required_of_key fields.Kind IsKindText place part, (known_kind_of_key part, tt));
}

pub first_of_key : (part : Data) (fault : WorldFault) → IsFirst (world_checks part) fault → IsOfKey fault
first_of_key part fault = first_such IsOfKey (world_checks part) fault (world_such (AllOf FailsOfKey) all_of_keys part)

-- ---- a check holds or fails

required_at : {A : Type 0} (field : Field) (Form : Data → A → Type 0) (place : ℕ) (part : Data) (found : Option Data) → get (key field) part ≡ found → IsDecided (required field Form place part)
required_at field Form place part None absent = λ not none. none (faults.Missing field) (inl (absent, refl))
required_at field Form place part (Some value) there = λ not none. none (faults.BadValue field place) (inr ((value, there, λ said form. not (said, (value, there, form))), refl))

required_decided : {A : Type 0} (field : Field) (Form : Data → A → Type 0) (place : ℕ) (part : Data) → IsDecided (required field Form place part)
required_decided field Form place part = required_at field Form place part (get (key field) part) refl

optional_at : {A : Type 0} (field : Field) (Form : Data → A → Type 0) (place : ℕ) (part : Data) (found : Option Data) → get (key field) part ≡ found → IsDecided (optional field Form place part)
optional_at field Form place part None absent = λ not none. not (inr absent)
optional_at field Form place part (Some value) there = λ not none. none (faults.BadValue field place) ((value, there, λ said form. not (inl (said, (value, there, form)))), refl)

optional_decided : {A : Type 0} (field : Field) (Form : Data → A → Type 0) (place : ℕ) (part : Data) → IsDecided (optional field Form place part)
optional_decided field Form place part = optional_at field Form place part (get (key field) part) refl

known_at : (part : Data) (formed : IsFormed fields.Kind IsKindText part) (known : Bool) → is_in_rules formed.0 1 ≡ known → IsDecided (known_kind part)
known_at part formed true known = λ not none. not (formed.0, formed.1, known)
known_at part formed false unknown = λ not none. none (faults.NotBuilt formed.0) (formed.0, formed.1, unknown, refl)

kind_decided : (place : ℕ) (part : Data) → AreDecided (required fields.Kind IsKindText place part ∷ known_kind part ∷ [])
kind_decided place part = (required_decided fields.Kind IsKindText place part, λ formed. (known_at part formed (is_in_rules formed.0 1) refl, λ _. tt))

of_kinds : IsOfKinds AreDecided
of_kinds = record {
  nothing = tt;
  joined = decided_append;
  of_required = λ A field Form place part. (required_decided field Form place part, λ _. tt);
  of_optional = λ A field Form place part. (optional_decided field Form place part, λ _. tt);
  of_kind = kind_decided;
}

-- where not all checks of a value hold, it has a first fault
pub some_key_fault : (part : Data) → (AllHold (world_checks part) → ⊥) → ((fault : WorldFault) → IsFirst (world_checks part) fault → ⊥) → ⊥
some_key_fault part = some_first (world_checks part) (world_such AreDecided of_kinds part)
