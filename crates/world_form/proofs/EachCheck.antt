-- What is true of each kind of check, and of lists joined end to end, is true of the checks of a world file.
use Rattle.std.proofs.Common.{ℕ, suc, ◌-◌, ◌^◌, List, [], ◌∷◌, ◌++◌}
use Rattle.serde_json.specs.Data.{Data, Items, no_items, item}
use Rattle.game_tables.specs.Limits.{most_limit, most_bucket, most_points}
use Rattle.world_form.specs.declared.field.Field.{Field}
use Rattle.world_form.specs.declared.field.Field.TheVariants as fields
use Rattle.world_form.specs.Facts.{IsWhole, IsWhole32, IsWhole53, IsList, IsKindText, IsBodyList, IsNameText, IsTerrainText, IsTokenText, IsMemoryText}
use Rattle.world_form.specs.FirstFaults.{Check, required, optional, known_kind, each_from, values_at, object_checks, room_checks, player_checks, world_checks}

-- Lists of checks are such, by the kinds of checks in them.
pub record IsOfKinds (P : List Check → Type 0) : Type 1 where
  pub nothing : P []
  pub joined : (checks later : List Check) → P checks → P later → P (checks ++ later)
  pub of_required : (A : Type 0) (field : Field) (Form : Data → A → Type 0) (place : ℕ) (part : Data) → P (required field Form place part ∷ [])
  pub of_optional : (A : Type 0) (field : Field) (Form : Data → A → Type 0) (place : ℕ) (part : Data) → P (optional field Form place part ∷ [])
  pub of_kind : (place : ℕ) (part : Data) → P (required fields.Kind IsKindText place part ∷ known_kind part ∷ [])

module _ (P : List Check → Type 0) (is : IsOfKinds P) where
  must : {A : Type 0} (field : Field) (Form : Data → A → Type 0) (place : ℕ) (part : Data) (later : List Check) → P later → P (required field Form place part ∷ later)
  must {A} field Form place part later = is.joined (required field Form place part ∷ []) later (is.of_required A field Form place part)

  may : {A : Type 0} (field : Field) (Form : Data → A → Type 0) (place : ℕ) (part : Data) (later : List Check) → P later → P (optional field Form place part ∷ later)
  may {A} field Form place part later = is.joined (optional field Form place part ∷ []) later (is.of_optional A field Form place part)

  each : (checks : ℕ → Data → List Check) → ((place : ℕ) (value : Data) → P (checks place value)) → (place : ℕ) (values : Items) → P (each_from checks place values)
  each checks one place no_items = is.nothing
  each checks one place (item value values) = is.joined (checks place value) (each_from checks (suc place) values) (one place value) (each checks one (suc place) values)

  object_such : (place : ℕ) (part : Data) → P (object_checks place part)
  object_such place part =
      must fields.Id (IsWhole 1 (2 ^ 53)) place part _
      (is.joined (required fields.Kind IsKindText place part ∷ known_kind part ∷ []) _ (is.of_kind place part)
      (must fields.X (IsWhole 0 49) place part _
      (must fields.Y (IsWhole 0 49) place part _
      (may fields.Owner IsWhole32 place part _
      (may fields.Body IsBodyList place part _
      (may fields.Hits IsWhole32 place part _
      (may fields.Energy IsWhole53 place part _
      (may fields.Timer IsWhole32 place part _
      (may fields.Extra IsWhole32 place part _
      (may fields.Progress IsWhole53 place part _
      (may fields.Other IsWhole32 place part _
      (may fields.OtherTicks IsWhole32 place part _ is.nothing))))))))))))

  room_such : (place : ℕ) (part : Data) → P (room_checks place part)
  room_such place part =
      must fields.Name IsNameText place part _
      (must fields.Terrain IsTerrainText place part _
      (must fields.Next (IsWhole 1 (2 ^ 32 - 1)) place part _
      (must fields.Objects IsList place part _
      (each object_checks object_such 0 (values_at fields.Objects part)))))

  player_such : (place : ℕ) (part : Data) → P (player_checks place part)
  player_such place part =
      must fields.Player (IsWhole 1 (2 ^ 32 - 1)) place part _
      (may fields.Token IsTokenText place part _
      (must fields.Limit (IsWhole 0 most_limit) place part _
      (may fields.Bucket (IsWhole 0 most_bucket) place part _
      (may fields.Points (IsWhole 0 most_points) place part _
      (may fields.Memory IsMemoryText place part _ is.nothing)))))

  pub world_such : (part : Data) → P (world_checks part)
  world_such part =
      must fields.Version (IsWhole 1 1) 0 part _
      (must fields.Tick IsWhole53 0 part _
      (must fields.Rooms IsList 0 part _
      (is.joined (each_from room_checks 0 (values_at fields.Rooms part)) _ (each room_checks room_such 0 (values_at fields.Rooms part))
      (may fields.Players IsList 0 part _
      (each player_checks player_such 0 (values_at fields.Players part))))))
