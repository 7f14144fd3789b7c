-- What the readers of a file's parts give. For private clauses.
use Rattle.std.specs.Prelude.{◌≡◌, ℕ, ◌^◌, true, List, [], ◌∷◌, Option, Some, None}
use Rattle.serde_json.specs.Data.{Data}
use Rattle.game_tables.specs.Kinds.{hits_max, is_in_rules}
use Rattle.game_tables.specs.Limits.{most_limit, most_bucket, most_points}
use Rattle.game_tables.specs.declared.kind.Kind.{Kind}
use Rattle.object_store.specs.declared.account.Account.{Account}
use Rattle.world_form.specs.declared.field.Field.{Field}
use Rattle.world_form.specs.declared.field.Field.TheVariants as fields
use Rattle.world_form.specs.Facts.{Player, Requires, Defaults, IsWhole, IsWhole32, IsWhole53, IsList}
use Rattle.world_form.specs.Facts.{IsKindText, IsBodyList, IsMemoryText}
use Rattle.world_form.specs.FirstFaults.{Check, required, optional, known_kind, each_from, values_at}
use Rattle.world_text.specs.declared.objects.Identity.{Identity}
use Rattle.world_text.specs.declared.objects.Holding.{Holding}
use Rattle.world_text.specs.declared.objects.Counters.{Counters}
use Rattle.world_text.specs.declared.players.PlayerDraft.{PlayerDraft}

-- A reader gave something that the form says, or nothing is said.
abbrev pub Reads : {A : Type 0} → (A → Type 0) → Option A → Type 0
Reads Form (Some said) = Form said
Reads {A} Form None = (said : A) → Form said → ⊥

-- ---- objects, in three groups of keys

pub record SaysIdentity (part : Data) (said : Identity) : Type 0 where
  pub id : Requires fields.Id (IsWhole 1 (2 ^ 53)) part said.id
  pub kind : Requires fields.Kind IsKindText part said.kind
  pub in_rules : is_in_rules said.kind 1 ≡ true
  pub x : Requires fields.X (IsWhole 0 49) part said.x
  pub y : Requires fields.Y (IsWhole 0 49) part said.y

abbrev pub identity_checks : ℕ → Data → List Check
identity_checks place part =
    required fields.Id (IsWhole 1 (2 ^ 53)) place part
    ∷ required fields.Kind IsKindText place part
    ∷ known_kind part
    ∷ required fields.X (IsWhole 0 49) place part
    ∷ required fields.Y (IsWhole 0 49) place part
    ∷ []

-- The hits of an object without the key are the most that the kind and the body allow.
pub record SaysHolding (kind : Kind) (part : Data) (said : Holding) : Type 0 where
  pub owner : Defaults fields.Owner IsWhole32 0 part said.owner
  pub body : Defaults fields.Body IsBodyList [] part said.body
  pub hits : Defaults fields.Hits IsWhole32 (hits_max kind said.body) part said.hits

abbrev pub holding_checks : ℕ → Data → List Check
holding_checks place part =
    optional fields.Owner IsWhole32 place part
    ∷ optional fields.Body IsBodyList place part
    ∷ optional fields.Hits IsWhole32 place part
    ∷ []

pub record SaysCounters (part : Data) (said : Counters) : Type 0 where
  pub energy : Defaults fields.Energy IsWhole53 0 part said.energy
  pub timer : Defaults fields.Timer IsWhole32 0 part said.timer
  pub extra : Defaults fields.Extra IsWhole32 0 part said.extra
  pub progress : Defaults fields.Progress IsWhole53 0 part said.progress
  pub other : Defaults fields.Other IsWhole32 0 part said.other
  pub other_ticks : Defaults fields.OtherTicks IsWhole32 0 part said.other_ticks

abbrev pub counter_checks : ℕ → Data → List Check
counter_checks place part =
    optional fields.Energy IsWhole53 place part
    ∷ optional fields.Timer IsWhole32 place part
    ∷ optional fields.Extra IsWhole32 place part
    ∷ optional fields.Progress IsWhole53 place part
    ∷ optional fields.Other IsWhole32 place part
    ∷ optional fields.OtherTicks IsWhole32 place part
    ∷ []

-- ---- lists

-- the checks of a list that must be there, and of its values
abbrev pub list_checks : Field → (ℕ → Data → List Check) → ℕ → Data → List Check
list_checks field checks place part =
    required field IsList place part ∷ each_from checks 0 (values_at field part)

-- ---- players

abbrev pub player_of : PlayerDraft → Player
player_of draft = record { account = draft.account; token = draft.token }

-- The keys of an account say it, but for that of the player.
pub record SaysAccount (part : Data) (said : Account) : Type 0 where
  pub limit : Requires fields.Limit (IsWhole 0 most_limit) part said.limit
  pub bucket : Defaults fields.Bucket (IsWhole 0 most_bucket) 0 part said.bucket
  pub points : Defaults fields.Points (IsWhole 0 most_points) 0 part said.points
  pub memory : Defaults fields.Memory IsMemoryText [] part said.memory

abbrev pub account_checks : ℕ → Data → List Check
account_checks place part =
    required fields.Limit (IsWhole 0 most_limit) place part
    ∷ optional fields.Bucket (IsWhole 0 most_bucket) place part
    ∷ optional fields.Points (IsWhole 0 most_points) place part
    ∷ optional fields.Memory IsMemoryText place part
    ∷ []
