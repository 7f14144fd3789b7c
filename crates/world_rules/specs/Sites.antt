-- Sites that players make and remove.
use Rattle.std.specs.Prelude.{ℕ, ◌+◌, ◌/◌, ◌%◌, ◌==◌, ◌&&◌, ◌||◌, not, Bool, false, nat_lt, nat_le}
use Rattle.std.specs.Prelude.{if◌then◌else◌, List, [], ◌∷◌, ◌++◌, slice_get, Option, Some, None}
use Rattle.std.specs.List.{count_by, find}
use Rattle.std.specs.Option.{is_some}
use Rattle.std.specs.FinMap.{values}
use Rattle.game_tables.specs.Kinds.{is_site, needs_owned_room, obstructs}
use Rattle.game_tables.specs.Levels.{allowed}
use Rattle.game_tables.specs.Limits.{most_sites}
use Rattle.game_tables.specs.Numbers.{kind_number}
use Rattle.game_tables.specs.declared.code.Code.TheVariants.{NotOwner, NotFound, InvalidTarget, Full}
use Rattle.game_tables.specs.declared.code.Code.TheVariants.{InvalidArgs, RoomLevelNotEnough}
use Rattle.game_tables.specs.declared.kind.Kind.{Kind}
use Rattle.game_tables.specs.declared.kind.Kind.TheVariants.{Creep, Site}
use Rattle.room_terrain.specs.Tiles.{tile}
use Rattle.room_terrain.specs.declared.terrain.Ground.{Ground}
use Rattle.room_table.specs.Controllers.{controller_among, is_anothers, level_of}
use Rattle.room_table.specs.Stores.{site_kinds}
use Rattle.room_table.specs.Tables.{first_on, is_site_free}
use Rattle.room_table.specs.declared.object.Object.{Object}
use Rattle.intent_book.specs.declared.intent.Intent.{Intent}
use Rattle.world_rules.specs.World.{Placed}
use Rattle.world_rules.specs.RoomParts.{RoomPart}
use Rattle.world_rules.specs.Changes.{with_new, without}
use Rattle.world_rules.specs.Checks.{Check, all_hold, holds_of, standing_at}
use Rattle.world_rules.specs.Moves.{is_open_ground}
use Rattle.world_rules.specs.Sights.{is_visible}

-- ---- what the checks of a new site read

-- The player, the tile and the number of the kind of the building; the grounds of the room, and all that
-- stands in it, by rising id; how many entries of the player are for sites of that kind on other tiles of the
-- room; and how many sites he has in the world, with those that his entries for other tiles are for.
pub record Plan : Type 0 where
  pub player : ℕ
  pub x : ℕ
  pub y : ℕ
  pub number : ℕ
  pub grounds : List Ground
  pub around : List Object
  pub recorded : ℕ
  pub sites : ℕ

-- the kind of the building
abbrev pub planned_kind : Plan → Option Kind
planned_kind plan = find (λ kind. kind_number kind == plan.number) site_kinds

-- This holds of the kind of the building.
abbrev pub of_kind : (Kind → Bool) → Option Kind → Bool
of_kind test None = false
of_kind test (Some kind) = test kind

-- A coordinate of a tile that is not at the border.
abbrev pub is_inner : ℕ → Bool
is_inner z = nat_le 1 z && nat_le z 48

-- the number of the kind that an object is, or that a site is for
abbrev pub counted_number : Object → ℕ
counted_number object = if is_site object.kind then object.extra else kind_number object.kind

-- how many buildings and sites of a kind there are
abbrev pub count_of : ℕ → List Object → ℕ
count_of number objects = count_by (λ object. counted_number object == number) objects

-- The player owns the room's controller.
abbrev pub is_owners : ℕ → Option Object → Bool
is_owners player None = false
is_owners player (Some controller) = controller.owner == player

-- The room has fewer of the kind than its level allows.
abbrev pub has_place : Plan → Kind → Bool
has_place plan kind =
    nat_lt (count_of plan.number plan.around + plan.recorded)
    (allowed kind (level_of (controller_among plan.around)))

-- The tile is no wall, and no source, controller, building or site stands there.
abbrev pub is_free_tile : Plan → Kind → Bool
is_free_tile plan kind =
    is_open_ground (slice_get plan.grounds (tile plan.x plan.y))
    && is_site_free plan.x plan.y kind plan.around

-- A creep stands on the tile.
abbrev pub has_creep : Plan → Bool
has_creep plan = is_some (first_on plan.x plan.y Creep plan.around)

-- ---- the checks

-- The tile and the kind are such, and the room is one for it.
abbrev pub room_checks : Plan → Option Kind → List Check
room_checks plan kind =
    let controller : Option Object = controller_among plan.around in
    (is_inner plan.x && is_inner plan.y && is_some kind, InvalidArgs)
    ∷ (not (is_anothers plan.player controller), NotOwner)
    ∷ (not (of_kind needs_owned_room kind) || is_owners plan.player controller, RoomLevelNotEnough)
    ∷ (of_kind (has_place plan) kind, RoomLevelNotEnough)
    ∷ []

-- The tile is one for it, and the player has not too many.
abbrev pub tile_checks : Plan → Option Kind → List Check
tile_checks plan kind =
    (of_kind (is_free_tile plan) kind, InvalidTarget)
    ∷ (not (of_kind obstructs kind && has_creep plan), InvalidTarget)
    ∷ (nat_lt plan.sites most_sites, Full)
    ∷ []

abbrev pub site_checks : Plan → List Check
site_checks plan = room_checks plan (planned_kind plan) ++ tile_checks plan (planned_kind plan)

-- The actor is a site, and the player's.
abbrev pub removal_checks : ℕ → Option Placed → List Check
removal_checks player actor =
    (holds_of actor (λ object. is_site object.kind), NotFound)
    ∷ (holds_of actor (λ object. object.owner == player), NotOwner)
    ∷ []

-- ---- the rules

-- The actor of a new site is its tile, and the amount the number of its kind. A rule looks at the room alone.
abbrev pub plan_of : Intent → RoomPart → Plan
plan_of entry part = record {
  player = entry.player;
  x = entry.actor % 50;
  y = entry.actor % 2500 / 50;
  number = entry.amount;
  grounds = part.grounds;
  around = values part.objects;
  recorded = 0;
  sites = 0;
}

-- the site of a plan under an id, with no work in it
abbrev pub site_of : Plan → ℕ → Object
site_of plan id = record {
  id = id;
  kind = Site;
  x = plan.x;
  y = plan.y;
  owner = plan.player;
  hits = 0;
  energy = 0;
  timer = 0;
  extra = plan.number;
  progress = 0;
  other = 0;
  other_ticks = 0;
  body = [];
}

-- The first check of both: the player of the entry sees the room. For an entry of a creep or a spawn this
-- follows, since its actor is the player's; a tile is nobody's, and no site makes a room visible.
abbrev pub sight_check : Intent → RoomPart → Check
sight_check entry part = (is_visible entry.player part, NotFound)

abbrev pub making_checks : Intent → RoomPart → List Check
making_checks entry part = sight_check entry part ∷ site_checks (plan_of entry part)

abbrev pub removing_checks : Intent → RoomPart → List Check
removing_checks entry part =
    sight_check entry part ∷ removal_checks entry.player (standing_at part entry.actor)

abbrev pub site_made : Intent → RoomPart → RoomPart
site_made entry part =
    if all_hold (making_checks entry part) then with_new (site_of (plan_of entry part)) part else part

abbrev pub site_removed : Intent → RoomPart → RoomPart
site_removed entry part =
    if all_hold (removing_checks entry part) then without entry.actor part else part
