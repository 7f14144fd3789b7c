-- The rules that a stored world keeps.
use Rattle.std.specs.Prelude.{◌≡◌, ◌≢◌, ℕ, ◌<◌, List, Bool, true, false, Some, slice_get}
use Rattle.std.specs.List.{AllByRecursion, count_by}
use Rattle.game_tables.specs.Kinds.{clash, is_controller}
use Rattle.room_terrain.specs.declared.terrain.Ground.{Ground}
use Rattle.room_table.specs.declared.object.Object.{Object}
use Rattle.object_store.specs.declared.world.Room.{Room}
use Rattle.object_store.specs.Stored.{Stored}
use Rattle.room_table.specs.Tables.{IsOnTile}
use Rattle.world_rules.specs.declared.rule.Rule.{Rule}
use Rattle.world_rules.specs.declared.rule.Rule.TheVariants.{Counts, RoomTwice, Corner, Serial, IdTwice, Tile}
use Rattle.world_rules.specs.declared.rule.Rule.TheVariants.{Shared, Owner, Controllers, Range, PlayerTwice}
use Rattle.world_rules.specs.declared.rule.Rule.TheVariants.{Sites}
use Rattle.world_rules.specs.Rules.{Broken, IsInRangeAs, IsOnWrongTile}
use Rattle.world_rules.specs.World.{Listing, listing_of}

-- Each object stands on a tile of its room.
abbrev pub AreOnTiles : List Room → Type 0
AreOnTiles rooms = AllByRecursion (λ room. AllByRecursion IsOnTile room.table.objects) rooms

-- No rule is broken, but maybe that of the counts.
abbrev pub KeepsAllButCounts : Listing → Type 0
KeepsAllButCounts listing = (rule : Rule) (n : ℕ) → rule ≢ Counts → Broken rule n listing → ⊥

-- the rules that speak of objects, which a tick may change; the others speak of what stays: how many rooms
-- and players there are, their names and numbers, and the grounds
abbrev pub is_of_objects : Rule → Bool
is_of_objects Counts = false
is_of_objects RoomTwice = false
is_of_objects Corner = false
is_of_objects Serial = true
is_of_objects IdTwice = true
is_of_objects Tile = true
is_of_objects Shared = true
is_of_objects Owner = true
is_of_objects Controllers = true
is_of_objects Range = true
is_of_objects PlayerTwice = false
is_of_objects Sites = true

-- Each object stands on a tile of its room, and no rule of objects is broken.
pub record KeepsObjectRules (world : Stored) : Type 0 where
  pub tiles : AreOnTiles world.rooms
  pub rules : (rule : Rule) (n : ℕ) → is_of_objects rule ≡ true → Broken rule n (listing_of world) → ⊥

-- ---- the rules that a room keeps by itself

-- The object of this id shares a tile with an earlier one, and their kinds may not be together.
pub record IsBlocked (objects : List Object) (n : ℕ) : Type 0 where
  pub earlier : ℕ
  pub later : ℕ
  pub one : Object
  pub other : Object
  pub before : earlier < later
  pub place : slice_get objects earlier ≡ Some one
  pub there : slice_get objects later ≡ Some other
  pub id : other.id ≡ n
  pub column : one.x ≡ other.x
  pub row : one.y ≡ other.y
  pub clashes : clash one.kind other.kind ≡ true

-- The objects of a room stand on tiles for their kinds, and share them only where their kinds may; their
-- fields are in their kinds' ranges; and at most one of them is a controller.
pub record KeepsRoomRules (grounds : List Ground) (objects : List Object) : Type 0 where
  pub tiles : (i : ℕ) (object : Object) → slice_get objects i ≡ Some object → IsOnWrongTile grounds object → ⊥
  pub ranges : (i : ℕ) (object : Object) → slice_get objects i ≡ Some object
      → (IsInRangeAs object.kind object → ⊥) → ⊥
  pub controllers : count_by (λ object. is_controller object.kind) objects < 2
  pub shared : (n : ℕ) → IsBlocked objects n → ⊥
