-- What is gathered of the stored rooms for a player, room by room. For private clauses.
use Rattle.std.specs.Prelude.{◌≡◌, ℕ, suc, ◌+◌, ◌<◌, ◌==◌, ◌&&◌, Bool, true, false, if◌then◌else◌, List}
use Rattle.std.specs.Prelude.{[], ◌∷◌, ◌++◌, length, map, slice_get, slice_index_or, Option, Some, None}
use Rattle.std.specs.Prelude.{option_map, option_and_then}
use Rattle.std.specs.List.{AllByRecursion, count_by, filter, find, list_any, sum_by}
use Rattle.std.specs.Option.{unwrap_or}
use Rattle.room_table.specs.declared.object.Object.{Object}
use Rattle.room_table.specs.declared.standing.Standing.{Standing}
use Rattle.object_store.specs.declared.world.Room.{Room}
use Rattle.game_tables.specs.Kinds.{is_controller, is_site}
use Rattle.world_rules.specs.World.{Placed}
use Rattle.world_rules.specs.Sights.{gives_sight}
use Rattle.visible_view.specs.Sights.{SeenRoom}
use Rattle.visible_view.specs.declared.gather.RoomInView.{RoomInView}
use Rattle.visible_view.specs.declared.gather.Gathered.{Gathered}
use Rattle.room_table.proofs.Rising.{Rises}

-- ---- what is kept of a room

abbrev pub shown_room : RoomInView → SeenRoom
shown_room room = record { index = room.index; name = room.room.now.name; grounds = room.room.now.terrain }

abbrev pub index_in : RoomInView → ℕ
index_in room = room.index

-- ---- what is seen of stored rooms

-- The player sees this room.
abbrev pub is_seen : ℕ → Room → Bool
is_seen player room = list_any (gives_sight player) room.table.objects

-- It is a site of the player.
abbrev pub is_site_of : ℕ → Object → Bool
is_site_of player object = is_site object.kind && (object.owner == player)

-- It is a controller of the player.
abbrev pub is_controller_of : ℕ → Object → Bool
is_controller_of player object = is_controller object.kind && (object.owner == player)

-- what is taken of rooms, from an index on
abbrev pub from_each : {A : Type 0} → (ℕ → Room → List A) → ℕ → List Room → List A
from_each taken index [] = []
from_each taken index (room ∷ rooms) = taken index room ++ from_each taken (suc index) rooms

-- the objects of a room, where it is seen
abbrev pub objects_if_seen : ℕ → Room → Option (List Object)
objects_if_seen player room = if is_seen player room then Some room.table.objects else None

-- a room that is seen
abbrev pub room_if_seen : ℕ → ℕ → Room → List SeenRoom
room_if_seen player index room =
    if is_seen player room then record { index = index; name = room.name; grounds = room.terrain } ∷ []
    else []

-- the player's sites in a room
abbrev pub sites_at : ℕ → Room → ℕ
sites_at player room = count_by (is_site_of player) room.table.objects

-- the player's controllers in a room
abbrev pub controllers_at : ℕ → Room → ℕ
controllers_at player room = count_by (is_controller_of player) room.table.objects

-- the objects of a room that is kept
abbrev pub kept_objects : ℕ → List RoomInView → Option (List Object)
kept_objects index rooms =
    option_map (λ room. room.room.now.table.objects) (find (λ room. room.index == index) rooms)

-- The objects with the index of a room that is kept are those of its table, and no others are there.
abbrev pub HaveTables : List RoomInView → List Placed → Type 0
HaveTables rooms objects =
    (index : ℕ) → map (λ placed. placed.object) (filter (λ placed. placed.room == index) objects)
    ≡ unwrap_or (kept_objects index rooms) []

-- The object's room is one of those that are flagged, by their indices.
abbrev pub is_flagged : List Bool → Standing → Bool
is_flagged flags standing = slice_index_or flags standing.room false

-- ---- room by room

-- One more room is kept.
pub record KeepsRoom (index : ℕ) (room : Room) (old new : List RoomInView) : Type 0 where
  pub kept : RoomInView
  pub last : new ≡ old ++ kept ∷ []
  pub place : kept.index ≡ index
  pub stored : kept.room.now ≡ room

abbrev pub KeepsRoomIf : Bool → ℕ → Room → List RoomInView → List RoomInView → Type 0
KeepsRoomIf true index room old new = KeepsRoom index room old new
KeepsRoomIf false index room old new = new ≡ old

-- A room is added to what is gathered.
pub record IsAdded (player index : ℕ) (room : Room) (old new : Gathered) : Type 0 where
  pub rooms : KeepsRoomIf (is_seen player room) index room old.rooms.items new.rooms.items
  pub flags : new.flags.items ≡ old.flags.items ++ is_seen player room ∷ []
  pub sites : new.sites ≡ old.sites + sites_at player room
  pub controllers : new.controllers ≡ old.controllers + controllers_at player room

-- All that is seen of these rooms is gathered.
pub record IsGathered (player : ℕ) (rooms : List Room) (gathered : Gathered) : Type 0 where
  pub shown : map shown_room gathered.rooms.items ≡ from_each (room_if_seen player) 0 rooms
  pub flags : gathered.flags.items ≡ map (is_seen player) rooms
  pub sites : gathered.sites ≡ sum_by (sites_at player) rooms
  pub controllers : gathered.controllers ≡ sum_by (controllers_at player) rooms
  pub rising : Rises index_in gathered.rooms.items
  pub below : AllByRecursion (λ room. room.index < length rooms) gathered.rooms.items
  pub tables : (index : ℕ) → kept_objects index gathered.rooms.items
      ≡ option_and_then (objects_if_seen player) (slice_get rooms index)
