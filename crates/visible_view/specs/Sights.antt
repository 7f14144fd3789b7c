-- What a player sees of the world: the rooms in which a creep, a building or a controller of his stands, with
-- all that is in them.
use Rattle.std.specs.Prelude.{ℕ, ◌==◌, ◌&&◌, Bool, if◌then◌else◌, List, [], ◌∷◌, map}
use Rattle.std.specs.List.{count_by, filter, list_any}
use Rattle.std.specs.FinMap.{entries}
use Rattle.game_tables.specs.Kinds.{is_controller, is_site}
use Rattle.room_terrain.specs.declared.name.RoomName.{RoomName}
use Rattle.room_terrain.specs.declared.terrain.Ground.{Ground}
use Rattle.object_store.specs.declared.account.Account.{Account}
use Rattle.world_rules.specs.Sights.{gives_sight}
use Rattle.world_rules.specs.World.{Frame, Placed, World}

-- The player sees the room of this index.
abbrev pub sees_room : World → ℕ → ℕ → Bool
sees_room world player index =
    list_any (λ entry. (entry.1.room == index) && gives_sight player entry.1.object) (entries world.objects)

-- a room that is seen, without its objects
pub record SeenRoom : Type 0 where
  pub index : ℕ
  pub name : RoomName
  pub grounds : List Ground

-- the rooms that are seen, of these by their index
abbrev pub seen_rooms : World → ℕ → List (ℕ × Frame) → List SeenRoom
seen_rooms world player [] = []
seen_rooms world player (entry ∷ later) =
    if sees_room world player entry.0 then record {
      index = entry.0;
      name = entry.1.name;
      grounds = entry.1.grounds;
    } ∷ seen_rooms world player later
    else seen_rooms world player later

-- all objects of the rooms that are seen, in rising id
abbrev pub seen_objects : World → ℕ → List Placed
seen_objects world player =
    map (λ entry. entry.1) (filter (λ entry. sees_room world player entry.1.room) (entries world.objects))

-- the player's sites in the whole world
abbrev pub site_count : World → ℕ → ℕ
site_count world player =
    count_by (λ entry. is_site entry.1.object.kind && (entry.1.object.owner == player))
    (entries world.objects)

-- all that a player sees: the tick, his account, the number of his sites, the rooms in rising index and their
-- objects in rising id
pub record Sight : Type 0 where
  pub tick : ℕ
  pub account : Account
  pub sites : ℕ
  pub rooms : List SeenRoom
  pub objects : List Placed

-- how many controllers the player owns, each of which stands in a room that he sees
abbrev pub controller_count : Sight → ℕ
controller_count sight =
    count_by (λ placed. is_controller placed.object.kind && (placed.object.owner == sight.account.player))
    sight.objects

-- what the player of this account sees
abbrev pub sight_of : World → Account → Sight
sight_of world account = record {
  tick = world.tick;
  account = account;
  sites = site_count world account.player;
  rooms = seen_rooms world account.player (entries world.rooms);
  objects = seen_objects world account.player;
}
