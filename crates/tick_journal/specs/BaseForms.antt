-- Which worlds have a base content, and which bytes spell one.
use Rattle.std.specs.Prelude.{◌≡◌, ℕ, ◌≤◌, ◌^◌, List, length, map, Some, slice_get}
use Rattle.std.specs.List.{AllByRecursion}
use Rattle.game_tables.specs.Limits.{most_players, most_rooms}
use Rattle.room_terrain.specs.Names.{IsInRange}
use Rattle.object_store.specs.declared.account.Account.{Account}
use Rattle.object_store.specs.declared.world.Room.{Room}
use Rattle.object_store.specs.Stored.{Stored}
use Rattle.room_table.specs.Tables.{without_spare}
use Rattle.world_bytes.specs.Forms.{HasRoomForm}
use Rattle.tick_journal.specs.Accounts.{HasAccountsForm}
use Rattle.tick_journal.specs.Contents.{base_content}

-- The name is one of the world's, there is a ground for each of the 2,500 tiles, and the objects have their
-- form, as they are read: without room for more objects.
pub record HasBaseRoomForm (room : Room) : Type 0 where
  pub name : IsInRange room.name
  pub tiles : length room.terrain ≡ 2500
  pub objects : HasRoomForm room.table
  pub full : room.table ≡ without_spare room.table

-- The index of each table is its room's place.
abbrev pub AreInPlace : List Room → Type 0
AreInPlace rooms = (place : ℕ) (room : Room) → slice_get rooms place ≡ Some room → room.table.index ≡ place

-- There are 1 to 400 rooms in their places, each with its form.
pub record HasBaseRooms (rooms : List Room) : Type 0 where
  pub some : 1 ≤ length rooms
  pub most : length rooms ≤ most_rooms
  pub forms : AllByRecursion HasBaseRoomForm rooms
  pub places : AreInPlace rooms

-- There are at most 64 accounts in rising player, from player 1 on, each with its form.
pub record HasBaseAccounts (accounts : List Account) : Type 0 where
  pub most : length accounts ≤ most_players
  pub forms : HasAccountsForm accounts
  pub from_one : AllByRecursion (λ account. 1 ≤ account.player) accounts

-- The world has a base content: its tick, its rooms and its accounts fit.
pub record HasBaseForm (world : Stored) : Type 0 where
  pub tick : world.tick ≤ 2 ^ 53
  pub rooms : HasBaseRooms world.rooms
  pub accounts : HasBaseAccounts world.accounts

-- The bytes are the base content of this world.
abbrev pub SpellsBase : List ℕ → Stored → Type 0
SpellsBase bytes world = HasBaseForm world × (bytes ≡ base_content world)

-- the world as it is read: without room for more objects, and with nothing done to them
abbrev pub room_as_read : Room → Room
room_as_read room = record room { table = without_spare room.table }

abbrev pub world_as_read : Stored → Stored
world_as_read world = record world { rooms = map room_as_read world.rooms }
