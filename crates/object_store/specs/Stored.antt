-- The world as it is stored.
use Rattle.std.specs.Prelude.{◌≡◌, ℕ, ◌<◌, ◌==◌, if◌then◌else◌, List, [], ◌∷◌, map, slice_get, Option, Some}
use Rattle.std.specs.Prelude.{option_map}
use Rattle.std.specs.List.{AllByRecursion, find}
use Rattle.object_store.specs.declared.account.Account.{Account}
use Rattle.object_store.specs.declared.world.Room.{Room}
use Rattle.room_terrain.specs.declared.name.RoomName.{RoomName}
use Rattle.room_table.specs.Tables.{IsRising}

-- a tick, the rooms by their index, and the accounts in rising player
pub record Stored : Type 0 where
  pub tick : ℕ
  pub rooms : List Room
  pub accounts : List Account

-- The accounts stand in rising player, each player once.
abbrev pub AreRising : List Account → Type 0
AreRising [] = Unit {0}
AreRising (account ∷ accounts) =
    AllByRecursion (λ later. account.player < later.player) accounts × AreRising accounts

-- The player comes after those of all accounts.
abbrev pub IsLast : ℕ → List Account → Type 0
IsLast player accounts = AllByRecursion (λ earlier. earlier.player < player) accounts

-- The objects of each room stand in rising id.
abbrev pub HaveRisingTables : List Room → Type 0
HaveRisingTables rooms = AllByRecursion (λ room. IsRising room.table.objects) rooms

-- The room at this index has the name.
abbrev pub IsRoomNamed : RoomName → List Room → ℕ → Type 0
IsRoomNamed name rooms i = option_map (λ room. room.name) (slice_get rooms i) ≡ Some name

-- the account of a player
abbrev pub find_account : ℕ → List Account → Option Account
find_account player = find (λ a. a.player == player)

-- The player has an account.
abbrev pub HasAccount : ℕ → List Account → Type 0
HasAccount player accounts = (account : Account) × (find_account player accounts ≡ Some account)

-- the accounts with this one in the place of the one of its player
abbrev pub with_account : Account → List Account → List Account
with_account account accounts = map (λ a. if a.player == account.player then account else a) accounts
