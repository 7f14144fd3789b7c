-- The census of a world, and what is known of a world but for the rooms of some tables.
use Rattle.std.specs.Prelude.{◌≡◌, ◌≢◌, ℕ, ◌<◌, ◌≤◌, ◌/◌, ◌%◌, ◌^◌, ◌==◌, ◌⊎◌, Bool, true, false, List, Some}
use Rattle.std.specs.Prelude.{length, map, slice_get, unwrap_or}
use Rattle.std.specs.List.{AllByRecursion, find}
use Rattle.game_tables.specs.Kinds.{is_controller, may_have_owner}
use Rattle.room_terrain.specs.declared.terrain.Ground.{Ground}
use Rattle.object_store.specs.declared.account.Account.{Account}
use Rattle.room_table.specs.declared.object.Object.{Object}
use Rattle.object_store.specs.declared.world.Room.{Room}
use Rattle.object_store.specs.Stored.{Stored, HasAccount, HaveRisingTables}
use Rattle.room_table.specs.Tables.{Table, IsOnTile, IsRising}
use Rattle.rule_check.specs.Kept.{KeepsRoomRules}
use Rattle.changed_rules.specs.declared.census.Census.{Census}
use Rattle.changed_rules.specs.declared.counted.Counted.{Counted}
use Rattle.changed_rules.specs.declared.counted.Counted.TheVariants.{Ids, SiteOwners}
use Rattle.changed_rules.specs.declared.tally.Tally.{Tally}
use Rattle.changed_rules.specs.Counts.{most_of, is_among, tallied, times, times_apart}

-- ---- a change of tables

-- the room with the first of these tables that has the index of its own, where there is one
abbrev pub room_with : List Table → Room → Room
room_with tables room =
    record room { table = unwrap_or (find (λ table. table.index == room.table.index) tables) room.table }

-- the world with these tables in the place of those of their indices
abbrev pub with_tables : List Table → Stored → Stored
with_tables tables world = record world { rooms = map (room_with tables) world.rooms }

-- the players who have accounts
abbrev pub players : List Account → List ℕ
players accounts = map (λ account. account.player) accounts

-- The rooms are those with these tables, and the accounts are of the same players.
pub record IsChanged (tables : List Table) (before after : Stored) : Type 0 where
  pub rooms : after.rooms ≡ (with_tables tables before).rooms
  pub same : players after.accounts ≡ players before.accounts

-- The index of each room's table is the room's place.
abbrev pub ArePlaced : List Room → Type 0
ArePlaced rooms = (index : ℕ) (room : Room) → slice_get rooms index ≡ Some room → room.table.index ≡ index

-- the indices of the tables
abbrev pub indices : List Table → List ℕ
indices tables = map (λ table. table.index) tables

-- ---- the census

-- the tally of ids, or of the owners of sites
abbrev pub tally_of : Counted → Census → Tally
tally_of Ids census = census.ids
tally_of SiteOwners census = census.owners

-- The rooms of the world have their places, their objects stand in rising id, and the census has each id as
-- often as objects of the world have it, and each player as often as he owns a site.
pub record IsCensus (world : Stored) (census : Census) : Type 0 where
  pub places : ArePlaced world.rooms
  pub rising : HaveRisingTables world.rooms
  pub counts : (counted : Counted) (n : ℕ) → tallied (tally_of counted census) n ≡ times counted n world.rooms

-- It has those of the world but for the objects in the rooms of these indices.
abbrev pub IsCensusApart : List ℕ → Stored → Census → Type 0
IsCensusApart places world census =
    (counted : Counted) (n : ℕ)
    → tallied (tally_of counted census) n ≡ times_apart counted n places world.rooms

-- ---- the rules of a world but for some rooms

-- The id's room part is no room of these, or its serial is 0 or was not given yet.
abbrev pub IsUnborn : List Room → ℕ → Type 0
IsUnborn rooms id =
    ((room : Room) → slice_get rooms (id / 2 ^ 32) ≡ Some room → room.table.next ≤ id % 2 ^ 32)
    ⊎ (id % 2 ^ 32 ≡ 0)

-- An owner or reserver has no account, or the kind may not have one.
abbrev pub IsWronglyHeld : List Account → Object → Type 0
IsWronglyHeld accounts object =
    ((object.owner ≢ 0) × ((HasAccount object.owner accounts → ⊥) ⊎ (may_have_owner object.kind ≡ false)))
    ⊎ ((object.other ≢ 0) × ((HasAccount object.other accounts → ⊥) ⊎ (is_controller object.kind ≡ false)))

-- These objects, in a room of these grounds, stand in rising id and on tiles, keep the rules of a room by
-- itself, were born in rooms of the world, and are held by its players.
pub record KeepsIn (world : Stored) (grounds : List Ground) (objects : List Object) : Type 0 where
  pub rising : IsRising objects
  pub tiles : AllByRecursion IsOnTile objects
  pub rules : KeepsRoomRules grounds objects
  pub born : AllByRecursion (λ object. IsUnborn world.rooms object.id → ⊥) objects
  pub held : AllByRecursion (λ object. IsWronglyHeld world.accounts object → ⊥) objects

-- The objects of the room do so.
abbrev pub KeepsHere : Stored → Room → Type 0
KeepsHere world room = KeepsIn world room.terrain room.table.objects

-- But for the rooms of these indices each room keeps the rules, an id stands once, and no player has too many
-- sites.
pub record KeepsElsewhere (places : List ℕ) (world : Stored) : Type 0 where
  pub each : (index : ℕ) (room : Room) → slice_get world.rooms index ≡ Some room
      → is_among room.table.index places ≡ false → KeepsHere world room
  pub few : (counted : Counted) (n : ℕ) → times_apart counted n places world.rooms ≤ most_of counted

-- ---- between leave and enter

-- No serial is lowered: the table of a room has at least the next serial of the room's table.
abbrev pub KeepsSerials : List Room → Table → Type 0
KeepsSerials rooms table =
    (room : Room) → slice_get rooms table.index ≡ Some room → room.table.next ≤ table.next

-- The tables are of rooms of the world, which have their places; the census is that of the world but for
-- these rooms; and where this is said, all other rooms keep the rules.
pub record HasLeft (tables : List Table) (world : Stored) (census : Census) (kept : Bool) : Type 0 where
  pub rooms : AllByRecursion (λ table. table.index < length world.rooms) tables
  pub places : ArePlaced world.rooms
  pub counts : IsCensusApart (indices tables) world census
  pub rest : kept ≡ true → KeepsElsewhere (indices tables) world
