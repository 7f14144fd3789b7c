-- A world between ticks.
use Rattle.std.specs.Prelude.{◌≡◌, ◌≢◌, ℕ, ◌-◌, ◌^◌, ◌≤◌, All, List, map, Some, slice_get}
use Rattle.std.specs.List.{AllByRecursion}
use Rattle.object_store.specs.declared.world.Room.{Room}
use Rattle.room_table.specs.Tables.{IsOnTile, without_spare}
use Rattle.object_store.specs.Stored.{Stored, HaveRisingTables, AreRising}
use Rattle.world_rules.specs.declared.rule.Rule.{Rule}
use Rattle.world_rules.specs.declared.rule.Rule.TheVariants.{Counts, Sites}
use Rattle.world_rules.specs.World.{listing_of}
use Rattle.world_rules.specs.Rules.{Broken}

-- The room's serials began at 1, and its objects stand on its tiles.
pub record IsSoundRoom (room : Room) : Type 0 where
  pub begun : 1 ≤ room.table.next
  pub tiles : AllByRecursion IsOnTile room.table.objects

-- Each table's index is its room's place, its objects stand in rising id, the accounts stand in rising
-- player, and each rule is kept but for the counts, and the sites, which a tick by any intents need not keep.
pub record IsSound (stored : Stored) : Type 0 where
  pub places : (index : ℕ) (room : Room) → slice_get stored.rooms index ≡ Some room → room.table.index ≡ index
  pub tables : HaveRisingTables stored.rooms
  pub rooms : AllByRecursion IsSoundRoom stored.rooms
  pub accounts : AreRising stored.accounts
  pub rules : (rule : Rule) (n : ℕ) → rule ≢ Counts → rule ≢ Sites → Broken rule n (listing_of stored) → ⊥

-- what is stored, but for the room that tables keep for new objects and for what was done to objects
abbrev pub bare_room : Room → Room
bare_room room = record room { table = without_spare room.table }

abbrev pub bare : Stored → Stored
bare stored = record stored { rooms = map bare_room stored.rooms }

-- the greatest serial that a room may have before a tick: enough are left for all that a tick can make
abbrev pub serials_bound : ℕ
serials_bound = 2 ^ 32 - 2 ^ 20

-- No room has used up its serials.
abbrev pub HaveSerials : List Room → Type 0
HaveSerials rooms = All (λ room. room.table.next ≤ serials_bound) rooms
