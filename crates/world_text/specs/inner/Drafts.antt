-- What the drafts of a world list. For private clauses.
use Rattle.std.specs.Prelude.{◌≡◌, ℕ, ◌^◌, ◌<◌, List, [], ◌∷◌, map, length, slice_get, Some}
use Rattle.std.specs.List.{AllByRecursion}
use Rattle.std.specs.List.Sorted.{IsPermutation, IsNonDecreasingBy}
use Rattle.serde_json.specs.Data.{Data}
use Rattle.object_store.specs.declared.world.Room.{Room}
use Rattle.room_table.specs.Tables.{IsOnTile, IsRising}
use Rattle.world_rules.specs.World.{ListedRoom, Listing}
use Rattle.world_rules.specs.Rules.{IsFirstBroken}
use Rattle.world_form.specs.declared.fault.WorldFault.{WorldFault}
use Rattle.world_form.specs.declared.fault.WorldFault.TheVariants as faults
use Rattle.world_form.specs.Facts.{Filed, Player, SaysRoom}
use Rattle.world_form.specs.Files.{told_tokens}
use Rattle.world_text.specs.declared.draft.RoomDraft.{RoomDraft}
use Rattle.world_text.specs.declared.draft.Players.{Players}
use Rattle.world_text.specs.declared.draft.Draft.{Draft}

-- The one list is the other in the order of its numbers, of which two may be the same.
pub record IsSorting {A : Type 0} (number : A → ℕ) (list sorted : List A) : Type 0 where
  pub moved : IsPermutation list sorted
  pub order : IsNonDecreasingBy number sorted

-- ---- rooms

abbrev pub drafted_room : RoomDraft → ListedRoom
drafted_room draft = record {
  frame = record { name = draft.name; grounds = draft.terrain; next = draft.next };
  objects = draft.objects.items;
}

-- The draft of a room has its objects in the order of their ids.
pub record IsDraftRoom (room : ListedRoom) (draft : RoomDraft) : Type 0 where
  pub frame : room.frame ≡ (drafted_room draft).frame
  pub objects : IsSorting (λ object. object.id) room.objects draft.objects.items

-- A part of the file says the room of a draft.
abbrev pub SaysDraft : Data → RoomDraft → Type 0
SaysDraft part draft = (room : ListedRoom) × SaysRoom part room × IsDraftRoom room draft

-- These are drafts of the rooms, one each.
abbrev pub AreDrafts : List ListedRoom → List RoomDraft → Type 0
AreDrafts [] [] = Unit {0}
AreDrafts [] (draft ∷ drafts) = ⊥
AreDrafts (room ∷ rooms) [] = ⊥
AreDrafts (room ∷ rooms) (draft ∷ drafts) = IsDraftRoom room draft × AreDrafts rooms drafts

-- ---- players

-- The accounts and the tokens are those of these players, in the file's order.
pub record AreListed (listed : List Player) (players : Players) : Type 0 where
  pub accounts : map (λ player. player.account) listed ≡ players.accounts.items
  pub tokens : told_tokens listed ≡ players.tokens.items

-- They are those of these players, each list in the order of the players' numbers.
pub record AreSorted (listed : List Player) (players : Players) : Type 0 where
  pub accounts : IsSorting (λ account. account.player)
      (map (λ player. player.account) listed) players.accounts.items
  pub tokens : IsSorting (λ token. token.0) (told_tokens listed) players.tokens.items

-- ---- the whole file

-- The draft has what the file says: its rooms in their order, and all else in the order of the numbers.
pub record IsDraft (filed : Filed) (draft : Draft) : Type 0 where
  pub tick : draft.tick ≡ filed.tick
  pub rooms : AreDrafts filed.rooms draft.rooms.items
  pub players : AreSorted filed.players draft.players

-- what a draft lists
abbrev pub drafted : Draft → Listing
drafted draft = record {
  rules = 1;
  tick = draft.tick;
  rooms = map drafted_room draft.rooms.items;
  accounts = draft.players.accounts.items;
}

-- ---- what the building of a world is given

-- The objects stand in the order of their ids, each on a tile of the room.
pub record IsOrderedDraft (draft : RoomDraft) : Type 0 where
  pub order : IsNonDecreasingBy (λ object. object.id) draft.objects.items
  pub tiles : AllByRecursion IsOnTile draft.objects.items

-- The rooms and the accounts of a draft are in order.
pub record IsInOrder (draft : Draft) : Type 0 where
  pub rooms : AllByRecursion IsOrderedDraft draft.rooms.items
  pub accounts : IsNonDecreasingBy (λ account. account.player) draft.players.accounts.items

-- Each object has an id of its own, and there are not too many for a table.
pub record IsRisingDraft (draft : RoomDraft) : Type 0 where
  pub rising : IsRising draft.objects.items
  pub within : length draft.objects.items < 2 ^ 32

-- Each table's index is its room's place.
abbrev pub HavePlaces : List Room → Type 0
HavePlaces rooms = (index : ℕ) (room : Room) → slice_get rooms index ≡ Some room → room.table.index ≡ index

-- The fault is the first rule that is broken, or want of memory.
abbrev pub BreaksFirst : Listing → WorldFault → Type 0
BreaksFirst listing (faults.Rule rule n) = IsFirstBroken rule n listing
BreaksFirst listing faults.Memory = Unit {0}
BreaksFirst listing fault = ⊥
