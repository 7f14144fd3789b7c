-- What a file says is in the ranges of a writable world, in whatever order it is read.
use Rattle.std.proofs.Common.{◌≡◌, ℕ, suc, ◌<◌, ◌≤◌, ◌^◌, ◌-◌, List, [], ◌∷◌, map, length, refl, sym, subst, arith, inl, inr}
use Rattle.std.specs.List.{AllByRecursion}
use Rattle.std.specs.List.Sorted.{IsPermutation}
use Rattle.std.proofs.lemmas.List.Elements.{All-from_recursion, recursion_from_All}
use Rattle.std.proofs.lemmas.List.Sorted.{All-permutation, IsPermutation-refl, IsPermutation-append, IsPermutation-map}
use Rattle.serde_json.specs.Data.{Data, Items, no_items, item}
use Rattle.room_terrain.specs.Names.{IsInRange}
use Rattle.room_table.specs.declared.object.Object.{Object}
use Rattle.object_store.specs.declared.world.Room.{Room}
use Rattle.room_table.specs.Tables.{IsOnTile}
use Rattle.game_tables.specs.Limits.{most_bucket, most_points, most_memory}
use Rattle.world_rules.specs.World.{Frame, Placed, ListedRoom, listed_room, placed_from}
use Rattle.world_form.specs.declared.field.Field.{Field}
use Rattle.world_form.specs.declared.field.Field.TheVariants as fields
use Rattle.world_form.specs.Facts.{Filed, Player, Defaults, IsWhole, IsMemoryText, IsListOf, SayEach, SaysObject, SaysRoom, SaysPlayer, SaysWorld, filed_listing}
use Rattle.world_form.specs.Written.{IsWritableRoom, IsWritableAccount}
use Rattle.world_text.specs.declared.draft.RoomDraft.{RoomDraft}
use Rattle.world_text.specs.declared.draft.Draft.{Draft}
use Rattle.world_text.specs.inner.Drafts.{drafted, drafted_room, IsDraftRoom, AreDrafts, IsDraft, IsOrderedDraft, IsInOrder}
use Rattle.world_text.proofs.Reordered.{IsReordered}

all_permuted : {A : Type 0} (P : A → Type 0) (xs ys : List A) → IsPermutation xs ys → AllByRecursion P xs → AllByRecursion P ys
all_permuted P xs ys moved all = recursion_from_All P ys (All-permutation P xs ys moved (All-from_recursion P xs all))

-- What is true of each thing that some part says.
each_is : {A : Type 0} (Says : Data → A → Type 0) (P : A → Type 0) → ((value : Data) (said : A) → Says value said → P said) → (values : Items) (list : List A) → SayEach Says values list → AllByRecursion P list
each_is Says P is no_items [] each = tt
each_is Says P is no_items (said ∷ list) each = absurd each
each_is Says P is (item value values) [] each = absurd each
each_is Says P is (item value values) (said ∷ list) each = (is value said each.0, each_is Says P is values list each.1)

-- ---- rooms

-- The name, the serial and the tiles are in a file's ranges.
record Fits (room : ListedRoom) : Type 0 where
  name : IsInRange room.frame.name
  next : 1 ≤ room.frame.next
  below : room.frame.next < 2 ^ 32
  objects : AllByRecursion IsOnTile room.objects

object_fits : (part : Data) (object : Object) → SaysObject part object → IsOnTile object
object_fits part object s = record { column = s.x.2.2; row = s.y.2.2 }

room_fits : (part : Data) (room : ListedRoom) → SaysRoom part room → Fits room
room_fits part room s =
    let high : room.frame.next ≤ 2 ^ 32 - 1 = s.next.2.2 in
    record { name = s.name.2.2.in_range; next = s.next.2.1; below = omega arith; objects = each_is SaysObject IsOnTile object_fits s.objects.2.0 room.objects s.objects.2.2 }

draft_fits : (room : ListedRoom) (draft : RoomDraft) → IsDraftRoom room draft → Fits room → Fits (drafted_room draft)
draft_fits room draft d fits = record {
  name = subst (λ (frame : Frame). IsInRange frame.name) d.frame fits.name;
  next = subst (λ (frame : Frame). 1 ≤ frame.next) d.frame fits.next;
  below = subst (λ (frame : Frame). frame.next < 2 ^ 32) d.frame fits.below;
  objects = all_permuted IsOnTile room.objects draft.objects.items d.objects.moved fits.objects;
}

drafts_fit : (rooms : List ListedRoom) (drafts : List RoomDraft) → AreDrafts rooms drafts → AllByRecursion Fits rooms → AllByRecursion Fits (map drafted_room drafts)
drafts_fit [] [] d fits = tt
drafts_fit [] (draft ∷ drafts) d fits = absurd d
drafts_fit (room ∷ rooms) [] d fits = absurd d
drafts_fit (room ∷ rooms) (draft ∷ drafts) d fits = (draft_fits room draft d.0 fits.0, drafts_fit rooms drafts d.1 fits.1)

file_fits : (part : Data) (filed : Filed) (draft : Draft) → SaysWorld part filed → IsDraft filed draft → AllByRecursion Fits (map drafted_room draft.rooms.items)
file_fits part filed draft s d = drafts_fit filed.rooms draft.rooms.items d.rooms (each_is SaysRoom Fits room_fits s.rooms.2.0 filed.rooms s.rooms.2.2)

ordered : (rooms : List ListedRoom) (drafts : List RoomDraft) → AreDrafts rooms drafts → AllByRecursion Fits (map drafted_room drafts) → AllByRecursion IsOrderedDraft drafts
ordered rooms [] d fits = tt
ordered [] (draft ∷ drafts) d fits = absurd d
ordered (room ∷ rooms) (draft ∷ drafts) d fits = (record { order = d.0.objects.order; tiles = fits.0.objects }, ordered rooms drafts d.1 fits.1)

-- A draft of what a file says is in order.
pub in_order : (part : Data) (filed : Filed) (draft : Draft) → SaysWorld part filed → IsDraft filed draft → IsInOrder draft
in_order part filed draft s d = record { rooms = ordered filed.rooms draft.rooms.items d.rooms (file_fits part filed draft s d); accounts = d.players.accounts.order }

listed_fit : (rooms : List Room) → AllByRecursion Fits (map listed_room rooms) → AllByRecursion IsWritableRoom rooms
listed_fit [] fits = tt
listed_fit (room ∷ rooms) fits = (record { name = fits.0.name; next = fits.0.next; below = fits.0.below; objects = fits.0.objects }, listed_fit rooms fits.1)

pub rooms_writable : (part : Data) (filed : Filed) (draft : Draft) (rooms : List Room) → SaysWorld part filed → IsDraft filed draft → map listed_room rooms ≡ map drafted_room draft.rooms.items → AllByRecursion IsWritableRoom rooms
rooms_writable part filed draft rooms s d are = listed_fit rooms (rw are (file_fits part filed draft s d))

-- ---- accounts

default_most : (field : Field) (most : ℕ) (part : Data) (n : ℕ) → Defaults field (IsWhole 0 most) 0 part n → n ≤ most
default_most field most part n (inl there) = there.2.2
default_most field most part n (inr absent) = let none : n ≡ 0 = absent.1 in omega arith

default_memory : (part : Data) (bytes : List ℕ) → Defaults fields.Memory IsMemoryText [] part bytes → length bytes ≤ most_memory
default_memory part bytes (inl there) = there.2.1
default_memory part bytes (inr absent) = rw absent.1 (omega arith)

player_fits : (part : Data) (player : Player) → SaysPlayer part player → IsWritableAccount player.account
player_fits part player s =
    let high : player.account.player ≤ 2 ^ 32 - 1 = s.number.2.2 in
    record {
      player = s.number.2.1;
      below = omega arith;
      limit = s.limit.2.2;
      bucket = default_most fields.Bucket most_bucket part player.account.bucket s.bucket;
      points = default_most fields.Points most_points part player.account.points s.points;
      memory = default_memory part player.account.memory s.memory;
    }

all_mapped : {A B : Type 0} (f : A → B) (P : B → Type 0) (xs : List A) → AllByRecursion (λ x. P (f x)) xs → AllByRecursion P (map f xs)
all_mapped f P [] all = tt
all_mapped f P (x ∷ xs) all = (all.0, all_mapped f P xs all.1)

players_fit : (part : Data) (players : List Player) → Defaults fields.Players (IsListOf SaysPlayer) [] part players → AllByRecursion (λ player. IsWritableAccount player.account) players
players_fit part players (inl there) = each_is SaysPlayer (λ player. IsWritableAccount player.account) player_fits there.2.0 players there.2.2
players_fit part players (inr absent) = subst (λ (none : List Player). AllByRecursion (λ player. IsWritableAccount player.account) none) (sym absent.1) tt

pub accounts_writable : (part : Data) (filed : Filed) (draft : Draft) → SaysWorld part filed → IsDraft filed draft → AllByRecursion IsWritableAccount draft.players.accounts.items
accounts_writable part filed draft s d =
    all_permuted IsWritableAccount (map (λ player. player.account) filed.players) draft.players.accounts.items d.players.accounts.moved
    (all_mapped (λ (player : Player). player.account) IsWritableAccount filed.players (players_fit part filed.players s.players))

-- ---- the order of the file

frames_same : (rooms : List ListedRoom) (drafts : List RoomDraft) → AreDrafts rooms drafts → map (λ (room : ListedRoom). room.frame) rooms ≡ map (λ (room : ListedRoom). room.frame) (map drafted_room drafts)
frames_same [] [] d = refl
frames_same [] (draft ∷ drafts) d = absurd d
frames_same (room ∷ rooms) [] d = absurd d
frames_same (room ∷ rooms) (draft ∷ drafts) d = λ i. d.0.frame i ∷ frames_same rooms drafts d.1 i

abbrev tagged : ℕ → Object → ℕ × Placed
tagged index object = (object.id, record { room = index; object = object })

objects_moved : (index : ℕ) (rooms : List ListedRoom) (drafts : List RoomDraft) → AreDrafts rooms drafts → IsPermutation (placed_from index rooms) (placed_from index (map drafted_room drafts))
objects_moved index [] [] d = IsPermutation-refl []
objects_moved index [] (draft ∷ drafts) d = absurd d
objects_moved index (room ∷ rooms) [] d = absurd d
objects_moved index (room ∷ rooms) (draft ∷ drafts) d =
    IsPermutation-append (map (tagged index) room.objects) (map (tagged index) draft.objects.items) (placed_from (suc index) rooms) (placed_from (suc index) (map drafted_room drafts))
    (IsPermutation-map (tagged index) room.objects draft.objects.items d.0.objects.moved) (objects_moved (suc index) rooms drafts d.1)

-- A draft lists what the file lists, in another order.
pub draft_reordered : (filed : Filed) (draft : Draft) → IsDraft filed draft → IsReordered (filed_listing filed) (drafted draft)
draft_reordered filed draft d = record {
  rules = refl;
  tick = sym d.tick;
  frames = frames_same filed.rooms draft.rooms.items d.rooms;
  objects = objects_moved 0 filed.rooms draft.rooms.items d.rooms;
  accounts = d.players.accounts.moved;
}
