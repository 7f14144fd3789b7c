-- What records leave as it was, and the rules that they keep.
use Rattle.std.proofs.Common.{◌≡◌, ℕ, ◌+◌, ◌<◌, ◌≤◌, ◌==◌, true, false, cond, List, [], ◌∷◌, map, length, Some, unwrap_or, refl, sym, ap, subst, ◌∙◌}
use Rattle.std.specs.Prelude.{slice_get}
use Rattle.std.specs.List.{AllByRecursion, count_by, find, sum_by}
use Rattle.std.proofs.lemmas.Bool.{eqb-true}
use Rattle.std.proofs.lemmas.List.{length-map}
use Rattle.std.proofs.lemmas.List.Sums.{sum_by-cons}
use Rattle.object_store.specs.declared.account.Account.{Account}
use Rattle.object_store.specs.declared.world.Room.{Room}
use Rattle.object_store.specs.Stored.{Stored, AreRising}
use Rattle.room_table.specs.Tables.{Table}
use Rattle.world_rules.specs.declared.rule.Rule.TheVariants as rules
use Rattle.world_rules.specs.Rules.{Broken, HasEarlierName, HasOpenCorner, IsRoom}
use Rattle.world_rules.specs.World.{Frame, ListedRoom, listed_room, listing_of, world_listed}
use Rattle.world_rules.proofs.Rooms.{frame_listed}
use Rattle.rule_check.specs.Kept.{AreOnTiles, KeepsAllButCounts}
use Rattle.rule_check.proofs.Found.{mapped_at, mapped_back}
use Rattle.tick_journal.specs.declared.tick_record.TickRecord.{TickRecord}
use Rattle.record_follows.specs.Courses.{AreFollowing, world_after}
use Rattle.record_follows.specs.Follows.{Follows, account_after, after, room_after}
use Rattle.record_follows.proofs.Placing.{player_stays}

-- There are as many rooms, with the same names and terrains, and accounts of the same players.
pub record AreAlike (before later : Stored) : Type 0 where
  pub rooms : length later.rooms ≡ length before.rooms
  pub names : map (λ (room : Room). room.name) later.rooms ≡ map (λ (room : Room). room.name) before.rooms
  pub terrains : map (λ (room : Room). room.terrain) later.rooms ≡ map (λ (room : Room). room.terrain) before.rooms
  pub players : map (λ (account : Account). account.player) later.accounts ≡ map (λ (account : Account). account.player) before.accounts

mapped_same : {A B : Type 0} (g : A → A) (f : A → B) → ((x : A) → f (g x) ≡ f x) → (xs : List A) → map f (map g xs) ≡ map f xs
mapped_same g f same [] = refl
mapped_same g f same (x ∷ xs) = ap (λ y. y ∷ map f (map g xs)) (same x) ∙ ap (λ ys. f x ∷ ys) (mapped_same g f same xs)

pub after_alike : (before : Stored) (entry : TickRecord) → AreAlike before (after before entry)
after_alike before entry = record {
  rooms = length-map before.rooms (room_after entry.rooms);
  names = mapped_same (room_after entry.rooms) (λ (room : Room). room.name) (λ room. refl) before.rooms;
  terrains = mapped_same (room_after entry.rooms) (λ (room : Room). room.terrain) (λ room. refl) before.rooms;
  players = mapped_same (account_after entry.accounts) (λ (account : Account). account.player) (player_stays entry.accounts) before.accounts;
}

pub world_after_alike : (before : Stored) (entries : List TickRecord) → AreAlike before (world_after before entries)
world_after_alike before [] = record { rooms = refl; names = refl; terrains = refl; players = refl }
world_after_alike before (entry ∷ later) =
    let one = after_alike before entry in
    let rest = world_after_alike (after before entry) later in
    record { rooms = rest.rooms ∙ one.rooms; names = rest.names ∙ one.names; terrains = rest.terrains ∙ one.terrains; players = rest.players ∙ one.players }

-- ---- accounts that rise

above_after : (recorded accounts : List Account) (player : ℕ) → AllByRecursion (λ (later : Account). player < later.player) accounts → AllByRecursion (λ (later : Account). player < later.player) (map (account_after recorded) accounts)
above_after recorded [] player above = tt
above_after recorded (account ∷ accounts) player above = (subst (λ (n : ℕ). player < n) (sym (player_stays recorded account)) above.0, above_after recorded accounts player above.1)

rising_after : (recorded accounts : List Account) → AreRising accounts → AreRising (map (account_after recorded) accounts)
rising_after recorded [] rising = tt
rising_after recorded (account ∷ accounts) rising = (
  subst (λ (n : ℕ). AllByRecursion (λ (later : Account). n < later.player) (map (account_after recorded) accounts)) (sym (player_stays recorded account)) (above_after recorded accounts account.player rising.0),
  rising_after recorded accounts rising.1,
)

pub rising_stays : (before : Stored) (entries : List TickRecord) → AreRising before.accounts → AreRising (world_after before entries).accounts
rising_stays before [] rising = rising
rising_stays before (entry ∷ later) rising = rising_stays (after before entry) later (rising_after entry.accounts before.accounts rising)

-- ---- the rules

-- A room of the world after was there before, with its name and its grounds.
record WasRoom (before : Stored) (index : ℕ) (frame : Frame) : Type 0 where
  pub older : Frame
  pub there : IsRoom (world_listed (listing_of before)) index older
  pub name : older.name ≡ frame.name
  pub grounds : older.grounds ≡ frame.grounds

was_room : (before : Stored) (entry : TickRecord) (index : ℕ) (frame : Frame) → IsRoom (world_listed (listing_of (after before entry))) index frame → WasRoom before index frame
was_room before entry index frame is =
    let g = room_after entry.rooms in
    let frame_of : ListedRoom → Frame = λ room. room.frame in
    let listed = mapped_back frame_of (map listed_room (map g before.rooms)) index frame (sym (frame_listed (listing_of (after before entry)) index) ∙ is) in
    let now = mapped_back listed_room (map g before.rooms) index listed.0 listed.1 in
    let old = mapped_back g before.rooms index now.0 now.1 in
    let same : (listed_room (g old.0)).frame ≡ frame = ap (λ (room : Room). (listed_room room).frame) old.2 ∙ ap frame_of now.2 ∙ listed.2 in
    record {
      older = (listed_room old.0).frame;
      there = frame_listed (listing_of before) index ∙ mapped_at frame_of (map listed_room before.rooms) index (listed_room old.0) (mapped_at listed_room before.rooms index old.0 old.1);
      name = ap (λ (f : Frame). f.name) same;
      grounds = ap (λ (f : Frame). f.grounds) same;
    }

name_before : (before : Stored) (entry : TickRecord) (index : ℕ) → HasEarlierName (world_listed (listing_of (after before entry))) index → HasEarlierName (world_listed (listing_of before)) index
name_before before entry index broken =
    let one = was_room before entry broken.0 broken.1 broken.4 in
    let other = was_room before entry index broken.2 broken.5 in
    (broken.0, one.older, other.older, broken.3, one.there, other.there, one.name ∙ broken.6 ∙ sym other.name)

corner_before : (before : Stored) (entry : TickRecord) (index : ℕ) → Broken rules.Corner index (listing_of (after before entry)) → Broken rules.Corner index (listing_of before)
corner_before before entry index broken =
    let room = was_room before entry index broken.0 broken.1 in
    (room.older, room.there, subst HasOpenCorner (sym room.grounds) broken.2)

players_counted : (recorded accounts : List Account) (player : ℕ) → count_by (λ (account : Account). account.player == player) (map (account_after recorded) accounts) ≡ count_by (λ (account : Account). account.player == player) accounts
players_counted recorded [] player = refl
players_counted recorded (account ∷ accounts) player =
    let f : Account → ℕ = λ a. cond (a.player == player) 1 0 in
    let here : f (account_after recorded account) ≡ f account = ap (λ (n : ℕ). cond (n == player) 1 0) (player_stays recorded account) in
    sum_by-cons f (account_after recorded account) (map (account_after recorded) accounts)
    ∙ ap (λ (n : ℕ). n + sum_by f (map (account_after recorded) accounts)) here
    ∙ ap (λ (n : ℕ). f account + n) (players_counted recorded accounts player)
    ∙ sym (sum_by-cons f account accounts)

pub keeps_after : (before : Stored) (entry : TickRecord) → KeepsAllButCounts (listing_of before) → Follows before entry → KeepsAllButCounts (listing_of (after before entry))
keeps_after before entry kept follows rules.Counts n differs broken = differs refl
keeps_after before entry kept follows rules.RoomTwice n differs broken = kept rules.RoomTwice n differs (name_before before entry n broken)
keeps_after before entry kept follows rules.Corner n differs broken = kept rules.Corner n differs (corner_before before entry n broken)
keeps_after before entry kept follows rules.PlayerTwice n differs broken =
    kept rules.PlayerTwice n differs (subst (λ (count : ℕ). 2 ≤ count) (players_counted entry.accounts before.accounts n) broken)
keeps_after before entry kept follows rules.Serial n differs broken = follows.rules.rules rules.Serial n refl broken
keeps_after before entry kept follows rules.IdTwice n differs broken = follows.rules.rules rules.IdTwice n refl broken
keeps_after before entry kept follows rules.Tile n differs broken = follows.rules.rules rules.Tile n refl broken
keeps_after before entry kept follows rules.Shared n differs broken = follows.rules.rules rules.Shared n refl broken
keeps_after before entry kept follows rules.Owner n differs broken = follows.rules.rules rules.Owner n refl broken
keeps_after before entry kept follows rules.Controllers n differs broken = follows.rules.rules rules.Controllers n refl broken
keeps_after before entry kept follows rules.Range n differs broken = follows.rules.rules rules.Range n refl broken
keeps_after before entry kept follows rules.Sites n differs broken = follows.rules.rules rules.Sites n refl broken

pub rules_stay : (before : Stored) (entries : List TickRecord) → KeepsAllButCounts (listing_of before) → AreFollowing before entries → KeepsAllButCounts (listing_of (world_after before entries))
rules_stay before [] kept following = kept
rules_stay before (entry ∷ later) kept following = rules_stay (after before entry) later (keeps_after before entry kept following.0) following.1

pub tiles_stay : (before : Stored) (entries : List TickRecord) → AreOnTiles before.rooms → AreFollowing before entries → AreOnTiles (world_after before entries).rooms
tiles_stay before [] tiles following = tiles
tiles_stay before (entry ∷ later) tiles following = tiles_stay (after before entry) later following.0.rules.tiles following.1

-- ---- the places of rooms

-- The index of each room's table is the room's place.
abbrev pub HaveOwnPlaces : List Room → Type 0
HaveOwnPlaces rooms = (index : ℕ) (room : Room) → slice_get rooms index ≡ Some room → room.table.index ≡ index

index_stays : (tables : List Table) (room : Room) → (room_after tables room).table.index ≡ room.table.index
index_stays [] room = refl
index_stays (table ∷ tables) room =
    elim (table.index == room.table.index) as (λ b. (table.index == room.table.index) ≡ b → (unwrap_or (cond b (Some table) (find (λ (t : Table). t.index == room.table.index) tables)) room.table).index ≡ room.table.index) [
      | true ↦ λ is. eqb-true table.index room.table.index is
      | false ↦ λ is. index_stays tables room
    ] refl

places_after : (tables : List Table) (rooms : List Room) → HaveOwnPlaces rooms → HaveOwnPlaces (map (room_after tables) rooms)
places_after tables rooms own index room is =
    let old = mapped_back (room_after tables) rooms index room is in
    ap (λ (r : Room). r.table.index) (sym old.2) ∙ index_stays tables old.0 ∙ own index old.0 old.1

pub places_stay : (before : Stored) (entries : List TickRecord) → HaveOwnPlaces before.rooms → HaveOwnPlaces (world_after before entries).rooms
places_stay before [] own = own
places_stay before (entry ∷ later) own = places_stay (after before entry) later (places_after entry.rooms before.rooms own)
