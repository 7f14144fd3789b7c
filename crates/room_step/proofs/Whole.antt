-- All rooms, each stepped by itself, are a tick of the world up to crossings.
use Rattle.std.proofs.Common.{◌≡◌, Bool, ℕ, ◌+◌, ◌-◌, ◌^◌, ◌<◌, ◌≤◌, min, List, [], length, map, get_or, Option, Some, None, slice_get, refl, sym, subst, ◌∙◌, arith}
use Rattle.std.specs.List.{AllByRecursion}
use Rattle.std.specs.List.Sorted.{IsNonDecreasingBy, IsPermutation}
use Rattle.std.proofs.lemmas.List.Sums.{count_by-le-length, length-filter}
use Rattle.std.proofs.lemmas.Option.{get_or_from_slice_get, slice_get-get_or, slice_get_within}
use Rattle.intent_book.specs.declared.intent.Intent.{Intent}
use Rattle.kept_entries.specs.Split.{AreSplit}
use Rattle.object_store.specs.declared.account.Account.{Account}
use Rattle.object_store.specs.declared.world.Room.{Room}
use Rattle.object_store.specs.Stored.{Stored, HaveRisingTables}
use Rattle.room_table.specs.Tables.{IsOnTile, IsRising}
use Rattle.world_rules.specs.World.{World, world_of}
use Rattle.world_rules.specs.Crossings.{crossers}
use Rattle.world_rules.specs.Intents.{is_in, those_in}
use Rattle.world_rules.specs.Sound.{IsSound}
use Rattle.world_rules.specs.Tick.{book, gained, inner}
use Rattle.world_rules.proofs.Lifting.{AreIdsOnce}
use Rattle.room_rules.specs.Followed.{part_stored, FollowRooms}
use Rattle.room_rules.specs.RoomRules.{is_player}
use Rattle.room_rules.specs.Within.{between}
use Rattle.room_rules.proofs.Followed.{followed_sound}
use Rattle.room_rules.proofs.Sound.{sound_keeps}
use Rattle.exit_crossing.specs.declared.leaving.Crosser.{Crosser}
use Rattle.room_table.specs.Tallies.{no_tallies}
use Rattle.exit_crossing.specs.Crossing.{AreCrossers, AreForgotten, AreIdsApart, most_arrivals, rested_room}
use Rattle.exit_crossing.specs.inner.Leaving.{crossers_among, id_of}
use Rattle.exit_crossing.proofs.Sorted.{are_crossers, are_of_world}
use Rattle.ruled_tick.specs.inner.Entered.{AreGains}
use Rattle.ruled_tick.specs.inner.Ticked.{IsRuledRooms}
use Rattle.ruled_tick.proofs.Players.{keeps_more}
use Rattle.ruled_tick.proofs.Readied.{all_of_places, left_ids, left_places, once_left, rooms_ruled}
use Rattle.room_step.specs.Stepping.{anybody, KeepsItsRules}
use Rattle.room_step.specs.declared.rooms.Underway.{Underway}
use Rattle.room_step.specs.Steps.{list_at}
use Rattle.room_step.specs.inner.Rooms.{HasStepped, IsLeft, IsLeftAt}
use Rattle.room_step.proofs.Earned.{all_earned}
use Rattle.room_step.proofs.Following.{follow_left}
use Rattle.room_step.proofs.Inside.{inside}

-- ---- a room among those of a sound world

pub keeps_its_rules : (stored : Stored) → IsSound stored → (k : ℕ) (room : Room) → slice_get stored.rooms k ≡ Some room → KeepsItsRules between room.terrain room.table
keeps_its_rules stored sound k room at = keeps_more (is_player (world_of stored)) anybody (λ player listed. refl) between (part_stored room) (sound_keeps stored sound k room at)

-- the list of a place
pub read_list : (lists : List (List Intent)) (i : ℕ) (d : List Intent) → i < length lists → get_or lists i d ≡ list_at lists i
read_list lists i d inside = get_or_from_slice_get lists i (list_at lists i) d (slice_get-get_or lists i [] inside)

pub few_those : (world : World) (k : ℕ) (list : List Intent) → length (those_in world k list) ≤ length list
few_those world k list = omega (arith, length-filter (is_in world k) list, count_by-le-length (is_in world k) list)

-- ---- what is left of a room that is there

module _ (lists : ℕ → List Intent) (P : Room → Type 0) (each : (entries : List Intent) (room left : Room) → IsLeft entries room left → P left) where
  left_has : (entries : List Intent) (room mate : Option Room) (left : Room) → mate ≡ Some left → IsLeftAt entries room mate → P left
  left_has entries None None left at is = absurd cc
  left_has entries None (Some mate) left at is = absurd is
  left_has entries (Some room) None left at is = absurd is
  left_has entries (Some room) (Some mate) left at is = let same : mate ≡ left = cc in subst P same (each entries room mate is)

  all_left : (rooms left : List Room) → ((k : ℕ) → IsLeftAt (lists k) (slice_get rooms k) (slice_get left k)) → AllByRecursion P left
  all_left rooms left are = all_of_places P left (λ k mate at. left_has (lists k) (slice_get rooms k) (slice_get left k) mate at (are k))

module _ (stored : Stored) (sound : IsSound stored) (lists : List (List Intent)) (as_many : length lists ≡ length stored.rooms) (list : List Intent) (are : AreSplit (world_of stored) list lists)
    (now : Underway) (has : HasStepped (stored.tick + 1) stored.accounts lists stored.rooms now) where
  pub split : (k : ℕ) (room : Room) → slice_get stored.rooms k ≡ Some room → list_at lists k ≡ those_in (world_of stored) k list
  split k room at = are k (omega (arith, as_many, slice_get_within stored.rooms k room at))

  left : List Room
  left = has.left

  abbrev last : Stored
  last = record stored { rooms = map rested_room has.left }

  abbrev players : ℕ → Bool
  players = is_player (world_of stored)

  follow : FollowRooms players between stored (record stored { rooms = map rested_room has.left })
  follow = follow_left stored sound (list_at lists) has.left has.each

  tiles : AllByRecursion (λ room. AllByRecursion IsOnTile room.table.objects) has.left
  tiles = all_left (list_at lists) (λ room. AllByRecursion IsOnTile room.table.objects) (λ entries room mate is. is.tiles) stored.rooms has.left has.each

  spare : AllByRecursion (λ room. most_arrivals ≤ room.table.spare) has.left
  spare = all_left (list_at lists) (λ room. most_arrivals ≤ room.table.spare) (λ entries room mate is. is.memory) stored.rooms has.left has.each

  forgotten : AreForgotten has.left
  forgotten = all_left (list_at lists) (λ room. room.table.tallies ≡ no_tallies) (λ entries room mate is. is.sums) stored.rooms has.left has.each

  rising : HaveRisingTables has.left
  rising = all_left (list_at lists) (λ room. IsRising room.table.objects) (λ entries room mate is. is.rising) stored.rooms has.left has.each

  once : AreIdsOnce has.left
  once = once_left stored sound players has.left follow tiles spare

  places : (k : ℕ) (room : Room) → slice_get has.left k ≡ Some room → room.table.index ≡ k
  places = left_places stored sound players has.left follow tiles spare

  ids_apart : AreIdsApart has.left
  ids_apart = left_ids stored sound players has.left follow tiles spare

  inside_is : world_of (record stored { rooms = has.left }) ≡ (inner book (world_of stored) list).world
  inside_is = inside stored sound list (list_at lists) split has.left once has.each

  sound_then : IsSound (record stored { rooms = map rested_room has.left })
  sound_then = followed_sound stored last sound follow (record { rising = sound.accounts; players = λ player listed. listed; fewer = λ player. omega arith })

  -- ---- the whole

  -- With all crossers in rising id it is the tick of the rooms.
  pub are_ruled : (crossing : List Crosser) → IsPermutation (crossers_among has.left) crossing → IsNonDecreasingBy id_of crossing → IsRuledRooms stored (λ intents. intents ≡ list) now.world crossing
  are_ruled crossing same order =
      let gone : Stored = record stored { rooms = has.left } in
      let ids : (s : Stored) → s.rooms ≡ has.left → map (λ (crosser : Crosser). crosser.id) crossing ≡ crossers (world_of s) = λ s at.
      are_of_world s
      (subst (λ (rooms : List Room). (k : ℕ) (room : Room) → slice_get rooms k ≡ Some room → room.table.index ≡ k) (sym at) places)
      (subst HaveRisingTables (sym at) rising)
      (subst AreIdsApart (sym at) ids_apart)
      crossing (subst (λ (rooms : List Room). IsPermutation (crossers_among rooms) crossing) (sym at) same) order in
      let found : AreCrossers (map rested_room has.left) crossing = are_crossers gone places rising ids_apart crossing same order in
      rooms_ruled stored sound players has.left follow tiles spare (λ intents. intents ≡ list) sound_then forgotten has.many
      (λ intents is. subst (λ (those : List Intent). world_of gone ≡ (inner book (world_of stored) those).world) (sym is) inside_is)
      crossing ids found now.world has.world

  -- Beside each account stands what its player gained in all rooms.
  pub are_gains : AreGains (gained book (world_of stored) list) stored.accounts now.gains.items
  are_gains = has.gains ∙ (λ i. map (λ (account : Account). min (2 ^ 64 - 1) (all_earned stored sound list (list_at lists) split account.player i)) stored.accounts)
