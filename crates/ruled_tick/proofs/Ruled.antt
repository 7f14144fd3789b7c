-- The rooms of a tick after all but crossings, entry by entry.
use Rattle.std.proofs.Common.{◌≡◌, Bool, ℕ, ◌+◌, ◌≤◌, List, [], length, map, take, drop, Option, Some, None, slice_get, sym, ap, subst, ◌∙◌}
use Rattle.std.specs.List.{AllByRecursion}
use Rattle.std.proofs.lemmas.List.{take_all}
use Rattle.intent_book.specs.declared.intent.Intent.{Intent}
use Rattle.object_store.specs.declared.world.Room.{Room}
use Rattle.room_table.specs.Tables.{IsOnTile}
use Rattle.object_store.specs.Stored.{Stored}
use Rattle.kept_entries.specs.declared.entries.Entry.{Entry}
use Rattle.kept_entries.specs.Turns.{in_turn, placed, placed_in, AreKept}
use Rattle.world_rules.specs.World.{World, world_of}
use Rattle.world_rules.specs.RoomParts.{in_every_room}
use Rattle.world_rules.specs.RuleBook.{Harm, Sums}
use Rattle.world_rules.specs.Crossings.{crossers}
use Rattle.world_rules.specs.Intents.{kept}
use Rattle.world_rules.specs.Moves.{moved}
use Rattle.world_rules.specs.Upkeep.{steps}
use Rattle.world_rules.specs.Tick.{Course, acted, after_steps, book, harms_in, inner, sums_in, sums_of}
use Rattle.world_rules.specs.Sound.{IsSound}
use Rattle.room_rules.specs.Calls.{AreActorsOnce, AreSumsOf}
use Rattle.room_rules.specs.Followed.{FollowRooms}
use Rattle.room_rules.specs.RoomRules.{is_player}
use Rattle.room_rules.specs.Within.{between, within}
use Rattle.room_rules.proofs.Followed.{followed_once}
use Rattle.room_rules.proofs.Ready.{movable}
use Rattle.room_commutes.specs.Serials.{AreSerialsUsed}
use Rattle.room_commutes.proofs.Births.{used_stored}
use Rattle.exit_crossing.specs.declared.leaving.Crosser.{Crosser}
use Rattle.room_table.specs.Tallies.{no_tallies}
use Rattle.exit_crossing.specs.Crossing.{AreCrossers, AreForgotten, AreIdsApart, IsReadyToCross, most_arrivals, rested_room}
use Rattle.ruled_tick.specs.inner.Entered.{entered_all, harms_entered, IsActed}
use Rattle.ruled_tick.specs.inner.Ticked.{moves_in, AreTicked, IsReadyToTick, IsRuledRooms, IsTickedAt}
use Rattle.ruled_tick.proofs.Actions.{acted_enters, used_entered}
use Rattle.ruled_tick.proofs.Entered.{came_from, keeps_here, place_here, unborn_here}
use Rattle.ruled_tick.proofs.Moves.{actors_once, moves_kept}
use Rattle.ruled_tick.proofs.Rested.{follow_rested, once_ticked, rested_sound}
use Rattle.ruled_tick.proofs.Worlds.{stored_after}
use Rattle.ruled_tick.proofs.Readied.{all_of_places, left_ids, left_places, ready, rooms_ruled}

spare_at : (moves : List Intent) (room : Room) (found mate : Option Room) → mate ≡ Some room → IsTickedAt moves found mate → most_arrivals ≤ room.table.spare
spare_at moves room None None is ticked = absurd cc
spare_at moves room None (Some mate) is ticked = absurd ticked
spare_at moves room (Some old) None is ticked = absurd ticked
spare_at moves room (Some old) (Some mate) is ticked = let same : mate ≡ room = cc in subst (λ (r : Room). most_arrivals ≤ r.table.spare) same ticked.table.spare

forgotten_at : (moves : List Intent) (room : Room) (found mate : Option Room) → mate ≡ Some room → IsTickedAt moves found mate → room.table.tallies ≡ no_tallies
forgotten_at moves room None None is ticked = absurd cc
forgotten_at moves room None (Some mate) is ticked = absurd ticked
forgotten_at moves room (Some old) None is ticked = absurd ticked
forgotten_at moves room (Some old) (Some mate) is ticked = let same : mate ≡ room = cc in subst (λ (r : Room). r.table.tallies ≡ no_tallies) same ticked.table.sums

-- ---- the whole

-- Within a tick of a sound world a room is ready for movement.
pub ready_to_tick : (stored : Stored) → IsSound stored → (rooms : List Room) (players : ℕ → Bool) → FollowRooms players within stored (record stored { rooms = rooms }) → (k : ℕ) (room : Room) → slice_get rooms k ≡ Some room → IsReadyToTick room.table
ready_to_tick stored sound rooms players follow k room at = record {
  movable = movable players within room (keeps_here stored sound rooms players follow k room at) (came_from stored sound rooms players follow k room at).2.rising;
  fresh = unborn_here stored sound rooms players follow k room at;
}

module _ (stored : Stored) (begins : IsSound stored) (entries : List Entry) (list : List Intent) (are : AreKept (world_of stored) list entries) (i : ℕ) (rooms : List Room) (acted_rooms : IsActed stored (take i entries) (drop i entries) rooms) (past : length entries ≤ i)
    (ticked : List Room) (all : AreTicked entries rooms ticked) where
  abbrev w : Stored
  w = record stored { rooms = rooms }

  abbrev players : ℕ → Bool
  players = is_player (world_of stored)

  abbrev moves : ℕ → List Intent
  moves k = moves_in k entries

  alone : (k : ℕ) → AreActorsOnce (moves_in k entries)
  alone = actors_once (world_of stored) list entries are

  abbrev last : Stored
  last = record stored { rooms = map rested_room ticked }

  sound : IsSound last
  sound = rested_sound stored begins rooms acted_rooms.follow ticked moves alone all

  rested_follow : FollowRooms players between stored last
  rested_follow = follow_rested stored begins rooms acted_rooms.follow ticked moves alone all

  tiles_at : (moves : List Intent) (room : Room) (found mate : Option Room) → mate ≡ Some room → IsTickedAt moves found mate → AllByRecursion IsOnTile room.table.objects
  tiles_at moves room None None is one = absurd cc
  tiles_at moves room None (Some mate) is one = absurd one
  tiles_at moves room (Some old) None is one = absurd one
  tiles_at moves room (Some old) (Some mate) is one = let same : mate ≡ room = cc in subst (λ (r : Room). AllByRecursion IsOnTile r.table.objects) same one.table.tiles

  pub ticked_tiles : AllByRecursion (λ room. AllByRecursion IsOnTile room.table.objects) ticked
  ticked_tiles = all_of_places (λ room. AllByRecursion IsOnTile room.table.objects) ticked (λ k room at. tiles_at (moves k) room (slice_get rooms k) (slice_get ticked k) at (all k))

  ticked_spare : AllByRecursion (λ room. most_arrivals ≤ room.table.spare) ticked
  ticked_spare = all_of_places (λ room. most_arrivals ≤ room.table.spare) ticked (λ k room at. spare_at (moves k) room (slice_get rooms k) (slice_get ticked k) at (all k))

  ticked_forgotten : AreForgotten ticked
  ticked_forgotten = all_of_places (λ room. room.table.tallies ≡ no_tallies) ticked (λ k room at. forgotten_at (moves k) room (slice_get rooms k) (slice_get ticked k) at (all k))

  pub ready_rooms : IsReadyToCross (map rested_room ticked)
  ready_rooms = ready stored begins players ticked rested_follow ticked_tiles ticked_spare

  -- what the crossers are found in
  pub ticked_places : (k : ℕ) (room : Room) → slice_get ticked k ≡ Some room → room.table.index ≡ k
  ticked_places = left_places stored begins players ticked rested_follow ticked_tiles ticked_spare

  pub ticked_ids : AreIdsApart ticked
  ticked_ids = left_ids stored begins players ticked rested_follow ticked_tiles ticked_spare

  -- the entries all together
  abbrev entered_list : List (Option ℕ × Intent)
  entered_list = map placed (take i entries)

  all_done : (intents : List Intent) → AreKept (world_of stored) intents entries → entered_list ≡ map (placed_in (world_of stored)) (in_turn (kept (world_of stored) intents))
  all_done intents kept_are = ap (map placed) (take_all i entries past) ∙ kept_are

  used : AreSerialsUsed (world_of w)
  used = subst AreSerialsUsed (sym acted_rooms.same) (used_entered (world_of stored) (used_stored stored begins) entered_list)

  -- the world before crossings
  inner_world : (intents : List Intent) → AreKept (world_of stored) intents entries → world_of (record stored { rooms = ticked }) ≡ (inner book (world_of stored) intents).world
  inner_world intents kept_are =
      let world : World = world_of stored in
      let after : Course = acted book world intents in
      let sums : ℕ → Sums = sums_in after in
      let enters = acted_enters stored begins intents in
      let entered : world_of w ≡ after.world = acted_rooms.same ∙ ap (entered_all world) (all_done intents kept_are) ∙ sym enters.world in
      let harms : harms_entered world entered_list ≡ after.harms = ap (harms_entered world) (all_done intents kept_are) ∙ sym enters.harms in
      let told : (k : ℕ) (room : Room) → slice_get rooms k ≡ Some room → AreSumsOf (sums k) room.table = λ k room at.
      subst (λ (h : List (ℕ × Harm)). AreSumsOf (sums_of (map (λ (one : ℕ × Harm). one.1) (harms_in k h))) room.table) harms (acted_rooms.summed k room at).sums in
      stored_after w used (place_here stored begins rooms players acted_rooms.follow) (followed_once stored w begins within players acted_rooms.follow) ticked (once_ticked stored begins rooms acted_rooms.follow ticked moves alone all) moves sums told all
      ∙ ap (λ (start : World). after_steps sums steps (in_every_room (λ k. moved (moves_in k entries)) start)) entered
      ∙ (λ j. after_steps sums steps (in_every_room (λ k. moved (moves_kept world intents entries kept_are k j)) after.world))

  pub are_ruled : (crossing : List Crosser) → ((s : Stored) → s.rooms ≡ ticked → map (λ crosser. crosser.id) crossing ≡ crossers (world_of s)) → AreCrossers (map rested_room ticked) crossing
      → (next : Stored) → next ≡ record { tick = stored.tick + 1; rooms = map rested_room ticked; accounts = [] } → length ticked ≡ length rooms
      → IsRuledRooms stored (λ intents. AreKept (world_of stored) intents entries) next crossing
  are_ruled crossing ids found next is many =
      rooms_ruled stored begins players ticked rested_follow ticked_tiles ticked_spare (λ intents. AreKept (world_of stored) intents entries) sound ticked_forgotten (many ∙ acted_rooms.many) inner_world crossing ids found next is
