-- Movement and upkeep in every room, on the world and on what is stored.
use Rattle.std.proofs.Common.{◌≡◌, ℕ, List, [], ◌∷◌, Option, Some, None, option_map, option_and_then, slice_get, refl, sym, ap, ◌∙◌}
use Rattle.std.specs.List.{AllByRecursion}
use Rattle.std.specs.Cmp.{nat_cmp_total}
use Rattle.std.specs.FinMap.{get, get-from_entries, same_map, nat_cmp-IsAntisymmetric}
use Rattle.intent_book.specs.declared.intent.Intent.{Intent}
use Rattle.object_store.specs.declared.world.Room.{Room}
use Rattle.object_store.specs.Stored.{Stored}
use Rattle.world_rules.specs.World.{Frame, World, listed_room, listing_of, placed, world_of}
use Rattle.world_rules.specs.RoomParts.{RoomPart, in_every_room, objects_in}
use Rattle.world_rules.specs.RuleBook.{Sums, Step, Follows, StaysInRoom}
use Rattle.world_rules.specs.RoomTick.{room_after_steps}
use Rattle.world_rules.specs.Seen.{Seen, seen}
use Rattle.world_rules.specs.Moves.{moved}
use Rattle.world_rules.specs.Upkeep.{steps}
use Rattle.world_rules.specs.Tick.{after_steps}
use Rattle.world_rules.proofs.Lifting.{AreIdsOnce, found_in_room, found_in_table, frame_stored}
use Rattle.world_rules.proofs.Orderly.{book_orderly}
use Rattle.world_rules.proofs.Parts.{changed, changed_as, get_objects_in, only, same_world}
use Rattle.room_rules.specs.Followed.{part_stored}
use Rattle.room_rules.proofs.Sound.{get_part}
use Rattle.room_commutes.specs.Serials.{AreSerialsUsed}
use Rattle.room_rules.specs.Calls.{AreSumsOf}
use Rattle.room_commutes.proofs.Everywhere.{every_here, in_tick_every, in_tick_steps}
use Rattle.room_commutes.proofs.InTick.{IsInTick, at_start}
use Rattle.ruled_tick.specs.inner.Ticked.{ticked_part, IsTickedAt}
use Rattle.ruled_tick.proofs.Rested.{part_ticked}

-- ---- changes one after the other, seen at a room

changed_more : (f g : RoomPart → RoomPart) → StaysInRoom f → (k : ℕ) (s : Seen) (found : Option Frame) → s.frame ≡ found → changed_as g k (changed_as f k s found) (changed_as f k s found).frame ≡ changed_as (λ part. g (f part)) k s found
changed_more f g own k s None is = ap (changed_as g k s) is
changed_more f g own k s (Some frame) is =
    let part : RoomPart = record { rules = s.rules; index = k; grounds = frame.grounds; next = frame.next; objects = s.objects } in
    let follows : Follows part (f part) = own part in
    let same : record { rules = s.rules; index = k; grounds = frame.grounds; next = (f part).next; objects = (f part).objects } ≡ f part =
    λ i. record { rules = sym follows.rules i; index = sym follows.index i; grounds = sym follows.grounds i; next = (f part).next; objects = (f part).objects } in
    λ i. record s { frame = Some (record frame { next = (g (same i)).next }); objects = (g (same i)).objects }

abbrev AreOrderly : List Step → Type 0
AreOrderly list = AllByRecursion (λ step. (given : Sums) → StaysInRoom (step given)) list

module _ (before : World) (sums : ℕ → Sums) where
  steps_here : (list : List Step) → AreOrderly list → (k : ℕ) (now : World) → IsInTick before now → seen (after_steps sums list now) k ≡ changed (room_after_steps (sums k) list) k (seen now k)
  steps_here [] own k now in_tick = nothing (seen now k).frame refl
    where
      nothing : (found : Option Frame) → (seen now k).frame ≡ found → seen now k ≡ changed_as (λ part. part) k (seen now k) found
      nothing None is = refl
      nothing (Some frame) is = λ i. record (seen now k) { frame = is i }
  steps_here (step ∷ later) own k now in_tick =
      let change : ℕ → RoomPart → RoomPart = λ room. step (sums room) in
      let next : World = in_every_room change now in
      steps_here later own.1 k next (in_tick_every before change (λ room. own.0 (sums room)) now in_tick)
      ∙ ap (changed (room_after_steps (sums k) later) k) (every_here before change (λ room. own.0 (sums room)) k now in_tick)
      ∙ changed_more (change k) (room_after_steps (sums k) later) (own.0 (sums k)) k (seen now k) (seen now k).frame refl

-- ---- a stored world, seen at a room

pub stored_objects : (w : Stored) → AreIdsOnce w.rooms → (k id : ℕ) → get (objects_in (world_of w) k) id ≡ option_and_then (found_in_table id) (slice_get w.rooms k)
stored_objects w alone k id =
    get_objects_in (world_of w) k id
    ∙ ap (option_and_then (only k)) (get-from_entries nat_cmp_total (placed (listing_of w)) id)
    ∙ sym (found_in_room w.rooms k id alone)

module _ (w : Stored) (used : AreSerialsUsed (world_of w)) (places : (k : ℕ) (room : Room) → slice_get w.rooms k ≡ Some room → room.table.index ≡ k) (apart : AreIdsOnce w.rooms)
    (rooms : List Room) (alone : AreIdsOnce rooms) (moves : ℕ → List Intent) (sums : ℕ → Sums) (told : (k : ℕ) (room : Room) → slice_get w.rooms k ≡ Some room → AreSumsOf (sums k) room.table)
    (are : (k : ℕ) → IsTickedAt (moves k) (slice_get w.rooms k) (slice_get rooms k)) where
  abbrev later : Stored
  later = record w { rooms = rooms }

  start : World
  start = world_of w

  in_tick : IsInTick (world_of w) (world_of w)
  in_tick = at_start (world_of w) used

  moves_own : (k : ℕ) → StaysInRoom (moved (moves k))
  moves_own k = book_orderly.moved (moves k)

  abbrev after_moves : World
  after_moves = in_every_room (λ k. moved (moves k)) (world_of w)

  moves_in_tick : IsInTick (world_of w) after_moves
  moves_in_tick = in_tick_every (world_of w) (λ k. moved (moves k)) moves_own (world_of w) in_tick

  abbrev after_all : World
  after_all = after_steps sums steps after_moves

  all_in_tick : IsInTick (world_of w) after_all
  all_in_tick = in_tick_steps (world_of w) sums steps book_orderly.steps after_moves moves_in_tick

  abbrev change : ℕ → RoomPart → RoomPart
  change k = ticked_part (moves k) (sums k)

  all_here : (k : ℕ) → seen after_all k ≡ changed (change k) k (seen (world_of w) k)
  all_here k =
      steps_here (world_of w) sums steps book_orderly.steps k after_moves moves_in_tick
      ∙ ap (changed (room_after_steps (sums k) steps) k) (every_here (world_of w) (λ room. moved (moves room)) moves_own k (world_of w) in_tick)
      ∙ changed_more (moved (moves k)) (room_after_steps (sums k) steps) (moves_own k) k (seen (world_of w) k) (seen (world_of w) k).frame refl

  -- the room of an index before and after
  here_as : (k : ℕ) (found then_found : Option Room) → slice_get w.rooms k ≡ found → slice_get rooms k ≡ then_found → IsTickedAt (moves k) found then_found → seen (world_of later) k ≡ changed (change k) k (seen (world_of w) k)
  here_as k None None is mate ticked =
      let frame : get (world_of w).rooms k ≡ None = frame_stored w k ∙ ap (option_map (λ (room : Room). (listed_room room).frame)) is in
      let frame_then : get (world_of later).rooms k ≡ None = frame_stored later k ∙ ap (option_map (λ (room : Room). (listed_room room).frame)) mate in
      let objects = same_map nat_cmp_total nat_cmp-IsAntisymmetric (objects_in (world_of later) k) (objects_in (world_of w) k) (λ id.
      stored_objects later alone k id ∙ ap (option_and_then (found_in_table id)) (mate ∙ sym is) ∙ sym (stored_objects w apart k id)) in
      (λ i. record { rules = 1; frame = (frame_then ∙ sym frame) i; objects = objects i })
      ∙ sym (ap (changed_as (change k) k (seen (world_of w) k)) frame)
  here_as k None (Some mate) is at ticked = absurd ticked
  here_as k (Some room) None is at ticked = absurd ticked
  here_as k (Some room) (Some mate) is at ticked =
      let place : room.table.index ≡ k = places k room is in
      let frame : get (world_of w).rooms k ≡ Some (listed_room room).frame = frame_stored w k ∙ ap (option_map (λ (room : Room). (listed_room room).frame)) is in
      let frame_then : get (world_of later).rooms k ≡ Some (listed_room mate).frame = frame_stored later k ∙ ap (option_map (λ (room : Room). (listed_room room).frame)) at in
      let objects : objects_in (world_of w) k ≡ (part_stored room).objects = same_map nat_cmp_total nat_cmp-IsAntisymmetric (objects_in (world_of w) k) (part_stored room).objects (λ id.
      stored_objects w apart k id ∙ ap (option_and_then (found_in_table id)) is ∙ sym (get_part room id)) in
      let objects_then : objects_in (world_of later) k ≡ (part_stored mate).objects = same_map nat_cmp_total nat_cmp-IsAntisymmetric (objects_in (world_of later) k) (part_stored mate).objects (λ id.
      stored_objects later alone k id ∙ ap (option_and_then (found_in_table id)) at ∙ sym (get_part mate id)) in
      let given : RoomPart = record { rules = 1; index = k; grounds = room.terrain; next = room.table.next; objects = objects_in (world_of w) k } in
      let same : part_stored room ≡ given = λ i. record { rules = 1; index = place i; grounds = room.terrain; next = room.table.next; objects = sym objects i } in
      let part : part_stored mate ≡ change k given = part_ticked (moves k) room mate ticked (sums k) (told k room is) ∙ ap (change k) same in
      (λ i. record { rules = 1; frame = frame_then i; objects = objects_then i })
      ∙ (λ i. record { rules = 1; frame = Some (record { name = ticked.name i; grounds = ticked.terrain i; next = (part i).next }); objects = (part i).objects })
      ∙ sym (ap (changed_as (change k) k (seen (world_of w) k)) frame)

  -- The rooms that were ticked store the world after movement and all steps.
  pub stored_after : world_of later ≡ after_all
  stored_after = same_world (world_of later) after_all (sym all_in_tick.tick) (sym all_in_tick.accounts) (λ k.
      here_as k (slice_get w.rooms k) (slice_get rooms k) refl refl (are k) ∙ sym (all_here k))
