-- After movement and upkeep, once no creep has moved, the rooms follow those before, and the world is sound.
use Rattle.std.proofs.Common.{◌≡◌, ℕ, ◌==◌, Bool, true, false, cond, if◌then◌else◌, List, [], ◌∷◌, map, Option, Some, None, option_map, option_and_then, slice_get, refl, sym, ap, subst, ◌∙◌, arith}
use Rattle.std.specs.List.{AllByRecursion, filter_map, sum_by}
use Rattle.std.specs.Ordering.{nat_cmp}
use Rattle.std.specs.FinMap.{find, from_entries}
use Rattle.std.proofs.lemmas.List.Sums.{sum_by-cons}
use Rattle.std.proofs.lemmas.Bool.{eqb-true}
use Rattle.std.proofs.lemmas.Option.{slice_get-map}
use Rattle.game_tables.specs.Kinds.{is_creep}
use Rattle.intent_book.specs.declared.intent.Intent.{Intent}
use Rattle.room_table.specs.declared.object.Object.{Object}
use Rattle.object_store.specs.declared.world.Room.{Room}
use Rattle.room_table.specs.Tables.{Table, IsRising, IsOnTile, HasId}
use Rattle.object_store.specs.Stored.{Stored}
use Rattle.world_rules.specs.World.{Placed, listed_room, placed_from, world_of}
use Rattle.room_terrain.specs.declared.terrain.Ground.{Ground}
use Rattle.world_rules.specs.RoomParts.{RoomPart, table_part}
use Rattle.world_rules.specs.RuleBook.{Sums, Step, Follows, StaysInRoom}
use Rattle.world_rules.specs.RoomTick.{room_after_steps}
use Rattle.world_rules.specs.Steps.{each}
use Rattle.world_rules.specs.Crossings.{still}
use Rattle.world_rules.specs.Moves.{moved}
use Rattle.world_rules.specs.Upkeep.{first_steps, steps}
use Rattle.world_rules.specs.Sound.{IsSound}
use Rattle.world_rules.proofs.Each.{each-stored, IsRising-filter_map}
use Rattle.world_rules.proofs.Follows.{follows_self, follows_trans, follows_each}
use Rattle.world_rules.proofs.Keys.{keyed}
use Rattle.world_rules.proofs.Lifting.{AreIdsOnce, found_in_room, found_in_table, times_in, times_room, times_rooms}
use Rattle.world_rules.proofs.Orderly.{book_orderly}
use Rattle.world_rules.proofs.Parts.{only}
use Rattle.world_rules.proofs.TableParts.{find_keyed}
use Rattle.room_table.specs.Tallies.{tally_of}
use Rattle.room_rules.specs.Calls.{AreActorsOnce, AreSumsOf}
use Rattle.room_rules.specs.Within.{between, within, moved as stage_moved}
use Rattle.room_rules.specs.RoomRules.{KeepsRoomRules, is_player}
use Rattle.room_rules.specs.Followed.{part_stored, FollowsRoom, FollowsAt, FollowRooms}
use Rattle.room_rules.proofs.Followed.{followed_once, followed_sound}
use Rattle.room_rules.proofs.Rules.{first_lead, later_lead}
use Rattle.room_rules.proofs.Steps.{keeps_rest}
use Rattle.room_rules.proofs.Moved.{keeps_moved}
use Rattle.exit_crossing.specs.Crossing.{AreIdsApart, rested_room}
use Rattle.ruled_tick.specs.inner.Ticked.{ticked_part, IsTicked, IsTickedAt}

-- ---- objects at rest

abbrev rests : Object → Option Object
rests object = Some (still object)

still_id : (object : Object) → (still object).id ≡ object.id
still_id object = elim (is_creep object.kind) as (λ b. (if b then record object { other_ticks = 0 } else object).id ≡ object.id) [ true ↦ refl | false ↦ refl ]

rests_id : (object later : Object) → rests object ≡ Some later → later.id ≡ object.id
rests_id object later is = let same : still object ≡ later = cc in ap (λ (o : Object). o.id) (sym same) ∙ still_id object

all_rest : (objects : List Object) → filter_map rests objects ≡ map still objects
all_rest [] = refl
all_rest (object ∷ objects) = ap (λ (more : List Object). still object ∷ more) (all_rest objects)

pub rested_part : (room : Room) → IsRising room.table.objects → part_stored (rested_room room) ≡ each rests (part_stored room)
rested_part room rise =
    (λ i. record { rules = 1; index = room.table.index; grounds = room.terrain; next = room.table.next; objects = from_entries (keyed (λ (o : Object). o.id) (sym (all_rest room.table.objects) i)) })
    ∙ sym (each-stored rests rests_id room.table.index room rise).part

pub rested_rise : (objects : List Object) → IsRising objects → IsRising (map still objects)
rested_rise objects rise = subst IsRising (all_rest objects) (IsRising-filter_map rests rests_id objects rise)

still_tile : (object : Object) → IsOnTile object → IsOnTile (still object)
still_tile object on = elim (is_creep object.kind) as (λ b. IsOnTile (if b then record object { other_ticks = 0 } else object)) [ true ↦ record { column = on.column; row = on.row } | false ↦ on ]

pub rested_tiles : (objects : List Object) → AllByRecursion IsOnTile objects → AllByRecursion IsOnTile (map still objects)
rested_tiles [] on = tt
rested_tiles (object ∷ objects) on = (still_tile object on.0, rested_tiles objects on.1)

-- ---- how often an id stands

same_times : (id : ℕ) (objects : List Object) → times_in id (map still objects) ≡ times_in id objects
same_times id [] = refl
same_times id (object ∷ objects) =
    let count : Object → ℕ = λ o. cond (o.id == id) 1 0 in
    let here = ap (λ (n : ℕ). cond {A = ℕ} (n == id) 1 0) (still_id object) in
    omega (arith, sum_by-cons count object objects, sum_by-cons count (still object) (map still objects), here, same_times id objects)

same_rooms : (id : ℕ) (rooms : List Room) → sum_by (times_room id) (map rested_room rooms) ≡ sum_by (times_room id) rooms
same_rooms id [] = refl
same_rooms id (room ∷ rooms) =
    omega (arith, sum_by-cons (times_room id) room rooms, sum_by-cons (times_room id) (rested_room room) (map rested_room rooms), same_times id room.table.objects, same_rooms id rooms)

pub once_before_rest : (rooms : List Room) → AreIdsOnce (map rested_room rooms) → AreIdsOnce rooms
once_before_rest rooms alone id = omega (arith, alone id, times_rooms id 0 rooms, times_rooms id 0 (map rested_room rooms), same_rooms id rooms)

-- ---- no id in two rooms

found_placed : (rooms : List Room) → AreIdsOnce rooms → (k id : ℕ) (room : Room) → slice_get rooms k ≡ Some room → HasId id room.table.objects → (p : Placed) × (find nat_cmp id (placed_from 0 (map listed_room rooms)) ≡ Some p) × (p.room ≡ k)
found_placed rooms alone k id room at has = placed_as (find nat_cmp id (placed_from 0 (map listed_room rooms))) (sym (found_in_room rooms k id alone) ∙ ap (option_and_then (found_in_table id)) at ∙ find_keyed id room.table.objects ∙ has.1)
  where
    placed_as : (found : Option Placed) → option_and_then (only k) found ≡ Some has.0 → (p : Placed) × (found ≡ Some p) × (p.room ≡ k)
    placed_as None is = absurd cc
    placed_as (Some p) is = elim (p.room == k) as (λ b. (p.room == k) ≡ b → (if b then Some p.object else None) ≡ Some has.0 → (q : Placed) × (Some p ≡ Some q) × (q.room ≡ k)) [
      | true ↦ λ same got. (p, refl, eqb-true p.room k same)
      | false ↦ λ same got. absurd cc
    ] refl is

pub ids_apart : (rooms : List Room) → AreIdsOnce rooms → AreIdsApart rooms
ids_apart rooms alone one other id first second at there has mate =
    let here = found_placed rooms alone one id first at has in
    let beside = found_placed rooms alone other id second there mate in
    let same : here.0 ≡ beside.0 = let got : Some here.0 ≡ Some beside.0 = sym here.1 ∙ beside.1 in cc in
    sym here.2 ∙ ap (λ (p : Placed). p.room) same ∙ beside.2

-- ---- rooms

pub steps_follow : (list : List Step) → AllByRecursion (λ step. (sums : Sums) → StaysInRoom (step sums)) list → (sums : Sums) → StaysInRoom (room_after_steps sums list)
steps_follow [] all sums part = follows_self part
steps_follow (step ∷ later) all sums part = follows_trans part (step sums part) (room_after_steps sums later (step sums part)) (all.0 sums part) (steps_follow later all.1 sums (step sums part))

-- the sums that are beside a table
pub sums_beside : Table → Sums
sums_beside table = record { damage = λ id. (tally_of id table.tallies).damage; healing = λ id. (tally_of id table.tallies).healing }

pub beside_are : (table : Table) → AreSumsOf (sums_beside table) table
unfolding sums_beside
beside_are table = record { damage = λ id has. refl; healing = λ id has. refl }

-- the part of a room after movement and upkeep
pub part_ticked : (moves : List Intent) (room later : Room) → IsTicked moves room later → (sums : Sums) → AreSumsOf sums room.table → part_stored later ≡ ticked_part moves sums (part_stored room)
part_ticked moves room later ticked sums are = ap (λ (grounds : List Ground). table_part grounds later.table) ticked.terrain ∙ ticked.table.part sums are

module _ (stored : Stored) (sound : IsSound stored) (before : List Room) (follow : FollowRooms (is_player (world_of stored)) within stored (record stored { rooms = before }))
    (rooms : List Room) (moves : ℕ → List Intent) (alone : (k : ℕ) → AreActorsOnce (moves k)) (are : (k : ℕ) → IsTickedAt (moves k) (slice_get before k) (slice_get rooms k)) where
  abbrev players : ℕ → Bool
  players = is_player (world_of stored)

  abbrev pub at_rest : Stored
  at_rest = record stored { rooms = map rested_room rooms }

  -- what a room becomes follows what it was as the tick began
  room_follows : (k : ℕ) (was room mate : Room) → FollowsRoom players within was room → IsTicked (moves k) room mate → FollowsRoom players between was (rested_room mate)
  room_follows k was room mate came ticked =
      let first : RoomPart = part_stored was in
      let part : RoomPart = part_stored room in
      let sums : Sums = sums_beside room.table in
      let stepped : RoomPart = moved (moves k) part in
      let early : RoomPart = room_after_steps sums first_steps stepped in
      let done : RoomPart = ticked_part (moves k) sums part in
      let is : part_stored (rested_room mate) ≡ each rests done = rested_part mate ticked.table.rising ∙ ap (each rests) (part_ticked (moves k) room mate ticked sums (beside_are room.table)) in
      let kept : KeepsRoomRules players within stepped = keeps_moved players (moves k) part (alone k) came.keeps in
      let upkept : KeepsRoomRules players stage_moved done = later_lead sums players early (first_lead sums players stepped kept) in
      let follows : Follows part (each rests done) =
      follows_trans part stepped (each rests done) (book_orderly.moved (moves k) part)
      (follows_trans stepped done (each rests done) (steps_follow steps book_orderly.steps sums stepped) (follows_each rests done)) in
      record {
        name = ticked.name ∙ came.name;
        terrain = ticked.terrain ∙ came.terrain;
        index = ticked.table.index ∙ came.index;
        rising = rested_rise mate.table.objects ticked.table.rising;
        follows = subst (Follows first) (sym is) (follows_trans first part (each rests done) came.follows follows);
        keeps = subst (KeepsRoomRules players between) (sym is) (keeps_rest players done upkept);
      }

  at_follows : (k : ℕ) (was found mate : Option Room) → FollowsAt players within was found → IsTickedAt (moves k) found mate → FollowsAt players between was (option_map rested_room mate)
  at_follows k None None None came ticked = tt
  at_follows k None None (Some mate) came ticked = absurd ticked
  at_follows k None (Some room) mate came ticked = absurd came
  at_follows k (Some was) None mate came ticked = absurd came
  at_follows k (Some was) (Some room) None came ticked = absurd ticked
  at_follows k (Some was) (Some room) (Some mate) came ticked = room_follows k was room mate came ticked

  pub follow_rested : FollowRooms players between stored at_rest
  follow_rested k =
      subst (FollowsAt players between (slice_get stored.rooms k)) (sym (slice_get-map rested_room rooms k)) (at_follows k (slice_get stored.rooms k) (slice_get before k) (slice_get rooms k) (follow k) (are k))

  -- It is a sound world.
  pub rested_sound : IsSound at_rest
  rested_sound = followed_sound stored at_rest sound follow_rested (record { rising = sound.accounts; players = λ player listed. listed; fewer = λ player. omega arith })

  pub once_rested : AreIdsOnce (map rested_room rooms)
  once_rested = followed_once stored at_rest sound between players follow_rested

  pub once_ticked : AreIdsOnce rooms
  once_ticked = once_before_rest rooms once_rested
