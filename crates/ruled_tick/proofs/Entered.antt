-- The rule of an entry in a room of what is stored, within a tick of a sound world: the world after it, and that its rooms
-- keep following.
use Rattle.std.proofs.Common.{◌≡◌, ℕ, ◌+◌, ◌-◌, ◌*◌, ◌^◌, ◌<◌, ◌≤◌, ◌==◌, Bool, true, false, cond, List, ◌∷◌, ◌++◌, length, set, Option, Some, option_map, option_and_then, slice_get, refl, sym, ap, subst, ◌∙◌, arith}
use Rattle.std.specs.Cmp.{nat_cmp_total}
use Rattle.std.specs.FinMap.{get, same_map, nat_cmp-IsAntisymmetric}
use Rattle.std.proofs.lemmas.Bool.{eqb-true}
use Rattle.std.proofs.lemmas.Option.{slice_get_within}
use Rattle.intent_book.specs.declared.intent.Intent.{Intent}
use Rattle.object_store.specs.declared.world.Room.{Room}
use Rattle.room_table.specs.Tables.{Table, HasNoId, find_object}
use Rattle.object_store.specs.Stored.{Stored}
use Rattle.world_rules.specs.World.{Frame, listed_room, world_of}
use Rattle.world_rules.specs.RoomParts.{RoomPart, in_room, objects_in, part_at, part_of}
use Rattle.world_rules.specs.RuleBook.{Follows}
use Rattle.world_rules.specs.Tick.{book}
use Rattle.world_rules.specs.Sound.{IsSound}
use Rattle.world_rules.proofs.Follows.{follows_self, follows_trans}
use Rattle.world_rules.proofs.Lifting.{AreIdsOnce, found_in_table, frame_stored, stored_part, in_room-stored}
use Rattle.world_rules.proofs.Orderly.{book_orderly}
use Rattle.world_rules.proofs.Same.{tables_at}
use Rattle.room_rules.specs.Calls.{IsReady}
use Rattle.room_rules.specs.Within.{within}
use Rattle.room_rules.specs.RoomRules.{KeepsRoomRules, is_player}
use Rattle.room_rules.specs.Followed.{part_stored, FollowsRoom, FollowsAt, FollowRooms}
use Rattle.room_rules.proofs.Followed.{came, followed_once}
use Rattle.room_rules.proofs.Ready.{movable, unborn}
use Rattle.room_rules.proofs.Rules.{begun_leads, rule_keeps}
use Rattle.room_rules.proofs.Sound.{get_part, sound_keeps}
use Rattle.ruled_tick.specs.inner.Entered.{IsRuled}
use Rattle.ruled_tick.proofs.Places.{get_set, split_at}
use Rattle.ruled_tick.proofs.Worlds.{stored_objects}

abbrev pub frame_at : Option Room → Option Frame
frame_at found = option_map (λ room. (listed_room room).frame) found

-- A room of a sound world follows itself, at the stage within a tick.
pub begins_at : (w : Stored) → IsSound w → (k : ℕ) (room : Room) → slice_get w.rooms k ≡ Some room → FollowsRoom (is_player (world_of w)) within room room
begins_at w sound k room is = record {
  name = refl;
  terrain = refl;
  index = refl;
  rising = tables_at w.rooms k room sound.tables is;
  follows = follows_self (part_stored room);
  keeps = begun_leads (is_player (world_of w)) (part_stored room) (sound_keeps w sound k room is);
}

module _ (stored : Stored) (sound : IsSound stored) (rooms : List Room) (players : ℕ → Bool) (follow : FollowRooms players within stored (record stored { rooms = rooms })) where
  abbrev pub with_rooms : List Room → Stored
  with_rooms list = record stored { rooms = list }

  -- the room from which one of these came
  pub came_from : (k : ℕ) (room : Room) → slice_get rooms k ≡ Some room → (was : Room) × (slice_get stored.rooms k ≡ Some was) × FollowsRoom players within was room
  came_from k room at = let found = came stored (with_rooms rooms) sound within players follow k room at in (found.0, found.1, found.2)

  pub keeps_here : (k : ℕ) (room : Room) → slice_get rooms k ≡ Some room → KeepsRoomRules players within (part_stored room)
  keeps_here k room at = (came_from k room at).2.keeps

  pub place_here : (k : ℕ) (room : Room) → slice_get rooms k ≡ Some room → room.table.index ≡ k
  place_here k room at = let found = came_from k room at in found.2.index ∙ sound.places k found.0 found.1

  module _ (k : ℕ) (room : Room) (at : slice_get rooms k ≡ Some room) where
    -- no object has an id that the room will give
    pub unborn_here : (serial : ℕ) → room.table.next ≤ serial → serial < 2 ^ 32 → HasNoId (room.table.index * 2 ^ 32 + serial) room.table.objects
    unborn_here serial least below = unborn players within room (keeps_here k room at) (came_from k room at).2.rising serial least below (find_object (room.table.index * 2 ^ 32 + serial) room.table.objects) refl

    -- its table is ready, where serials and memory are left
    pub is_ready : room.table.next < 2 ^ 32 - 1 → 1 ≤ room.table.spare → IsReady room.table
    is_ready below spare = record {
      spare = spare;
      serial = below;
      fresh = unborn_here room.table.next (omega arith) (omega (arith, below));
      tiles = (movable players within room (keeps_here k room at) (came_from k room at).2.rising).tiles;
    }

    -- its part of the world
    pub part_of_stored : part_at (world_of (with_rooms rooms)) k ≡ Some (part_stored room)
    part_of_stored =
        let w : Stored = with_rooms rooms in
        let once = followed_once stored w sound within players follow in
        let frame : get (world_of w).rooms k ≡ Some (listed_room room).frame = frame_stored w k ∙ ap frame_at at in
        let objects : objects_in (world_of w) k ≡ (part_stored room).objects = same_map nat_cmp_total nat_cmp-IsAntisymmetric (objects_in (world_of w) k) (part_stored room).objects (λ id.
        stored_objects w once k id ∙ ap (option_and_then (found_in_table id)) at ∙ sym (get_part room id)) in
        ap (option_map (part_of (world_of w) k)) frame
        ∙ (λ i. Some (record { rules = 1; index = sym (place_here k room at) i; grounds = room.terrain; next = room.table.next; objects = objects i }))

    module _ (entry : Intent) (some : 1 ≤ entry.player) (table : Table) (r : IsRuled room.terrain entry room.table table) where
      abbrev other : Room
      other = record room { table = table }

      abbrev pub then_rooms : List Room
      then_rooms = set rooms k other

      abbrev change : RoomPart → RoomPart
      change part = (book.effect entry part).part

      part_then : part_stored other ≡ change (part_stored room)
      part_then = r.rule

      follows : Follows (part_stored room) (part_stored other)
      follows = subst (Follows (part_stored room)) (sym part_then) (book_orderly.effect entry (part_stored room))

      follows_here : FollowsRoom players within (came_from k room at).0 other
      follows_here =
          let found = came_from k room at in
          record {
            name = found.2.name;
            terrain = found.2.terrain;
            index = follows.index ∙ found.2.index;
            rising = r.rising;
            follows = follows_trans (part_stored found.0) (part_stored room) (part_stored other) found.2.follows follows;
            keeps = subst (KeepsRoomRules players within) (sym part_then) (rule_keeps entry.action entry players (part_stored room) some found.2.keeps);
          }

      -- the rooms keep following
      pub follow_then : FollowRooms players within stored (with_rooms then_rooms)
      follow_then j = elim (j == k) as (λ b. (j == k) ≡ b → FollowsAt players within (slice_get stored.rooms j) (cond b (Some other) (slice_get rooms j)) → FollowsAt players within (slice_get stored.rooms j) (slice_get then_rooms j)) [
        | true ↦ λ same there. subst (FollowsAt players within (slice_get stored.rooms j)) (sym (get_set rooms k j other inside ∙ ap (λ (b : Bool). cond b (Some other) (slice_get rooms j)) same)) there
        | false ↦ λ apart there. subst (FollowsAt players within (slice_get stored.rooms j)) (sym (get_set rooms k j other inside ∙ ap (λ (b : Bool). cond b (Some other) (slice_get rooms j)) apart)) there
      ] refl (here_or j (j == k) refl)
        where
          inside : k < length rooms
          inside = slice_get_within rooms k room at

          here_or : (j : ℕ) (b : Bool) → (j == k) ≡ b → FollowsAt players within (slice_get stored.rooms j) (cond b (Some other) (slice_get rooms j))
          here_or j true same =
              let was : slice_get stored.rooms j ≡ Some (came_from k room at).0 = ap (slice_get stored.rooms) (eqb-true j k same) ∙ (came_from k room at).1 in
              subst (λ (found : Option Room). FollowsAt players within found (Some other)) (sym was) follows_here
          here_or j false apart = follow j

      place_then : table.index ≡ k
      place_then = follows.index ∙ place_here k room at

      -- the world after the entry
      pub ruled_world : in_room change k (world_of (with_rooms rooms)) ≡ world_of (with_rooms then_rooms)
      ruled_world =
          let parts = split_at rooms k room other at in
          let here : length parts.before ≡ k = parts.place in
          let one : part_stored room ≡ stored_part (length parts.before) room = λ i. record { rules = 1; index = (place_here k room at ∙ sym here) i; grounds = room.terrain; next = room.table.next; objects = (part_stored room).objects } in
          let two : part_stored other ≡ stored_part (length parts.before) other = λ i. record { rules = 1; index = (place_then ∙ sym here) i; grounds = room.terrain; next = table.next; objects = (part_stored other).objects } in
          let once = subst AreIdsOnce parts.whole (followed_once stored (with_rooms rooms) sound within players follow) in
          let once_then = subst AreIdsOnce parts.other (followed_once stored (with_rooms then_rooms) sound within players follow_then) in
          ap (λ (list : List Room). in_room change k (world_of (with_rooms list))) parts.whole
          ∙ ap (λ (n : ℕ). in_room change n (world_of (with_rooms (parts.before ++ room ∷ parts.after)))) (sym here)
          ∙ in_room-stored stored.tick stored.accounts parts.before room parts.after once table once_then change (sym (ap change one) ∙ sym part_then ∙ two)
          ∙ ap (λ (list : List Room). world_of (with_rooms list)) (sym parts.other)
