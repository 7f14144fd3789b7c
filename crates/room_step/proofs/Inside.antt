-- The rooms that are stepped are what happens inside the rooms of the whole world.
use Rattle.std.proofs.Common.{◌≡◌, ℕ, Bool, List, Option, Some, None, option_map, option_and_then, slice_get, refl, sym, ap, subst, ◌∙◌}
use Rattle.std.specs.Cmp.{nat_cmp_total}
use Rattle.std.specs.FinMap.{get, same_map, nat_cmp-IsAntisymmetric}
use Rattle.room_terrain.specs.declared.name.RoomName.{RoomName}
use Rattle.intent_book.specs.declared.intent.Intent.{Intent}
use Rattle.object_store.specs.declared.world.Room.{Room}
use Rattle.object_store.specs.Stored.{Stored}
use Rattle.world_rules.specs.World.{Frame, World, listed_room, world_of}
use Rattle.world_rules.specs.RoomParts.{RoomPart, objects_in, part_at, part_of}
use Rattle.world_rules.specs.RoomTick.{RoomCourse, room_tick}
use Rattle.world_rules.specs.Seen.{seen}
use Rattle.world_rules.specs.Sound.{IsSound}
use Rattle.world_rules.specs.Intents.{those_in}
use Rattle.world_rules.specs.Tick.{book, inner}
use Rattle.world_rules.proofs.Lifting.{AreIdsOnce, found_in_table, frame_stored}
use Rattle.world_rules.proofs.Orderly.{book_orderly}
use Rattle.world_rules.proofs.Parts.{same_world}
use Rattle.room_rules.specs.Followed.{part_stored, FollowsAt}
use Rattle.room_rules.specs.RoomRules.{is_player}
use Rattle.room_rules.specs.Within.{within}
use Rattle.room_rules.proofs.Followed.{followed_once}
use Rattle.room_rules.proofs.Sound.{get_part}
use Rattle.room_commutes.specs.Serials.{AreSerialsUsed}
use Rattle.room_commutes.proofs.Births.{used_stored}
use Rattle.room_commutes.proofs.InTick.{IsInTick}
use Rattle.room_commutes.proofs.Inner.{in_inner}
use Rattle.room_commutes.proofs.OneRoom.{IsAtRoom, tick_room}
use Rattle.ruled_tick.proofs.Entered.{begins_at, part_of_stored}
use Rattle.ruled_tick.proofs.Worlds.{stored_objects}
use Rattle.room_step.specs.inner.Rooms.{IsLeft, IsLeftAt}
use Rattle.room_step.proofs.Named.{inner_name}
use Rattle.room_step.proofs.Splitting.{tick_split}

module _ (stored : Stored) (sound : IsSound stored) (list : List Intent) where
  abbrev W : World
  W = world_of stored

  abbrev now : World
  now = (inner book (world_of stored) list).world

  used : AreSerialsUsed (world_of stored)
  used = used_stored stored sound

  abbrev players : ℕ → Bool
  players = is_player (world_of stored)

  begun_at : (k : ℕ) (found : Option Room) → slice_get stored.rooms k ≡ found → FollowsAt players within found found
  begun_at k None is = tt
  begun_at k (Some room) is = begins_at stored sound k room is

  -- ---- a room before the tick

  module _ (k : ℕ) (room : Room) (at : slice_get stored.rooms k ≡ Some room) where
    abbrev frame : Frame
    frame = (listed_room room).frame

    pub framed : get (world_of stored).rooms k ≡ Some (listed_room room).frame
    framed = frame_stored stored k ∙ ap (option_map (λ (r : Room). (listed_room r).frame)) at

    part_there : part_at (world_of stored) k ≡ Some (part_stored room)
    part_there = part_of_stored stored sound stored.rooms players (λ j. begun_at j (slice_get stored.rooms j) refl) k room at

    part_is : part_of (world_of stored) k frame ≡ part_stored room
    part_is = let same : Some (part_of (world_of stored) k frame) ≡ Some (part_stored room) = sym (ap (option_map (part_of (world_of stored) k)) framed) ∙ part_there in cc

    -- its entries of the list tell its tick
    pub tick_of : room_tick book (those_in (world_of stored) k list) (part_stored room) ≡ room_tick book list (part_stored room)
    tick_of = subst (λ (part : RoomPart). room_tick book (those_in (world_of stored) k list) part ≡ room_tick book list part) part_is (tick_split (world_of stored) k frame list)

    pub at_room : IsAtRoom book book_orderly (world_of stored) k (inner book (world_of stored) list) (room_tick book list (part_stored room))
    at_room = subst (λ (part : RoomPart). IsAtRoom book book_orderly (world_of stored) k (inner book (world_of stored) list) (room_tick book list part)) part_is (tick_room book book_orderly (world_of stored) k used list frame framed)

  -- ---- the rooms after it

  module _ (lists : ℕ → List Intent) (split : (k : ℕ) (room : Room) → slice_get stored.rooms k ≡ Some room → lists k ≡ those_in (world_of stored) k list)
      (left : List Room) (once : AreIdsOnce left) (each_left : (k : ℕ) → IsLeftAt (lists k) (slice_get stored.rooms k) (slice_get left k)) where
    abbrev later : Stored
    later = record stored { rooms = left }

    in_tick : IsInTick (world_of stored) now
    in_tick = in_inner book book_orderly (world_of stored) used list

    module _ (k : ℕ) (room mate : Room) (is : slice_get stored.rooms k ≡ Some room) (at : slice_get left k ≡ Some mate) (is_left : IsLeft (lists k) room mate) where
      frame_then : get (world_of later).rooms k ≡ Some (listed_room mate).frame
      frame_then = frame_stored later k ∙ ap (option_map (λ (r : Room). (listed_room r).frame)) at

      objects_then : objects_in (world_of later) k ≡ (part_stored mate).objects
      objects_then = same_map nat_cmp_total nat_cmp-IsAntisymmetric (objects_in (world_of later) k) (part_stored mate).objects (λ id.
          stored_objects later once k id ∙ ap (option_and_then (found_in_table id)) at ∙ sym (get_part mate id))

      part_now : part_at now k ≡ Some (part_stored mate)
      part_now = (at_room k room is).part ∙ ap (λ (course : RoomCourse). Some course.part) (sym (ap (λ (those : List Intent). room_tick book those (part_stored room)) (split k room is) ∙ tick_of k room is)) ∙ ap Some (sym is_left.tick)

      name_of : (f : Frame) → get now.rooms k ≡ Some f → mate.name ≡ f.name
      name_of f there =
          let name : Frame → RoomName = λ frame. frame.name in
          let same : Some f.name ≡ Some room.name = sym (ap (option_map name) there) ∙ inner_name book (world_of stored) k list ∙ ap (option_map name) (framed k room is) in
          let one : f.name ≡ room.name = cc in
          is_left.name ∙ sym one

      seen_as : (found : Option Frame) → get now.rooms k ≡ found → seen (world_of later) k ≡ seen now k
      seen_as None there = let none : None ≡ Some (part_stored mate) = sym (ap (option_map (part_of now k)) there) ∙ part_now in absurd cc
      seen_as (Some f) there =
          let some : Some (part_of now k f) ≡ Some (part_stored mate) = sym (ap (option_map (part_of now k)) there) ∙ part_now in
          let same : part_stored mate ≡ part_of now k f = cc in
          let name = name_of f there in
          (λ i. record { rules = 1; frame = frame_then i; objects = objects_then i })
          ∙ (λ i. record { rules = (same i).rules; frame = Some (record { name = name i; grounds = (same i).grounds; next = (same i).next }); objects = (same i).objects })
          ∙ (λ i. record { rules = now.rules; frame = sym there i; objects = objects_in now k })

    seen_at : (k : ℕ) (room mate : Option Room) → slice_get stored.rooms k ≡ room → slice_get left k ≡ mate → IsLeftAt (lists k) room mate → seen (world_of later) k ≡ seen now k
    seen_at k None None is at is_left =
        let frame : get (world_of stored).rooms k ≡ None = frame_stored stored k ∙ ap (option_map (λ (r : Room). (listed_room r).frame)) is in
        let gone : get (world_of later).rooms k ≡ None = frame_stored later k ∙ ap (option_map (λ (r : Room). (listed_room r).frame)) at in
        let apart : AreIdsOnce stored.rooms = followed_once stored stored sound within players (λ j. begun_at j (slice_get stored.rooms j) refl) in
        let objects = same_map nat_cmp_total nat_cmp-IsAntisymmetric (objects_in (world_of later) k) (objects_in (world_of stored) k) (λ id.
        stored_objects later once k id ∙ ap (option_and_then (found_in_table id)) (at ∙ sym is) ∙ sym (stored_objects stored apart k id)) in
        (λ i. record { rules = 1; frame = (gone ∙ sym frame) i; objects = objects i })
        ∙ sym (in_tick.absent k frame)
    seen_at k None (Some mate) is at is_left = absurd is_left
    seen_at k (Some room) None is at is_left = absurd is_left
    seen_at k (Some room) (Some mate) is at is_left = seen_as k room mate is at is_left (get now.rooms k) refl

    pub inside : world_of later ≡ now
    inside = same_world (world_of later) now (sym in_tick.tick) (sym in_tick.accounts) (λ k. seen_at k (slice_get stored.rooms k) (slice_get left k) refl refl (each_left k))
