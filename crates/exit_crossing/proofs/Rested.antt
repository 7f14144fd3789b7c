-- Rooms whose creeps are made ones that have not moved, one room after the other.
use Rattle.std.proofs.Common.{◌≡◌, ℕ, zero, suc, ◌<◌, ◌≤◌, List, [], ◌∷◌, map, length, get_or, set, refl, sym, ap, arith}
use Rattle.std.specs.List.{AllByRecursion}
use Rattle.object_store.specs.declared.world.Room.{Room}
use Rattle.room_table.specs.Tables.{IsOnTile}
use Rattle.exit_crossing.specs.Crossing.{rested_room}

abbrev pub rooms_to : ℕ → List Room → List Room
rooms_to count [] = []
rooms_to zero (room ∷ rooms) = room ∷ rooms
rooms_to (suc count) (room ∷ rooms) = rested_room room ∷ rooms_to count rooms

pub none_yet : (rooms : List Room) → rooms_to 0 rooms ≡ rooms
none_yet [] = refl
none_yet (room ∷ rooms) = refl

pub count_same : (rooms : List Room) (count : ℕ) → length (rooms_to count rooms) ≡ length rooms
count_same [] count = refl
count_same (room ∷ rooms) zero = refl
count_same (room ∷ rooms) (suc count) = ap suc (count_same rooms count)

pub one_room_more : (rooms : List Room) (place : ℕ) (default : Room) → place < length rooms → set (rooms_to place rooms) place (rested_room (get_or (rooms_to place rooms) place default)) ≡ rooms_to (suc place) rooms
one_room_more [] place default less = absurd (omega (arith, less))
one_room_more (room ∷ rooms) zero default less = ap (λ rest. rested_room room ∷ rest) (sym (none_yet rooms))
one_room_more (room ∷ rooms) (suc place) default less = ap (λ rest. rested_room room ∷ rest) (one_room_more rooms place default (omega (arith, less)))

pub all_rooms : (rooms : List Room) (count : ℕ) → length rooms ≤ count → rooms_to count rooms ≡ map rested_room rooms
all_rooms [] count past = refl
all_rooms (room ∷ rooms) zero past = absurd (omega (arith, past))
all_rooms (room ∷ rooms) (suc count) past = ap (λ rest. rested_room room ∷ rest) (all_rooms rooms count (omega (arith, past)))

pub room_tiles : (rooms : List Room) (place : ℕ) (default : Room) → place < length rooms → AllByRecursion (λ (room : Room). AllByRecursion IsOnTile room.table.objects) rooms → AllByRecursion IsOnTile (get_or (rooms_to place rooms) place default).table.objects
room_tiles [] place default less all = absurd (omega (arith, less))
room_tiles (room ∷ rooms) zero default less all = all.0
room_tiles (room ∷ rooms) (suc place) default less all = room_tiles rooms place default (omega (arith, less)) all.1
