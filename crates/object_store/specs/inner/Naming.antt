-- The rooms of a world in the order of their names. For private clauses.
use Rattle.std.specs.Prelude.{◌≡◌, ℕ, ◌+◌, ◌*◌, ◌^◌, ◌<◌, ◌≤◌, pos, List, length, map, slice_index_or}
use Rattle.std.specs.Prelude.{FitsSigned}
use Rattle.std.specs.Int.{cast_unsigned, w32}
use Rattle.std.specs.List.{AllByRecursion}
use Rattle.std.specs.List.Sorted.{IsPartitionPoint}
use Rattle.room_terrain.specs.declared.name.RoomName.{RoomName}
use Rattle.object_store.specs.declared.world.Room.{Room}
use Rattle.room_table.specs.inner.Ordered.{Rises}
use Rattle.room_table.specs.inner.Placed.{Among}

-- each name has a number of its own
abbrev pub name_number : RoomName → ℕ
name_number name = cast_unsigned w32 name.column * 2 ^ 32 + cast_unsigned w32 name.row

-- The number of a name whose column and row fit 32 bits.
pub record HasNumber (name : RoomName) (number : ℕ) : Type 0 where
  pub is : number ≡ name_number name
  pub low : cast_unsigned w32 name.row < 2 ^ 32
  pub column : FitsSigned w32 name.column
  pub row : FitsSigned w32 name.row

-- what is read where no room is
abbrev pub no_name : RoomName
no_name = record { column = pos 0; row = pos 0 }

abbrev pub room_names : List Room → List RoomName
room_names rooms = map (λ room. room.name) rooms

-- by which the rooms are in order: those of one name by their index
abbrev pub sort_number : List RoomName → ℕ → ℕ
sort_number names room = name_number (slice_index_or names room no_name) * 2 ^ 32 + room

-- The place of a number in the order of some rooms.
abbrev pub IsPlaceOf : ℕ → List RoomName → List ℕ → ℕ → Type 0
IsPlaceOf number names order place =
    IsPartitionPoint (λ room. sort_number names room < number) (λ room.
    number ≤ sort_number names room) order place

-- These are all rooms in the order of their names.
pub record AreByName (names : List RoomName) (order : List ℕ) : Type 0 where
  pub known : AllByRecursion (λ room. room < length names) order
  pub all : (room : ℕ) → room < length names → Among room order
  pub rising : Rises (sort_number names) order
