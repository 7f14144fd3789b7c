-- The names of rooms: W or E and a number, then N or S and a number.
use Rattle.std.specs.Prelude.{◌≡◌, ℕ, ◌<◌, ◌≤◌, ℤ, pos, negsuc, List, ◌∷◌, ◌++◌, slice_index, decimal}
use Rattle.room_terrain.specs.declared.name.RoomName.{RoomName}

-- E and the number of a column from 0 on, W and the number below -1 counted from 0; so too S and N
abbrev pub side_text : ℕ → ℕ → ℤ → List ℕ
side_text before after (pos n) = after ∷ decimal n
side_text before after (negsuc n) = before ∷ decimal n

-- 'W', 'E', 'N' and 'S' are 87, 69, 78 and 83
abbrev pub name_text : RoomName → List ℕ
name_text name = side_text 87 69 name.column ++ side_text 78 83 name.row

-- The number of a column or row is at most 127.
abbrev pub IsSideInRange : ℤ → Type 0
IsSideInRange (pos n) = n ≤ 127
IsSideInRange (negsuc n) = n ≤ 127

-- The room is one of the world's.
pub record IsInRange (name : RoomName) : Type 0 where
  pub column : IsSideInRange name.column
  pub row : IsSideInRange name.row

-- The text names the room.
pub record Names (text : List ℕ) (name : RoomName) : Type 0 where
  pub in_range : IsInRange name
  pub spelled : text ≡ name_text name

-- No digit stands at the front of the text, so that a number before it ends there.
abbrev pub EndsNumber : List ℕ → Type 0
EndsNumber rest = 48 ≤ slice_index rest 0 → 57 < slice_index rest 0
