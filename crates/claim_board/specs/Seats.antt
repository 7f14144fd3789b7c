-- What contracts say of boards and seats.
use Rattle.std.specs.Prelude.{◌≡◌, ℕ, ◌+◌, ◌<◌, List, [], ◌∷◌, ◌++◌, length, slice_index_or}
use Rattle.atomic_table.specs.Seated.{TableId}
use Rattle.claim_board.specs.declared.view.View.{View}
use Rattle.claim_board.specs.declared.view.Bounds.{Bounds}

-- a board's name and numbers, and a seat's board and view
abbrev pub BoardSeen : Type 0
BoardSeen = TableId × Bounds

abbrev pub SeatSeen : Type 0
SeatSeen = TableId × View

-- a seat of this board that is not spent
pub record IsSeatOf (b : BoardSeen) (s : SeatSeen) : Type 0 where
  pub board : s.0 ≡ b.0
  pub part : 0 < s.1.size
  pub limit : s.1.limit ≡ b.1.limit
  pub seats : s.1.seats ≡ b.1.seats

-- a new seat
abbrev pub fresh : BoardSeen → SeatSeen
fresh b = (b.0, record { drawn = []; ends = 0; size = 1; limit = b.1.limit; seats = b.1.seats })

abbrev pub with_view : SeatSeen → View → SeatSeen
with_view s v = (s.0, v)

-- for how many seats they stand
abbrev pub sizes : List SeatSeen → ℕ
sizes [] = 0
sizes (s ∷ ss) = s.1.size + sizes ss

-- how often they have ended
abbrev pub all_ends : List SeatSeen → ℕ
all_ends [] = 0
all_ends (s ∷ ss) = s.1.ends + all_ends ss

-- all that they drew
abbrev pub all_drawn : List SeatSeen → List ℕ
all_drawn [] = []
all_drawn (s ∷ ss) = s.1.drawn ++ all_drawn ss

-- one of them has not ended
abbrev pub AnyOpen : List SeatSeen → Type 0
AnyOpen ss = (i : ℕ) × (i < length ss) × ((d : SeatSeen) → (slice_index_or ss i d).1.ends ≡ 0)
