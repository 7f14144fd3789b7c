-- What a worker did with its seat.
use Rattle.std.specs.Prelude.{◌≡◌, ℕ, ◌<◌, List, map, length, slice_index_or, All, Result, IfOk}
use Rattle.std.specs.declared.alloc.AllocError.{AllocError}
use Rattle.claim_board.specs.Seats.{BoardSeen, SeatSeen, IsSeatOf, sizes}
use Rattle.room_workers.specs.Places.{numbers}
use Rattle.room_workers.specs.declared.work.Worked.{Worked}
use Rattle.room_workers.specs.declared.work.Worker.{Worker}

-- It drew until there was no number left, and has a result of each job that it drew.
pub record IsWorkOf {D : Type 0} (gives : ℕ → D → Type 0) (b : BoardSeen) (s : SeatSeen) (w : Worked D)
    : Type 0 where
  pub seat : IsSeatOf b w.seat
  pub size : w.seat.1.size ≡ s.1.size
  pub ends : 0 < w.seat.1.ends
  pub numbers_are : numbers w.results.items ≡ w.seat.1.drawn
  pub gives_are : All (λ p. gives p.0 p.1) w.results.items

abbrev pub WorksEach : {D : Type 0} → (ℕ → D → Type 0) → BoardSeen → List SeatSeen
    → List (Result (Worked D) AllocError) → Type 0
WorksEach {D} gives b ss rs =
    (i : ℕ) (s : SeatSeen) (r : Result (Worked D) AllocError) → i < length rs
    → IfOk (slice_index_or rs i r) (λ w. IsWorkOf gives b (slice_index_or ss i s) w)

-- what all workers did, with all seats of the board
abbrev pub AreWorked : {D : Type 0} → (ℕ → D → Type 0) → BoardSeen → List (Result (Worked D) AllocError)
    → Type 0
AreWorked gives b rs =
    (ss : List SeatSeen) × (sizes ss ≡ b.1.seats) × (length ss ≡ length rs) × WorksEach gives b ss rs

abbrev pub seats_of : List Worker → List SeatSeen
seats_of ws = map (λ w. w.seat) ws

-- each worker's number is its place
abbrev pub AreNumbered : List Worker → Type 0
AreNumbered ws = (i : ℕ) (w : Worker) → i < length ws → (slice_index_or ws i w).number ≡ i
