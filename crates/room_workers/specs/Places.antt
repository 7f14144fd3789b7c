-- Results beside the numbers of their jobs, and at their places.
use Rattle.std.specs.Prelude.{◌≡◌, ℕ, ◌<◌, ◌≤◌, List, map, length, slice_index_or, Option, Some, None}
use Rattle.claim_board.specs.Rule.{times}

abbrev pub numbers : {D : Type 0} → List (ℕ × D) → List ℕ
numbers ps = map (λ p. p.0) ps

-- There is a result, and it is one of job k.
abbrev pub IsDoneAt : {D : Type 0} → (ℕ → D → Type 0) → ℕ → Option D → Type 0
IsDoneAt gives k (Some done) = gives k done
IsDoneAt gives k None = ⊥

-- Each place has a result of its job.
abbrev pub IsFull : {D : Type 0} → (ℕ → D → Type 0) → List (Option D) → Type 0
IsFull {D} gives slots =
    (k : ℕ) (x : Option D) → k < length slots → IsDoneAt gives k (slice_index_or slots k x)

-- So does each from place i on.
abbrev pub IsFullFrom : {D : Type 0} → (ℕ → D → Type 0) → ℕ → List (Option D) → Type 0
IsFullFrom {D} gives i slots =
    (k : ℕ) (x : Option D) → i ≤ k → k < length slots → IsDoneAt gives k (slice_index_or slots k x)

-- So does each below n, but for those of the numbers that are left.
abbrev pub IsFilled : {D : Type 0} → (ℕ → D → Type 0) → ℕ → List ℕ → List (Option D) → Type 0
IsFilled {D} gives n left slots =
    (k : ℕ) (x : Option D) → k < n → times k left ≡ 0 → IsDoneAt gives k (slice_index_or slots k x)

-- Each is a result of the job of its place.
abbrev pub IsDone : {D : Type 0} → (ℕ → D → Type 0) → List D → Type 0
IsDone {D} gives ds = (k : ℕ) (d : D) → k < length ds → gives k (slice_index_or ds k d)
