-- The rule of a board: what holds of it and its seats at each moment, and what its steps make of a seat.
use Rattle.std.specs.Prelude.{◌≡◌, ℕ, ◌+◌, ◌-◌, ◌<◌, ◌≤◌, ◌^◌, ◌==◌, min, max, List, [], ◌∷◌, ◌++◌, length}
use Rattle.std.specs.Prelude.{if◌then◌else◌, nat_lt, slice_index}
use mathlib.Core.Option.{some}
use lib.ListN.{get_elem?}
use Rattle.atomic_table.specs.Table.{State, Me}
use Rattle.claim_board.specs.declared.view.View.{View}
use Rattle.claim_board.specs.declared.view.Bounds.{Bounds}

-- the sum of a number of each seat
abbrev pub total : (View → ℕ) → List View → ℕ
total f [] = 0
total f (v ∷ vs) = f v + total f vs

-- how often x stands in the list
abbrev pub times : ℕ → List ℕ → ℕ
times x [] = 0
times x (y ∷ ys) = (if y == x then 1 else 0) + times x ys

abbrev pub once_below : ℕ → ℕ → ℕ
once_below x n = if nat_lt x n then 1 else 0

-- The list has each number below n once, and nothing else.
abbrev pub EachOnceBelow : ℕ → List ℕ → Type 0
EachOnceBelow n xs = (x : ℕ) → times x xs ≡ once_below x n

-- the least number that is above all of them
abbrev pub beyond : List ℕ → ℕ
beyond [] = 0
beyond (x ∷ xs) = max (x + 1) (beyond xs)

-- ---- what a step makes of a seat

-- the first seat of a board, which stands for all of them
abbrev pub first_view : Bounds → View
first_view b = record { drawn = []; ends = 0; size = b.seats; limit = b.limit; seats = b.seats }

-- It drew a number.
abbrev pub drew : ℕ → View → View
drew k v = record v { drawn = v.drawn ++ k ∷ [] }

-- It found that there is none left.
abbrev pub ended : View → View
ended v = record v { ends = 1 }

-- what is left of a seat from which one was cut off, and that one
abbrev pub left_view : View → View
left_view v = record v { size = v.size - 1 }

abbrev pub new_view : View → View
new_view v = record { drawn = []; ends = 0; size = 1; limit = v.limit; seats = v.seats }

-- two seats that are joined, what the joined one drew first, and what is left of this one
abbrev pub both_views : View → View → View
both_views v w = record v { drawn = w.drawn ++ v.drawn; ends = w.ends + v.ends; size = w.size + v.size }

abbrev pub spent_view : View
spent_view = record { drawn = []; ends = 0; size = 0; limit = 0; seats = 0 }

-- ---- the rule

-- A seat ended at most once for each of those for which it stands, and only where the word was past the
-- limit; one that was joined to another has drawn nothing; and each other knows the board's numbers.
pub record IsSeat (b : Bounds) (word : ℕ) (v : View) : Type 0 where
  pub ends : v.ends ≤ v.size
  pub past : 0 < v.ends → b.limit < word
  pub empty : v.size ≡ 0 → v.drawn ≡ []
  pub fixed : 0 < v.size → (v.limit ≡ b.limit) × (v.seats ≡ b.seats)

-- At each moment each number below the word, as far as it is below the limit, stands once in the lists of all
-- seats together, and no other does; the word is past the limit by the draws that found none; and the seats
-- stand for as many as the board was made for.
pub record Given (b : Bounds) (s : State (Unit {0}) View) : Type 0 where
  pub bounds : (b.seats ≤ 16) × (b.limit < 2 ^ 32)
  pub once : (x : ℕ) → total (λ v. times x v.drawn) s.views
      ≡ once_below x (min (slice_index s.words 0) b.limit)
  pub word : slice_index s.words 0 ≤ b.limit + total (λ v. v.ends) s.views
  pub one : length s.words ≡ 1
  pub sizes : total (λ v. v.size) s.views ≡ b.seats
  pub each : (id : ℕ) (v : View) → get_elem? s.views id ≡ some v → IsSeat b (slice_index s.words 0) v

-- What a draw tells by the word that it found: below the limit it is the number that was drawn, and else
-- there is none left. It is above all that this seat drew.
pub record Drew (me : Me (Unit {0}) View) (found : ℕ) (after : Me (Unit {0}) View) : Type 0 where
  pub some : found < me.0.limit → after ≡ (drew found me.0, me.1)
  pub none : me.0.limit ≤ found → after ≡ (ended me.0, me.1)
  pub later : beyond me.0.drawn ≤ found

-- What a look tells a seat that stands for all seats and has ended: it has all numbers.
pub record Looked (me : Me (Unit {0}) View) (after : Me (Unit {0}) View) : Type 0 where
  pub same : after ≡ me
  pub whole : 0 < me.0.ends → me.0.size ≡ me.0.seats → EachOnceBelow me.0.limit me.0.drawn

-- At each moment no number stands twice in the lists of two seats, and only those below the word and the
-- limit stand there.
abbrev pub ListsAreApart : Type 0
ListsAreApart =
    (b : Bounds) (s : State (Unit {0}) View) → Given b s
    → (i j : ℕ) (v w : View) → i < j → get_elem? s.views i ≡ some v → get_elem? s.views j ≡ some w
    → (x : ℕ) → times x v.drawn + times x w.drawn ≤ once_below x (min (slice_index s.words 0) b.limit)
