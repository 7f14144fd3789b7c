-- Steps of rooms, put together one after the other.
use Rattle.std.proofs.Common.{◌≡◌, ℕ, zero, suc, ◌+◌, ◌<◌, List, [], ◌∷◌, ◌++◌, length, take, Option, Some, None, slice_get, refl, sym, ap, subst, ◌∙◌, append-nil, append_assoc, arith}
use Rattle.std.proofs.lemmas.List.{length-map, length_push}
use Rattle.std.proofs.lemmas.Option.{slice_get_within}
use Rattle.intent_book.specs.declared.intent.Intent.{Intent}
use Rattle.object_store.specs.declared.account.Account.{Account}
use Rattle.object_store.specs.declared.world.Room.{Room}
use Rattle.object_store.specs.Stored.{Stored}
use Rattle.exit_crossing.specs.Crossing.{rested_room}
use Rattle.ruled_tick.proofs.Places.{read_middle}
use Rattle.room_step.specs.Steps.{list_at, AreStepped, IsStepAt, IsStepOf}
use Rattle.room_step.specs.inner.Rooms.{HasStepped, IsAdded, IsPut}
use Rattle.room_step.specs.declared.rooms.Underway.{Underway}
use Rattle.room_step.specs.declared.steppers.SteppedRoom.{SteppedRoom}
use Rattle.room_step.proofs.Added.{stepped_more}

pub no_rooms : (rooms : List SteppedRoom) → length rooms ≡ 0 → rooms ≡ []
no_rooms [] none = refl
no_rooms (room ∷ rooms) none = absurd (omega (arith, none))

-- the rooms up to one, and with it
take_more : (rooms : List Room) (k : ℕ) (room : Room) → slice_get rooms k ≡ Some room → take k rooms ++ room ∷ [] ≡ take (suc k) rooms
take_more [] k room at = absurd cc
take_more (first ∷ rooms) zero room at = let same : first ≡ room = cc in ap (λ (r : Room). r ∷ []) (sym same)
take_more (first ∷ rooms) (suc k) room at = ap (λ (more : List Room). first ∷ more) (take_more rooms k room at)

length_taken : (rooms : List Room) (k : ℕ) → k < length rooms → length (take k rooms) ≡ k
length_taken [] k within = absurd (omega (arith, within))
length_taken (first ∷ rooms) zero within = refl
length_taken (first ∷ rooms) (suc k) within = ap suc (length_taken rooms k (omega (arith, within)))

all_taken : (rooms : List Room) → take (length rooms) rooms ≡ rooms
all_taken [] = refl
all_taken (first ∷ rooms) = ap (λ (more : List Room). first ∷ more) (all_taken rooms)

-- as many steps as rooms
pub as_many : (lists : ℕ → List Intent) (rooms : List Room) (steps : List SteppedRoom) → ((k : ℕ) → IsStepAt (lists k) (slice_get rooms k) (slice_get steps k)) → length steps ≡ length rooms
as_many lists [] [] each = refl
as_many lists [] (step ∷ steps) each = absurd (each 0)
as_many lists (room ∷ rooms) [] each = absurd (each 0)
as_many lists (room ∷ rooms) (step ∷ steps) each = ap suc (as_many (λ n. lists (suc n)) rooms steps (λ n. each (suc n)))

-- a step more
pub steps_push : (lists : ℕ → List Intent) (rooms : List Room) (steps : List SteppedRoom) (room : Room) (step : SteppedRoom) → length steps ≡ length rooms → ((k : ℕ) → IsStepAt (lists k) (slice_get rooms k) (slice_get steps k)) → IsStepOf (lists (length rooms)) room step
    → (k : ℕ) → IsStepAt (lists k) (slice_get (rooms ++ room ∷ []) k) (slice_get (steps ++ step ∷ []) k)
steps_push lists [] [] room step many each is zero = is
steps_push lists [] [] room step many each is (suc k) = tt
steps_push lists [] (other ∷ steps) room step many each is k = absurd (omega (arith, many))
steps_push lists (first ∷ rooms) [] room step many each is k = absurd (omega (arith, many))
steps_push lists (first ∷ rooms) (other ∷ steps) room step many each is zero = each 0
steps_push lists (first ∷ rooms) (other ∷ steps) room step many each is (suc k) = steps_push (λ n. lists (suc n)) rooms steps room step (omega (arith, many)) (λ n. each (suc n)) is k

-- the room of which this is the step
pub record Here (entries : List Intent) (rooms : List Room) (k : ℕ) (one : SteppedRoom) : Type 0 where
  pub room : Room
  pub at : slice_get rooms k ≡ Some room
  pub step : IsStepOf entries room one

here_in : (entries : List Intent) (rooms : List Room) (k : ℕ) (one : SteppedRoom) (found : Option Room) → slice_get rooms k ≡ found → IsStepAt entries found (Some one) → Here entries rooms k one
here_in entries rooms k one None at is = absurd is
here_in entries rooms k one (Some room) at is = record { room = room; at = at; step = is }

-- So many of the steps were put together.
pub record SoFar (tick : ℕ) (accounts : List Account) (lists : List (List Intent)) (rooms : List Room) (yielded rest : List SteppedRoom) (now : Underway) : Type 0 where
  pub stepped : HasStepped tick accounts lists (take (length yielded) rooms) now
  pub all : AreStepped lists rooms (yielded ++ rest)

module _ (tick : ℕ) (accounts : List Account) (lists : List (List Intent)) (rooms : List Room) (yielded rest later : List SteppedRoom) (one : SteppedRoom) (now : Underway) (next : rest ≡ one ∷ later) (so_far : SoFar tick accounts lists rooms yielded rest now) where
  abbrev k : ℕ
  k = length yielded

  pub here : Here (list_at lists k) rooms k one
  here =
      let there : slice_get (yielded ++ rest) k ≡ Some one = ap (λ (more : List SteppedRoom). slice_get (yielded ++ more) k) next ∙ read_middle yielded one later in
      here_in (list_at lists k) rooms k one (slice_get rooms k) refl (subst (IsStepAt (list_at lists k) (slice_get rooms k)) there (so_far.all k))

  pub inside : k < length rooms
  inside = slice_get_within rooms k here.room here.at

  pub as_many_rooms : length now.world.rooms ≡ k
  as_many_rooms = ap (λ (s : Stored). length s.rooms) so_far.stepped.world ∙ length-map so_far.stepped.left rested_room ∙ so_far.stepped.many ∙ length_taken rooms k inside

  added : (new : Underway) → IsPut accounts one now new → IsAdded accounts here.room (list_at lists k) now new
  added new put = record {
    done = one.done;
    step = here.step.step;
    world = put.world ∙ (λ i. record now.world { rooms = now.world.rooms ++ record { name = here.step.name i; terrain = here.step.terrain i; table = one.done.room } ∷ [] });
    crossers = put.crossers;
    gains = put.gains;
  }

  pub so_far_more : (new : Underway) → IsPut accounts one now new → SoFar tick accounts lists rooms (yielded ++ one ∷ []) later new
  so_far_more new put =
      let taken = length_taken rooms k inside in
      let longer : suc k ≡ k + 1 = omega arith in
      let own : IsAdded accounts here.room (list_at lists (length (take k rooms))) now new = subst (λ (n : ℕ). IsAdded accounts here.room (list_at lists n) now new) (sym taken) (added new put) in
      let more : HasStepped tick accounts lists (take k rooms ++ here.room ∷ []) new = stepped_more tick accounts lists (take k rooms) now new so_far.stepped here.room own in
      record {
        stepped = subst (λ (done : List Room). HasStepped tick accounts lists done new) (take_more rooms k here.room here.at ∙ ap (λ (n : ℕ). take n rooms) (longer ∙ sym (length_push yielded one))) more;
        all = subst (AreStepped lists rooms) (ap (λ (more : List SteppedRoom). yielded ++ more) next ∙ sym (append_assoc yielded (one ∷ []) later)) so_far.all;
      }

-- all of them
pub so_far_all : (tick : ℕ) (accounts : List Account) (lists : List (List Intent)) (rooms : List Room) (yielded rest : List SteppedRoom) (now : Underway) → rest ≡ [] → SoFar tick accounts lists rooms yielded rest now → HasStepped tick accounts lists rooms now
so_far_all tick accounts lists rooms yielded rest now none so_far =
    let many : length (yielded ++ rest) ≡ length rooms = as_many (list_at lists) rooms (yielded ++ rest) so_far.all in
    let whole : length yielded ≡ length rooms = ap length (sym (append-nil yielded)) ∙ ap (λ (more : List SteppedRoom). length (yielded ++ more)) (sym none) ∙ many in
    subst (λ (done : List Room). HasStepped tick accounts lists done now) (ap (λ (n : ℕ). take n rooms) whole ∙ all_taken rooms) so_far.stepped

-- the room that comes next
pub next_room : (rooms yielded rest later : List Room) (room : Room) → yielded ++ rest ≡ rooms → rest ≡ room ∷ later → slice_get rooms (length yielded) ≡ Some room
next_room rooms yielded rest later room all next =
    ap (λ (r : List Room). slice_get r (length yielded)) (sym all ∙ ap (λ (more : List Room). yielded ++ more) next) ∙ read_middle yielded room later
