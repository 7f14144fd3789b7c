-- What a clause says of the hub, its ticker and its passes.
use Rattle.std.specs.Prelude.{◌≡◌, ◌+◌, ◌^◌, ◌<◌, true, false, [], length, drop, Option, Some, None, IsSome}
use Rattle.crossbeam_queue.specs.Passes.{view, IsPassOf}
use Rattle.atomic_table.specs.Seated.{TableId}
use Rattle.left_right.specs.Sides as sides
use Rattle.world_hub.specs.declared.queue.Hand.{Hand}
use Rattle.world_hub.specs.declared.status.Sight.{Sight}
use Rattle.world_hub.specs.declared.turns.Place.{Place}
use Rattle.world_hub.specs.declared.hub.Hub.{Hub}
use Rattle.world_hub.specs.declared.hub.Ticker.{Ticker}
use Rattle.world_hub.specs.declared.hub.Pass.{Pass}
use Rattle.world_hub.specs.Queue.{new_hand}
use Rattle.world_hub.specs.Status.{no_sight}
use Rattle.world_hub.specs.Turns.{HasPlace}

abbrev pub hand : Pass → Hand
hand p = view p.seat

abbrev pub ticker_hand_of : Ticker → Hand
ticker_hand_of t = view t.seat

module _ {R : Type 0} (f : R → Sight) where
  abbrev pub sight_or : Option R → Sight
  sight_or None = no_sight
  sight_or (Some r) = f r

abbrev pub sight : Pass → Sight
sight p = sight_or (λ r. sides.view r.place) p.reader

abbrev pub ticker_sight : Ticker → Sight
ticker_sight t = sight_or (λ w. sides.view w.desk.place) t.writer

-- between calls nobody of the hub has the turn
abbrev pub HasNoTurn : Hand → Type 0
HasNoTurn v = (v.turn ≡ false) × (v.content ≡ [])

abbrev pub IsPlaceOf : Hub → Place → Type 0
IsPlaceOf h p = (p.seat.table_id ≡ h.turns.table.shared.table_id) × HasPlace p.seat.me

abbrev pub IsPassOfHub : Hub → Pass → Type 0
IsPassOfHub h p = IsPassOf h.queue p.seat × IsSome p.reader × ((hand p).fulls < 2 ^ 64) × HasNoTurn (hand p)

module _ {W : Type 0} (P : W → Type 0) where
  abbrev pub SomeIs : Option W → Type 0
  SomeIs None = ⊥
  SomeIs (Some w) = P w

-- It takes, its writer has nothing pending, and it knows all that was published.
abbrev pub IsTickerOf : Hub → Ticker → Type 0
IsTickerOf h t = IsPassOf h.queue t.seat × ((view t.seat).takes ≡ true) × HasNoTurn (view t.seat)
    × SomeIs (λ w. (drop w.behind w.log.items ≡ [])
    × (length (sides.view {V = Sight} w.desk.place).published ≡ w.desk.shown.value.place + 1)) t.writer

-- It has offered and read nothing, never found the queue full, and reads from this board.
abbrev pub IsNewPass : Hub → TableId → Pass → Type 0
IsNewPass h board p = IsPassOfHub h p × (hand p ≡ new_hand) × (sight p ≡ no_sight)
    × SomeIs (λ r. r.place.table_id ≡ board) p.reader
