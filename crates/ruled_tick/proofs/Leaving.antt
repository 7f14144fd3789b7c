-- Crossings look at rooms and objects alone, and leave the rest.
use Rattle.std.proofs.Common.{◌≡◌, ℕ, suc, if◌then◌else◌, true, false, List, [], ◌∷◌, length, Option, Some, None, slice_get, refl, ap, ◌∙◌}
use Rattle.std.specs.Ordering.{nat_cmp}
use Rattle.std.specs.FinMap.{FinMap, get}
use Rattle.object_store.specs.declared.account.Account.{Account}
use Rattle.room_table.specs.declared.object.Object.{Object}
use Rattle.object_store.specs.declared.world.Room.{Room}
use Rattle.world_rules.specs.World.{Placed, World}
use Rattle.world_rules.specs.Crossings.{Place, beyond, may_enter, with_object_on, crossed_to, crossed_by, crossed_over}
use Rattle.exit_crossing.specs.Crossing.{KeepsFrameAt}

-- another tick and other accounts
module _ (tick : ℕ) (accounts : FinMap nat_cmp Account) where
  abbrev other : World → World
  other world = record world { tick = tick; accounts = accounts }

  to_other : (world : World) (id : ℕ) (object : Object) (place : Option Place) → crossed_to (other world) id object place ≡ other (crossed_to world id object place)
  to_other world id object None = refl
  to_other world id object (Some place) =
      elim (may_enter world place) as (λ b. (if b then with_object_on (other world) id object place else other world) ≡ other (if b then with_object_on world id object place else world)) [ true ↦ refl | false ↦ refl ]

  by_other : (world : World) (id : ℕ) (found : Option Placed) → crossed_by (other world) id found ≡ other (crossed_by world id found)
  by_other world id None = refl
  by_other world id (Some placed) = to_other world id placed.object (beyond world placed)

  pub over_other : (ids : List ℕ) (world : World) → crossed_over ids (other world) ≡ other (crossed_over ids world)
  over_other [] world = refl
  over_other (id ∷ later) world = ap (crossed_over later) (by_other world id (get world.objects id)) ∙ over_other later (crossed_by world id (get world.objects id))

to_tick : (world : World) (id : ℕ) (object : Object) (place : Option Place) → (crossed_to world id object place).tick ≡ world.tick
to_tick world id object None = refl
to_tick world id object (Some place) = elim (may_enter world place) as (λ b. (if b then with_object_on world id object place else world).tick ≡ world.tick) [ true ↦ refl | false ↦ refl ]

by_tick : (world : World) (id : ℕ) (found : Option Placed) → (crossed_by world id found).tick ≡ world.tick
by_tick world id None = refl
by_tick world id (Some placed) = to_tick world id placed.object (beyond world placed)

pub over_tick : (ids : List ℕ) (world : World) → (crossed_over ids world).tick ≡ world.tick
over_tick [] world = refl
over_tick (id ∷ later) world = over_tick later (crossed_by world id (get world.objects id)) ∙ by_tick world id (get world.objects id)

pub over_accounts : (ids : List ℕ) (world : World) → (crossed_over ids world).accounts ≡ world.accounts
over_accounts ids world = ap (λ (w : World). w.accounts) (over_other world.tick world.accounts ids world)

-- as many rooms
pub as_many : (rooms later : List Room) → ((k : ℕ) → KeepsFrameAt (slice_get rooms k) (slice_get later k)) → length later ≡ length rooms
as_many [] [] keeps = refl
as_many [] (mate ∷ later) keeps = absurd (keeps 0)
as_many (room ∷ rooms) [] keeps = absurd (keeps 0)
as_many (room ∷ rooms) (mate ∷ later) keeps = ap suc (as_many rooms later (λ k. keeps (suc k)))
