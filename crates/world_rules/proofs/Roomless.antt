-- A stored world without rooms is sound.
use Rattle.std.proofs.Common.{◌≢◌, ℕ, ◌≤◌, ◌==◌, List, [], refl, arith}
use Rattle.std.specs.List.{count_by}
use Rattle.std.specs.Ordering.{nat_cmp}
use Rattle.std.specs.FinMap.{get-empty}
use Rattle.object_store.specs.declared.account.Account.{Account}
use Rattle.object_store.specs.Stored.{Stored, AreRising}
use Rattle.world_rules.specs.declared.rule.Rule.{Rule}
use Rattle.world_rules.specs.declared.rule.Rule.TheVariants as rules
use Rattle.world_rules.specs.World.{Placed, Frame, listing_of, world_of}
use Rattle.world_rules.specs.Rules.{Broken, IsRoom, Stands}
use Rattle.world_rules.specs.Sound.{IsSound}

module _ (tick : ℕ) (accounts : List Account) (rising : AreRising accounts) (once : (player : ℕ) → count_by (λ account. account.player == player) accounts ≤ 1) where
  abbrev roomless : Stored
  roomless = record { tick = tick; rooms = []; accounts = accounts }

  nothing_stands : (id : ℕ) (p : Placed) → Stands (world_of roomless) id p → ⊥
  nothing_stands id p h = let none = get-empty {X = Placed} nat_cmp id in cc

  no_room : (index : ℕ) (frame : Frame) → IsRoom (world_of roomless) index frame → ⊥
  no_room index frame h = let none = get-empty {X = Frame} nat_cmp index in cc

  not_broken : (rule : Rule) (n : ℕ) → rule ≢ rules.Counts → rule ≢ rules.Sites → Broken rule n (listing_of roomless) → ⊥
  not_broken rules.Counts n a b h = a refl
  not_broken rules.Sites n a b h = b refl
  not_broken rules.RoomTwice n a b h = no_room h.0 h.1 h.4
  not_broken rules.Corner n a b h = no_room n h.0 h.1
  not_broken rules.Serial n a b h = nothing_stands n h.0 h.1
  not_broken rules.IdTwice n a b h = omega arith
  not_broken rules.Tile n a b h = nothing_stands n h.0 h.2
  not_broken rules.Shared n a b h = nothing_stands n h.2 h.5
  not_broken rules.Owner n a b h = nothing_stands n h.0 h.1
  not_broken rules.Controllers n a b h = nothing_stands h.0 h.2 h.5
  not_broken rules.Range n a b h = nothing_stands n h.0 h.1
  not_broken rules.PlayerTwice n a b h = (let few = once n in omega (arith, few, h))

  pub roomless_sound : IsSound (record { tick = tick; rooms = []; accounts = accounts })
  roomless_sound = record { places = λ index room h. absurd (cc); tables = tt; rooms = tt; accounts = rising; rules = not_broken }
