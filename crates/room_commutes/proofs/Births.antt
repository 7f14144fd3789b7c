-- In a sound world the serials of all objects are used up.
use Rattle.std.proofs.Common.{◌≡◌, inl, ℕ, zero, suc, ◌+◌, ◌*◌, ◌/◌, ◌%◌, ◌^◌, ◌<◌, ◌≤◌, true, false, List, [], ◌∷◌, length, Some, is_some, option_map, refl, sym, ap, subst, ◌∙◌, arith}
use Rattle.std.specs.Prelude.{nat_lt, slice_get}
use Rattle.std.specs.FinMap.{get}
use Rattle.std.proofs.lemmas.Bool.{ltb-true, ltb-false, lt-ltb, le-ltb}
use Rattle.object_store.specs.declared.world.Room.{Room}
use Rattle.object_store.specs.Stored.{Stored}
use Rattle.room_commutes.specs.Schedules.{HasRooms}
use Rattle.world_rules.specs.declared.rule.Rule.TheVariants.{Serial}
use Rattle.world_rules.specs.Rules.{HasNoBirth}
use Rattle.world_rules.specs.Sound.{IsSound}
use Rattle.world_rules.proofs.Lifting.{frame_stored}
use Rattle.world_rules.specs.World.{Placed, Frame, World, listed_room, world_of}
use Rattle.room_commutes.specs.Serials.{AreSerialsUsed}

room_part : (k s : ℕ) → s < 2 ^ 32 → (k * 2 ^ 32 + s) / 2 ^ 32 ≡ k
room_part k s small = omega arith

serial_part : (k s : ℕ) → s < 2 ^ 32 → (k * 2 ^ 32 + s) % 2 ^ 32 ≡ s
serial_part k s small = omega arith

used_by_birth : (world : World) → ((id : ℕ) (p : Placed) → get world.objects id ≡ Some p → HasNoBirth world id → ⊥) → AreSerialsUsed world
used_by_birth world born room serial frame p is small there =
    elim (nat_lt serial frame.next) as (λ b. nat_lt serial frame.next ≡ b → serial < frame.next) [
      | true ↦ λ less. ltb-true serial frame.next less
      | false ↦ λ more.
          let least : frame.next ≤ serial = ltb-false serial frame.next more in
          let none : HasNoBirth world (room * 2 ^ 32 + serial) = inl (λ other at.
          let same : frame ≡ other = let got : Some frame ≡ Some other = sym is ∙ ap (get world.rooms) (sym (room_part room serial small)) ∙ at in cc in
          subst (λ (n : ℕ). other.next ≤ n) (sym (serial_part room serial small)) (subst (λ (f : Frame). f.next ≤ serial) same least)) in
          absurd (born (room * 2 ^ 32 + serial) p there none)
    ] refl

below_suc : (k n : ℕ) → nat_lt k n ≡ nat_lt (suc k) (suc n)
below_suc k n = elim (nat_lt k n) as (λ b. nat_lt k n ≡ b → b ≡ nat_lt (suc k) (suc n)) [
  | true ↦ λ is. let less = ltb-true k n is in sym (lt-ltb (suc k) (suc n) (omega arith))
  | false ↦ λ is. let most : n ≤ k = ltb-false k n is in sym (le-ltb (suc k) (suc n) (omega arith))
] refl

-- the rooms of a stored world are those below their number
has_some : (rooms : List Room) (k : ℕ) → is_some (option_map (λ (room : Room). (listed_room room).frame) (slice_get rooms k)) ≡ nat_lt k (length rooms)
has_some [] k = sym (le-ltb k 0 (omega arith))
has_some (room ∷ rooms) zero = sym (lt-ltb 0 (suc (length rooms)) (omega arith))
has_some (room ∷ rooms) (suc k) = has_some rooms k ∙ below_suc k (length rooms)

pub rooms_stored : (stored : Stored) → HasRooms (world_of stored) (length stored.rooms)
rooms_stored stored room = ap is_some (frame_stored stored room) ∙ has_some stored.rooms room

-- in a sound world the serials of all objects are used up
pub used_stored : (stored : Stored) → IsSound stored → AreSerialsUsed (world_of stored)
used_stored stored sound = used_by_birth (world_of stored) (λ id p found none. sound.rules Serial id (λ e. cc) (λ e. cc) (p, found, none))
