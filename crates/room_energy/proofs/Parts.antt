-- The energy of a room, and what a change of an object, an object less and a new one do to it.
use Rattle.std.proofs.Common.{◌≡◌, ℕ, ◌+◌, ◌/◌, ◌%◌, ◌^◌, ◌<◌, if◌then◌else◌, Bool, true, false, cond, Option, Some, None, refl, sym, ap, ◌∙◌, arith}
use Rattle.std.specs.Cmp.{nat_cmp_total, unsigned_tied}
use Rattle.std.specs.FinMap.{get, insert, get-insert, get-remove}
use Rattle.std.proofs.lemmas.Bool.{lt-ltb, ne_eqb}
use Rattle.room_table.specs.declared.object.Object.{Object}
use Rattle.world_rules.specs.RoomParts.{RoomPart}
use Rattle.world_rules.specs.Changes.{put, with_object, without, with_new, next_id}
use Rattle.room_rules.specs.Within.{Stage}
use Rattle.room_rules.specs.RoomRules.{Holds, KeepsRoomRules}
use Rattle.room_rules.proofs.Changed.{holds_still, left_without}
use Rattle.room_rules.proofs.Keeps.{put_or_before}
use Rattle.room_energy.specs.Energy.{energy_in}
use Rattle.room_energy.proofs.Totals.{found_energy, total-insert, total-remove}

not_both : (object : Object) (found : Option Object) → found ≡ None → found ≡ Some object → ⊥
not_both object found none some = cc

same_found : (one other : Object) (found : Option Object) → found ≡ Some one → found ≡ Some other → one ≡ other
same_found one other found is at = cc

-- ---- what the changes do to the energy of a room

energy_put : (part : RoomPart) (object old : Object) (found : Option Object) → get part.objects object.id ≡ found → found ≡ Some old → energy_in (put object part found) + old.energy ≡ energy_in part + object.energy
energy_put part object old None is there = absurd (cc)
energy_put part object old (Some first) is there =
    let before : found_energy (get part.objects object.id) ≡ old.energy = ap found_energy (is ∙ there) in
    omega (arith, before, total-insert part.objects object.id object)

-- an object in the place of its own
pub energy_changed : (part : RoomPart) (object old : Object) → Holds part object.id old → energy_in (with_object object part) + old.energy ≡ energy_in part + object.energy
energy_changed part object old there = energy_put part object old (get part.objects object.id) refl there

-- an object less
pub energy_without : (part : RoomPart) (id : ℕ) (object : Object) → Holds part id object → energy_in (without id part) + object.energy ≡ energy_in part
energy_without part id object there = total-remove part.objects id object there

-- ---- rooms in which an object may be new

-- Objects stand under their ids, and the next id is free.
pub record IsReady (part : RoomPart) : Type 0 where
  pub ids : (id : ℕ) (object : Object) → Holds part id object → object.id ≡ id
  pub free : get part.objects (next_id part) ≡ None
  pub serial : part.next < 2 ^ 32

free_of : (part : RoomPart) (found : Option Object) → get part.objects (next_id part) ≡ found → ((object : Object) → Holds part (next_id part) object → ⊥) → found ≡ None
free_of part None is nobody = refl
free_of part (Some object) is nobody = absurd (nobody object is)

-- A room that keeps its rules and has a serial left is ready.
pub ready_of : (players : ℕ → Bool) (stage : Stage) (part : RoomPart) → KeepsRoomRules players stage part → part.next < 2 ^ 32 → IsReady part
ready_of players stage part k room =
    let place : ℕ = next_id part in
    let born : place / 2 ^ 32 ≡ part.index = omega (arith, room) in
    let serial : place % 2 ^ 32 ≡ part.next = omega (arith, room) in
    record {
      ids = k.ids;
      free = free_of part (get part.objects place) refl (λ object there. (let given = (k.born place object there born).1 in omega (arith, given, serial)));
      serial = room;
    }

ready_put : (part : RoomPart) (object : Object) (found : Option Object) → get part.objects object.id ≡ found → IsReady part → IsReady (put object part found)
ready_put part object None is ready = ready
ready_put part object (Some old) is ready = record {
  ids = λ id o h. put_or_before part object.id object id o h (λ at one. ap (λ (o : Object). o.id) (sym one) ∙ sym at) (λ before. ready.ids id o before);
  free =
      get-insert nat_cmp_total part.objects object.id object (next_id part)
      ∙ ap (λ (b : Bool). cond b (Some object) (get part.objects (next_id part))) (unsigned_tied (next_id part) object.id ∙ ne_eqb (next_id part) object.id (λ same. not_both old (get part.objects object.id) (ap (get part.objects) (sym same) ∙ ready.free) is))
      ∙ ready.free;
  serial = ready.serial;
}

pub ready_changed : (part : RoomPart) (object : Object) → IsReady part → IsReady (with_object object part)
ready_changed part object ready = ready_put part object (get part.objects object.id) refl ready

still_none : (b : Bool) (found : Option Object) → found ≡ None → cond b None found ≡ None
still_none true found none = refl
still_none false found none = none

pub ready_without : (part : RoomPart) (id : ℕ) → IsReady part → IsReady (without id part)
ready_without part id ready = record {
  ids = λ q o h. ready.ids q o (left_without part id q o h).1;
  free = get-remove nat_cmp_total part.objects id (next_id part) ∙ still_none _ (get part.objects (next_id part)) ready.free;
  serial = ready.serial;
}

-- a new object
pub energy_new : (part : RoomPart) → IsReady part → (make : ℕ → Object) → energy_in (with_new make part) ≡ energy_in part + (make (next_id part)).energy
energy_new part ready make =
    let nothing : found_energy (get part.objects (next_id part)) ≡ 0 = ap found_energy ready.free in
    let inserted : energy_in (record part { next = part.next + 1; objects = insert part.objects (next_id part) (make (next_id part)) }) ≡ energy_in part + (make (next_id part)).energy =
    omega (arith, nothing, total-insert part.objects (next_id part) (make (next_id part))) in
    ap (λ (b : Bool). energy_in (if b then record part { next = part.next + 1; objects = insert part.objects (next_id part) (make (next_id part)) } else part)) (lt-ltb part.next (2 ^ 32) ready.serial) ∙ inserted

-- ---- two objects that change

-- an object stands under its own id
pub under_own : (part : RoomPart) → IsReady part → (id : ℕ) (object : Object) → Holds part id object → Holds part object.id object
under_own part ready id object there = ap (get part.objects) (ready.ids id object there) ∙ there

-- One object after the other.
pub energy_two : (part : RoomPart) → IsReady part → (i j : ℕ) (one other first second : Object) → Holds part i one → Holds part j other → (one.id ≡ other.id → ⊥) → first.id ≡ one.id → second.id ≡ other.id
    → energy_in (with_object second (with_object first part)) + one.energy + other.energy ≡ energy_in part + first.energy + second.energy
energy_two part ready i j one other first second h g apart same alike =
    let middle : RoomPart = with_object first part in
    let here : Holds part first.id one = ap (get part.objects) same ∙ under_own part ready i one h in
    let there : Holds middle second.id other = ap (get middle.objects) alike ∙ holds_still part first other.id other (under_own part ready j other g) (λ e. apart (sym same ∙ e)) in
    omega (arith, energy_changed part first one here, energy_changed middle second other there)
