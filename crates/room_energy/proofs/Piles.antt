-- Energy that falls: what the room keeps of it, and what is lost.
use Rattle.std.proofs.Common.{◌≡◌, ℕ, ◌+◌, ◌≤◌, ◌==◌, min, if◌then◌else◌, Bool, true, false, cond, List, [], ◌∷◌, map, Option, Some, None, refl, sym, ap, ◌∙◌, arith}
use Rattle.std.specs.List as lists
use Rattle.std.specs.Ordering.{nat_cmp, eq_by_cmp}
use Rattle.std.specs.Cmp.{unsigned_tied}
use Rattle.std.specs.FinMap.{find, get, entries, entries_sorted, get-entries}
use Rattle.std.proofs.lemmas.Bool.{eq-eqb, eqb-true}
use Rattle.game_tables.specs.declared.action.Action.TheVariants.{DropLoad}
use Rattle.intent_book.specs.declared.intent.Intent.{Intent}
use Rattle.room_table.specs.declared.object.Object.{Object}
use Rattle.world_rules.specs.RoomParts.{RoomPart}
use Rattle.world_rules.specs.Changes.{with_object}
use Rattle.world_rules.specs.Checks.{may_take_effect}
use Rattle.world_rules.specs.Drops.{pile_bound, is_pile_on, pile_on, pile_of, fallen, fallen_on, wanted_of, dropped_by, dropped_of, dropped}
use Rattle.world_rules.specs.Loads.{with_less}
use Rattle.world_rules.proofs.Keys.{AreKeysOnce, once_of_sorted}
use Rattle.room_rules.specs.RoomRules.{Holds}
use Rattle.room_energy.specs.Energy.{energy_in, passing, lost_on, lost_by_drop}
use Rattle.room_energy.proofs.Parts.{IsReady, energy_changed, energy_new, ready_changed, under_own}

-- ---- the pile of a tile

found_of_entries : (test : Object → Bool) (es : List (ℕ × Object)) (object : Object) → AreKeysOnce es → lists.find test (map (λ (e : ℕ × Object). e.1) es) ≡ Some object → (id : ℕ) × (find nat_cmp id es ≡ Some object)
found_of_entries test [] object once is = absurd (cc)
found_of_entries test (e ∷ es) object once is =
    elim (test e.1) as (λ b. cond b (Some e.1) (lists.find test (map (λ (e : ℕ × Object). e.1) es)) ≡ Some object → (id : ℕ) × (find nat_cmp id (e ∷ es) ≡ Some object)) [
      | true ↦ λ got.
          let tied : eq_by_cmp nat_cmp e.0 e.0 ≡ true = unsigned_tied e.0 e.0 ∙ eq-eqb e.0 e.0 refl in
          (e.0, ap (λ (b : Bool). cond b (Some e.1) (find nat_cmp e.0 es)) tied ∙ got)
      | false ↦ λ got.
          let rest = found_of_entries test es object once.1 got in
          let apart : eq_by_cmp nat_cmp rest.0 e.0 ≡ false = elim (eq_by_cmp nat_cmp rest.0 e.0) as (λ b. eq_by_cmp nat_cmp rest.0 e.0 ≡ b → b ≡ false) [
            | true ↦ λ tie.
                let same : rest.0 ≡ e.0 = eqb-true rest.0 e.0 (sym (unsigned_tied rest.0 e.0) ∙ tie) in
                absurd (not_both object (find nat_cmp rest.0 es) (ap (λ (n : ℕ). find nat_cmp n es) same ∙ once.0) rest.1)
            | false ↦ λ tie. refl
          ] refl in
          (rest.0, ap (λ (b : Bool). cond b (Some e.1) (find nat_cmp rest.0 es)) apart ∙ rest.1)
    ] is
  where
    not_both : (object : Object) (found : Option Object) → found ≡ None → found ≡ Some object → ⊥
    not_both object found none some = cc

-- It stands in the room under its id.
pile_there : (x y : ℕ) (part : RoomPart) → IsReady part → (pile : Object) → pile_on x y part ≡ Some pile → Holds part pile.id pile
pile_there x y part ready pile is =
    let found = found_of_entries (is_pile_on x y) (entries part.objects) pile (once_of_sorted _ (entries_sorted part.objects)) is in
    under_own part ready found.0 pile (get-entries part.objects found.0 ∙ found.1)

-- ---- an amount that falls

fallen_as : (x y amount : ℕ) (part : RoomPart) → IsReady part → (found : Option Object) → pile_on x y part ≡ found → energy_in (fallen_on found x y amount part) + passing found amount ≡ energy_in part + amount
fallen_as x y amount part ready None is =
    let new = energy_new part ready (λ id. pile_of id x y (min pile_bound amount)) in omega (arith, new)
fallen_as x y amount part ready (Some pile) is =
    let grown : Object = record pile { energy = min pile_bound (pile.energy + amount) } in
    let changed = energy_changed part grown pile (pile_there x y part ready pile is) in omega (arith, changed)

fallen_if : (x y amount : ℕ) (part : RoomPart) → IsReady part → (b : Bool) → (amount == 0) ≡ b
    → energy_in (if b then part else fallen_on (pile_on x y part) x y amount part) + (if b then 0 else passing (pile_on x y part) amount) ≡ energy_in part + amount
fallen_if x y amount part ready true is = let nothing : amount ≡ 0 = eqb-true amount 0 is in omega (arith, nothing)
fallen_if x y amount part ready false is = fallen_as x y amount part ready (pile_on x y part) refl

-- What falls on a tile is in the room or lost.
pub energy_fallen : (x y amount : ℕ) (part : RoomPart) → IsReady part → energy_in (fallen x y amount part) + lost_on x y amount part ≡ energy_in part + amount
energy_fallen x y amount part ready = fallen_if x y amount part ready (amount == 0) refl

-- ---- what a creep drops

pub wanted_most : (amount all : ℕ) → wanted_of amount all ≤ all
wanted_most amount all = one (amount == 0)
  where
    one : (b : Bool) → (if b then all else min amount all) ≤ all
    one true = omega arith
    one false = omega arith

dropped_if : (part : RoomPart) → IsReady part → (creep : Object) → Holds part creep.id creep → (amount : ℕ) → amount ≤ creep.energy → (b : Bool)
    → energy_in (if b then dropped_by creep amount part else part) + (if b then lost_on creep.x creep.y amount (with_object (with_less amount creep) part) else 0) ≡ energy_in part
dropped_if part ready creep there amount most true =
    let less : Object = with_less amount creep in
    let changed = energy_changed part less creep there in
    let fell = energy_fallen creep.x creep.y amount (with_object less part) (ready_changed part less ready) in
    omega (arith, most, changed, fell)
dropped_if part ready creep there amount most false = omega arith

dropped_as : (part : RoomPart) → IsReady part → (entry : Intent) (found : Option Object) → get part.objects entry.actor ≡ found → energy_in (dropped_of entry found part) + lost_by_drop entry part found ≡ energy_in part
dropped_as part ready entry None is = omega arith
dropped_as part ready entry (Some creep) is =
    dropped_if part ready creep (under_own part ready entry.actor creep is) (wanted_of entry.amount creep.energy) (wanted_most entry.amount creep.energy) (may_take_effect DropLoad entry part)

pub energy_dropped : (part : RoomPart) → IsReady part → (entry : Intent) → energy_in (dropped entry part) + lost_by_drop entry part (get part.objects entry.actor) ≡ energy_in part
energy_dropped part ready entry = dropped_as part ready entry (get part.objects entry.actor) refl
