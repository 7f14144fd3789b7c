-- What the checks of an action tell of its actor and of its target.
use Rattle.std.proofs.Common.{◌≡◌, ◌==◌, ◌&&◌, ◌++◌, Bool, true, false, nat_lt, if◌then◌else◌, List, [], ◌∷◌, Option, Some, None, refl, sym, ap, subst, ◌∙◌, option_map}
use Rattle.std.specs.FinMap.{get, values}
use Rattle.game_tables.specs.Actions.{max_range, needed_part}
use Rattle.game_tables.specs.Kinds.{is_creep}
use Rattle.game_tables.specs.declared.action.Action.{Action}
use Rattle.room_table.specs.declared.object.Object.{Object}
use Rattle.intent_book.specs.declared.intent.Intent.{Intent}
use Rattle.world_rules.specs.World.{Placed}
use Rattle.world_rules.specs.RoomParts.{RoomPart}
use Rattle.world_rules.specs.Checks.{Check, Scene, all_hold, amount_checks, both_of, checks, creep_checks, further_checks, may_take_effect, part_checks, parties, scene_of, standing_at, takes_effect, target_checks}

pub and_left : (a b : Bool) → (a && b) ≡ true → a ≡ true
and_left true b is = refl
and_left false b is = absurd (cc)

pub and_right : (a b : Bool) → (a && b) ≡ true → b ≡ true
and_right true b is = is
and_right false b is = absurd (cc)

-- The actor of an action that takes effect is a creep.
creep_takes : (action : Action) (entry : Intent) (around : List Object) (creep : Placed) (target : Option Placed) → takes_effect action entry around (Some creep) target ≡ true → is_creep creep.object.kind ≡ true
creep_takes action entry around creep target takes =
    and_left (is_creep creep.object.kind) _ (and_left (all_hold (checks action (scene_of entry around (Some creep) target))) (nat_lt 0 creep.object.hits) takes)

pub creep_acts : (action : Action) (entry : Intent) (part : RoomPart) (creep : Object) → get part.objects entry.actor ≡ Some creep → may_take_effect action entry part ≡ true → is_creep creep.kind ≡ true
creep_acts action entry part creep there takes =
    let placed : Object → Placed = λ object. record { room = part.index; object = object } in
    let P : Option Object → Type 0 = λ found. takes_effect action entry (values part.objects) (option_map placed found) (standing_at part entry.target) ≡ true in
    creep_takes action entry (values part.objects) (placed creep) (standing_at part entry.target) (subst P there takes)

-- ---- checks in two parts

pub hold_left : (early late : List Check) → all_hold (early ++ late) ≡ true → all_hold early ≡ true
hold_left [] late hold = refl
hold_left (check ∷ early) late hold = both_true check.0 (all_hold early) (and_left check.0 (all_hold (early ++ late)) hold) (hold_left early late (and_right check.0 (all_hold (early ++ late)) hold))
  where
    both_true : (a b : Bool) → a ≡ true → b ≡ true → (a && b) ≡ true
    both_true true b one other = other
    both_true false b one other = absurd (cc)

pub hold_right : (early late : List Check) → all_hold (early ++ late) ≡ true → all_hold late ≡ true
hold_right [] late hold = hold
hold_right (check ∷ early) late hold = hold_right early late (and_right check.0 (all_hold (early ++ late)) hold)

-- ---- the creep and the target of an entry

-- an object in the room of a part
abbrev pub placed_in : RoomPart → Object → Placed
placed_in part object = record { room = part.index; object = object }

-- what the rule of an entry reads, with this creep and this target
abbrev pub scene_with : Intent → RoomPart → Object → Object → Scene
scene_with entry part creep target = scene_of entry (values part.objects) (Some (placed_in part creep)) (Some (placed_in part target))

-- They stand in the room, all checks hold of them, and the creep has hits.
pub record AreParties (action : Action) (entry : Intent) (part : RoomPart) (creep target : Object) : Type 0 where
  pub there : get part.objects entry.actor ≡ Some creep
  pub at : get part.objects entry.target ≡ Some target
  pub kind : is_creep creep.kind ≡ true
  pub own : (creep.owner == entry.player) ≡ true
  pub targets : all_hold (target_checks (max_range action) action (scene_with entry part creep target)) ≡ true
  pub further : all_hold (further_checks action (scene_with entry part creep target)) ≡ true
  pub hits : nat_lt 0 creep.hits ≡ true

both_stand : (one other : Option Object) (found : Object × Object) → both_of one other ≡ Some found → (one ≡ Some found.0) × (other ≡ Some found.1)
both_stand None other found is = absurd (cc)
both_stand (Some creep) None found is = absurd (cc)
both_stand (Some creep) (Some target) found is =
    let same : (creep, target) ≡ found = cc in (ap (λ (pair : Object × Object). Some pair.0) same, ap (λ (pair : Object × Object). Some pair.1) same)

module _ (action : Action) (entry : Intent) (part : RoomPart) where
  found_where : (b : Bool) (found : Object × Object) → (if b then both_of (get part.objects entry.actor) (get part.objects entry.target) else None) ≡ Some found
      → (b ≡ true) × (both_of (get part.objects entry.actor) (get part.objects entry.target) ≡ Some found)
  found_where true found is = (refl, is)
  found_where false found is = absurd (cc)

  holds_all : (creep target : Object) → get part.objects entry.actor ≡ Some creep → get part.objects entry.target ≡ Some target → may_take_effect action entry part ≡ true
      → takes_effect action entry (values part.objects) (Some (placed_in part creep)) (Some (placed_in part target)) ≡ true
  holds_all creep target there at takes =
      sym (λ i. takes_effect action entry (values part.objects) (option_map (placed_in part) (there i)) (option_map (placed_in part) (at i))) ∙ takes

  -- Those that the rule finds are its creep and its target.
  pub parties_are : (found : Object × Object) → parties action entry part ≡ Some found → AreParties action entry part found.0 found.1
  parties_are found is =
      let both = found_where (may_take_effect action entry part) found is in
      let stand = both_stand (get part.objects entry.actor) (get part.objects entry.target) found both.1 in
      let scene = scene_with entry part found.0 found.1 in
      let takes = holds_all found.0 found.1 stand.0 stand.1 both.0 in
      let hold = and_left (all_hold (checks action scene)) (nat_lt 0 found.0.hits) takes in
      let first = creep_checks scene ++ amount_checks action scene in
      let before = first ++ part_checks (needed_part action) scene in
      let early = hold_left before (target_checks (max_range action) action scene) (hold_left (before ++ target_checks (max_range action) action scene) (further_checks action scene) hold) in
      let creeps = hold_left (creep_checks scene) (amount_checks action scene) (hold_left first (part_checks (needed_part action) scene) early) in
      record {
        there = stand.0;
        at = stand.1;
        kind = creep_acts action entry part found.0 stand.0 both.0;
        own = and_left (found.0.owner == entry.player) true (and_right (is_creep found.0.kind) ((found.0.owner == entry.player) && true) creeps);
        targets = hold_right before (target_checks (max_range action) action scene) (hold_left (before ++ target_checks (max_range action) action scene) (further_checks action scene) hold);
        further = hold_right (before ++ target_checks (max_range action) action scene) (further_checks action scene) hold;
        hits = and_right (all_hold (checks action scene)) (nat_lt 0 found.0.hits) takes;
      }
