-- The creep and the target of an entry in a room's table, and what the table is with others in their places.
use Rattle.std.proofs.Common.{◌≡◌, ℕ, ◌==◌, Bool, true, false, cond, if◌then◌else◌, List, [], ◌∷◌, Option, Some, refl, sym, ap, subst, ◌∙◌}
use Rattle.std.specs.List.{AllByRecursion}
use Rattle.std.proofs.lemmas.Bool.{eqb-true}
use Rattle.room_terrain.specs.declared.terrain.Ground.{Ground}
use Rattle.game_tables.specs.declared.action.Action.{Action}
use Rattle.room_table.specs.declared.object.Object.{Object}
use Rattle.room_table.specs.Tables.{Table, IsOnTile, HasId, find_object, with_object}
use Rattle.intent_book.specs.declared.intent.Intent.{Intent}
use Rattle.world_rules.specs.RoomParts.{RoomPart, table_part}
use Rattle.world_rules.specs.Changes.{with_object as with_in_part}
use Rattle.world_rules.specs.Checks.{between, by_parties, parties}
use Rattle.world_rules.proofs.Checked.{AreParties, parties_are}
use Rattle.world_rules.proofs.TableParts.{all_found, get_table_part, has_the_id, part_replaced}
use Rattle.room_rules.specs.Calls.{IsReady, Keeps}
use Rattle.room_rules.proofs.Calls.{keeps_after, keeps_itself, ready_set, set_in}

-- ---- an object in the place of another

keeps_id : (object first : Object) → (if first.id == object.id then object else first).id ≡ first.id
keeps_id object first =
    elim (first.id == object.id) as (λ b. (first.id == object.id) ≡ b → (if b then object else first).id ≡ first.id) [
      | true ↦ λ same. sym (eqb-true first.id object.id same)
      | false ↦ λ other. refl
    ] refl

still_found : (b : Bool) (first changed : Object) (before after : Option Object) → ((object : Object) × (cond b (Some first) before ≡ Some object))
    → (((object : Object) × (before ≡ Some object)) → (object : Object) × (after ≡ Some object)) → (object : Object) × (cond b (Some changed) after ≡ Some object)
still_found true first changed before after has rest = (changed, refl)
still_found false first changed before after has rest = rest has

-- Who stands in the room does so still.
pub has_replaced : (id : ℕ) (object : Object) (objects : List Object) → HasId id objects → HasId id (with_object object objects)
has_replaced id object [] has = has
has_replaced id object (first ∷ objects) has =
    let changed : Object = if first.id == object.id then object else first in
    let after = find_object id (with_object object objects) in
    subst (λ (b : Bool). (o : Object) × (cond b (Some changed) after ≡ Some o)) (ap (λ (n : ℕ). n == id) (sym (keeps_id object first)))
    (still_found (first.id == id) first changed (find_object id objects) after has (has_replaced id object objects))

-- the table with two objects in the places of those of their ids
abbrev pub both_in : Object → Object → Table → Table
both_in first second table = set_in second (set_in first table)

pub part_both : (grounds : List Ground) (table : Table) (first second : Object) → HasId first.id table.objects → HasId second.id table.objects
    → table_part grounds (both_in first second table) ≡ with_in_part second (with_in_part first (table_part grounds table))
part_both grounds table first second has also =
    part_replaced grounds (set_in first table) second (has_replaced second.id first table.objects also)
    ∙ ap (with_in_part second) (part_replaced grounds table first has)

pub ready_both : (table : Table) (first second : Object) → IsOnTile first → IsOnTile second → IsReady table → IsReady (both_in first second table)
ready_both table first second on also ready = ready_set (set_in first table) second also (ready_set table first on ready)

-- A table that is ready, and has no other serials and no other memory, keeps what a rule keeps.
pub keeps_ready : (table new : Table) → new.index ≡ table.index → new.next ≡ table.next → new.spare ≡ table.spare → IsReady new → Keeps table new
keeps_ready table new index next spare ready = keeps_after table new new index next spare (keeps_itself new ready)

-- ---- the creep and the target of an entry

-- An object that is found stands there under its id.
pub stands : (id : ℕ) (objects : List Object) (found : Object) → find_object id objects ≡ Some found → HasId found.id objects
stands id objects found is = (found, ap (λ (n : ℕ). find_object n objects) (has_the_id id objects found is) ∙ is)

-- Two objects stand in the room, on its tiles.
pub record AreThere (table : Table) (creep target : Object) : Type 0 where
  pub creep_there : HasId creep.id table.objects
  pub target_there : HasId target.id table.objects
  pub creep_on : IsOnTile creep
  pub target_on : IsOnTile target

module _ (action : Action) (entry : Intent) (table : Table) (creep target : Object) (found : (grounds : List Ground) → Some (creep, target) ≡ parties action entry (table_part grounds table)) where
  are : AreParties action entry (table_part [] table) creep target
  are = parties_are action entry (table_part [] table) (creep, target) (sym (found []))

  pub creep_found : find_object entry.actor table.objects ≡ Some creep
  creep_found = sym (get_table_part [] table entry.actor) ∙ are.there

  pub target_found : find_object entry.target table.objects ≡ Some target
  target_found = sym (get_table_part [] table entry.target) ∙ are.at

  -- the target, under the id by which it is named
  pub target_under : (find_object entry.target table.objects ≡ Some target) × (target.id ≡ entry.target)
  target_under = (target_found, has_the_id entry.target table.objects target target_found)

  pub are_there : AllByRecursion IsOnTile table.objects → AreThere table creep target
  are_there all = record {
    creep_there = stands entry.actor table.objects creep creep_found;
    target_there = stands entry.target table.objects target target_found;
    creep_on = all_found IsOnTile (λ o. o.id == entry.actor) table.objects creep all creep_found;
    target_on = all_found IsOnTile (λ o. o.id == entry.target) table.objects target all target_found;
  }

  -- What the rule makes of the room is what it makes of it with these two.
  pub ruled_by : (change : Object → Object → RoomPart → RoomPart) (grounds : List Ground) → change creep target (table_part grounds table) ≡ by_parties action change entry (table_part grounds table)
  ruled_by change grounds = ap (λ (both : Option (Object × Object)). between change both (table_part grounds table)) (found grounds)
