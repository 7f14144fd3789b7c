-- What stands in a room's table, and what of it still does once an object is changed or gone.
use Rattle.std.proofs.Common.{◌≡◌, ◌≢◌, ℕ, ◌==◌, ◌&&◌, not, Bool, true, false, cond, if◌then◌else◌, List, [], ◌∷◌, Option, Some, None, refl, sym, ap, subst, ◌∙◌, inl, inr}
use Rattle.std.proofs.lemmas.Bool.{cases_eq, eq-eqb, ne_eqb}
use Rattle.game_tables.specs.declared.action.Action.{Action}
use Rattle.game_tables.specs.declared.action.Action.TheVariants.{Pickup}
use Rattle.game_tables.specs.Actions.{is_target}
use Rattle.room_table.specs.declared.object.Object.{Object}
use Rattle.room_table.specs.Tables.{Table, HasId, IsOnTile, find_object, with_object, without}
use Rattle.intent_book.specs.declared.intent.Intent.{Intent}
use Rattle.room_rules.specs.Calls.{Keeps}
use Rattle.room_rules.proofs.Calls.{set_in}
use Rattle.world_rules.specs.RoomParts.{table_part}
use Rattle.world_rules.specs.Checks.{are_near, may_be_target, parties}
use Rattle.world_rules.proofs.Checked.{AreParties, and_left, and_right, parties_are, placed_in, scene_with}
use Rattle.world_rules.proofs.TableParts.{get_table_part, has_the_id, tiles_replaced}

-- An object that is found stands there under its own id.
pub stands : (id : ℕ) (objects : List Object) (found : Object) → find_object id objects ≡ Some found → find_object found.id objects ≡ Some found
stands id objects found is = ap (λ (n : ℕ). find_object n objects) (has_the_id id objects found is) ∙ is

-- ---- what still stands there

found_in : (b : Bool) (first : Object) (found : Option Object) → (b ≡ false → (o : Object) × (found ≡ Some o)) → (o : Object) × (cond b (Some first) found ≡ Some o)
found_in true first found later = (first, refl)
found_in false first found later = later refl

found_later : (b : Bool) (first : Object) (found : Option Object) → b ≡ false → (o : Object) × (cond b (Some first) found ≡ Some o) → (o : Object) × (found ≡ Some o)
found_later b first found other is = (is.0, sym (ap (λ (b : Bool). cond b (Some first) found) other) ∙ is.1)

head_id : (first object : Object) → (if first.id == object.id then object else first).id ≡ first.id
head_id first object =
    elim (cases_eq first.id object.id) [
      | inl same ↦ ap (λ (b : Bool). (cond b object first).id) (eq-eqb first.id object.id same) ∙ sym same
      | inr other ↦ ap (λ (b : Bool). (cond b object first).id) (ne_eqb first.id object.id other)
    ]

-- Each id that stands there does so once an object is in the place of the one of its id.
pub still_set : (id : ℕ) (object : Object) (objects : List Object) → HasId id objects → HasId id (with_object object objects)
still_set id object [] has = absurd (let none : ◌≡◌ {A = Option Object} None (Some has.0) = has.1 in cc)
still_set id object (first ∷ objects) has =
    let head : Object = if first.id == object.id then object else first in
    found_in (head.id == id) head (find_object id (with_object object objects))
    (λ past. still_set id object objects (found_later (first.id == id) first (find_object id objects) (ap (λ (n : ℕ). n == id) (sym (head_id first object)) ∙ past) has))

-- So does each other id once an object is gone.
pub still_without : (id gone : ℕ) (objects : List Object) → id ≢ gone → HasId id objects → HasId id (without gone objects)
still_without id gone [] other has = absurd (let none : ◌≡◌ {A = Option Object} None (Some has.0) = has.1 in cc)
still_without id gone (first ∷ objects) other has =
    let rest = without gone objects in
    let later : (first.id == id) ≡ false → HasId id rest = λ past. still_without id gone objects other (found_later (first.id == id) first (find_object id objects) past has) in
    elim (cases_eq first.id gone) [
      | inl same ↦ subst (λ (b : Bool). HasId id (cond (not b) (first ∷ rest) rest)) (sym (eq-eqb first.id gone same)) (later (ne_eqb first.id id (λ e. other (sym e ∙ same))))
      | inr apart ↦ subst (λ (b : Bool). HasId id (cond (not b) (first ∷ rest) rest)) (sym (ne_eqb first.id gone apart)) (found_in (first.id == id) first (find_object id rest) later)
    ]

-- What is kept is kept once an object stands in the place of another.
pub keeps_set : (old table : Table) (object : Object) → IsOnTile object → Keeps old table → Keeps old (set_in object table)
keeps_set old table object on keeps = record {
  index = keeps.index;
  used = keeps.used;
  later = keeps.later;
  made = keeps.made;
  tiles = tiles_replaced object table.objects on keeps.tiles;
}

-- ---- the creep and the target of an entry

module _ (action : Action) (entry : Intent) (table : Table) (creep target : Object) (is : parties action entry (table_part [] table) ≡ Some (creep, target)) where
  are : AreParties action entry (table_part [] table) creep target
  are = parties_are action entry (table_part [] table) (creep, target) is

  pub creep_stands : find_object creep.id table.objects ≡ Some creep
  creep_stands = stands entry.actor table.objects creep (sym (get_table_part [] table entry.actor) ∙ are.there)

  pub target_stands : find_object target.id table.objects ≡ Some target
  target_stands = stands entry.target table.objects target (sym (get_table_part [] table entry.target) ∙ are.at)

-- A creep is another object than the pile that it picks up.
pub apart_from_pile : (entry : Intent) (table : Table) (creep pile : Object) → parties Pickup entry (table_part [] table) ≡ Some (creep, pile) → creep.id ≢ pile.id
apart_from_pile entry table creep pile is same =
    let part = table_part [] table in
    let scene = scene_with entry part creep pile in
    let of = parties_are Pickup entry part (creep, pile) is in
    let may = and_left (may_be_target Pickup scene pile) (are_near 1 (Some (placed_in part creep)) (Some (placed_in part pile)) && true) of.targets in
    let other : not (creep.id == pile.id) ≡ true = and_right (is_target Pickup pile.kind) (not (creep.id == pile.id)) may in
    absurd (let fails : false ≡ true = ap not (sym (eq-eqb creep.id pile.id same)) ∙ other in cc)
