-- A step in which each object of a part changes by itself.
use Rattle.std.proofs.Common.{◌≡◌, ℕ, suc, ◌==◌, true, List, [], ◌∷◌, length, Option, Some, None, option_and_then, refl, sym, ap, ◌∙◌, arith}
use Rattle.std.specs.Cmp.{nat_cmp_total}
use Rattle.std.specs.List.{filter}
use Rattle.std.specs.FinMap.{get, values, entries, entries_sorted, get-entries, same_map, nat_cmp-IsAntisymmetric}
use Rattle.std.proofs.lemmas.Bool.{eqb-true}
use Rattle.room_table.specs.declared.object.Object.{Object}
use Rattle.room_terrain.specs.declared.terrain.Ground.{Ground}
use Rattle.intent_book.specs.declared.intent.Intent.{Intent}
use Rattle.room_table.specs.Tables.{Table}
use Rattle.world_rules.specs.RoomParts.{RoomPart, table_part}
use Rattle.world_rules.proofs.TableParts.{get_table_part, has_the_id}
use Rattle.game_tables.specs.declared.kind.Kind.{Kind}
use Rattle.game_tables.specs.declared.kind.Kind.TheVariants.{Road}
use Rattle.world_rules.specs.Changes.{with_object}
use Rattle.world_rules.specs.Movement.{has_mover, worn_as}
use Rattle.world_rules.specs.Moves.{moved}
use Rattle.world_rules.specs.Steps.{each, over_objects}
use Rattle.world_rules.proofs.Keys.{once_of_sorted}
use Rattle.world_rules.proofs.Each.{KeepsIds}
use Rattle.room_commutes.specs.Standing.{AreKeyed}
use Rattle.room_commutes.proofs.CreepsApart.{each_get as each_gets, each_rest as each_rests}
use Rattle.room_commutes.proofs.Members.{Has, found_has, has_found, map_has}

module _ (change : Object → Object) (keeps : (object : Object) → (change object).id ≡ object.id) where
  abbrev leaves : Object → Option Object
  leaves object = Some (change object)

  keeps_id : KeepsIds leaves
  keeps_id object after is = let same : change object ≡ after = cc in ap (λ (o : Object). o.id) (sym same) ∙ keeps object

  pub each_get : (part : RoomPart) → AreKeyed part → (id : ℕ) → get (each leaves part).objects id ≡ option_and_then leaves (get part.objects id)
  each_get = each_gets leaves keeps_id

  pub each_rest : (part : RoomPart) → AreKeyed part → record (each leaves part) { objects = part.objects } ≡ part
  each_rest = each_rests leaves keeps_id

  left_from : (found : Option Object) (after : Object) → option_and_then leaves found ≡ Some after → (object : Object) × (found ≡ Some object) × (change object ≡ after)
  left_from None after is = absurd (cc)
  left_from (Some object) after is = (object, refl, cc)

  pub each_from : (part : RoomPart) → AreKeyed part → (id : ℕ) (after : Object) → get (each leaves part).objects id ≡ Some after → (object : Object) × (get part.objects id ≡ Some object) × (change object ≡ after)
  each_from part keyed id after is = left_from (get part.objects id) after (sym (each_get part keyed id) ∙ is)

  pub each_keyed : (part : RoomPart) → AreKeyed part → AreKeyed (each leaves part)
  each_keyed part keyed id after is =
      let from = each_from part keyed id after is in
      ap (λ (o : Object). o.id) (sym from.2) ∙ keeps from.0 ∙ keyed id from.0 from.1

-- ---- the objects of a part

pub stands_has : (part : RoomPart) (id : ℕ) (object : Object) → get part.objects id ≡ Some object → Has (values part.objects) object
stands_has part id object is = found_has (entries part.objects) id object (sym (get-entries part.objects id) ∙ is)

pub has_stands : (part : RoomPart) (object : Object) → Has (values part.objects) object → (id : ℕ) × (get part.objects id ≡ Some object)
has_stands part object has =
    let e = map_has (λ (entry : ℕ × Object). entry.1) (entries part.objects) object has in
    (e.0.0, get-entries part.objects e.0.0 ∙ has_found (entries part.objects) (once_of_sorted (entries part.objects) (entries_sorted part.objects)) e.0 e.1 ∙ ap Some e.2)

-- ---- no moves

unworn : (kind : Kind) (object : Object) → worn_as kind [] object ≡ object
unworn Road object = refl
unworn kind object = refl

none_of : (objects : List Object) → filter (λ object. has_mover [] object.id) objects ≡ []
none_of [] = refl
none_of (object ∷ objects) = none_of objects

same_part : (part : RoomPart) → AreKeyed part → each (λ object. Some object) part ≡ part
same_part part keyed =
    let keeps : (object : Object) → object.id ≡ object.id = λ object. refl in
    let objects = same_map nat_cmp_total nat_cmp-IsAntisymmetric (each (λ object. Some object) part).objects part.objects (λ id.
    each_get (λ object. object) keeps part keyed id ∙ itself (get part.objects id)) in
    let rest = each_rest (λ object. object) keeps part keyed in
    λ i. record (rest i) { objects = objects i }
  where
    itself : (found : Option Object) → option_and_then (λ object. Some object) found ≡ found
    itself None = refl
    itself (Some object) = refl

-- Where nobody is to move the room stays as it is.
nobody_moves : (part : RoomPart) → AreKeyed part → moved [] part ≡ part
nobody_moves part keyed =
    let still : RoomPart → RoomPart = each (λ object. Some object) in
    (λ i. over_objects (λ object now. with_object (worn_as object.kind (none_of (values (still part).objects) i) object) now) (still part))
    ∙ (λ i. over_objects (λ object now. with_object (unworn object.kind object i) now) (still part))
    ∙ ap still (same_part part keyed)
    ∙ same_part part keyed

pub nobody_moves_in : (grounds : List Ground) (table : Table) → moved [] (table_part grounds table) ≡ table_part grounds table
nobody_moves_in grounds table = nobody_moves (table_part grounds table) (λ id object is. has_the_id id table.objects object (sym (get_table_part grounds table id) ∙ is))

pub no_moves : (moves : List Intent) → true ≡ (length moves == 0) → moves ≡ []
no_moves [] none = refl
no_moves (entry ∷ moves) none = (let long : suc (length moves) ≡ 0 = eqb-true (suc (length moves)) 0 (sym none) in absurd (omega arith))
