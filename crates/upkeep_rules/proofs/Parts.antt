-- What a step makes of a room's part, and what it keeps of what a later one asks for.
use Rattle.std.proofs.Common.{◌≡◌, ℕ, ◌==◌, Bool, cond, List, [], ◌∷◌, Option, Some, None, option_map, refl, sym, ap, ◌∙◌, inl, inr}
use Rattle.std.specs.List.{cons_option, filter_map}
use Rattle.std.specs.FinMap.{get, from_entries}
use Rattle.std.proofs.lemmas.Bool.{cases_eq, eq-eqb, ne_eqb}
use Rattle.room_terrain.specs.declared.terrain.Ground.{Ground}
use Rattle.room_table.specs.declared.object.Object.{Object}
use Rattle.room_table.specs.Tables.{Table, IsRising, HasNoId, find_object}
use Rattle.room_table.specs.Tallies.{Tallies}
use Rattle.world_rules.specs.RoomParts.{RoomPart, table_part}
use Rattle.world_rules.specs.Steps.{each}
use Rattle.world_rules.proofs.Each.{KeepsIds, each_is_at_once, kept}
use Rattle.world_rules.proofs.Keys.{keyed, left_of, table_sorted, entries_of_sorted}
use Rattle.world_rules.proofs.TableParts.{get_table_part, has_the_id}
use Rattle.upkeep_rules.specs.declared.pass.Step.{Step}
use Rattle.upkeep_rules.specs.inner.Passed.{left_by, passed}
use Rattle.upkeep_rules.proofs.Lefts.{left-id}

abbrev id_of : Object → ℕ
id_of object = object.id

-- an object of a room's part stands under its id
pub table_keyed : (grounds : List Ground) (table : Table) (id : ℕ) (object : Object) → get (table_part grounds table).objects id ≡ Some object → object.id ≡ id
table_keyed grounds table id object found = has_the_id id table.objects object (sym (get_table_part grounds table id) ∙ found)

module _ (change : Object → Option Object) (keeps : KeepsIds change) where
  keyed_left : (objects : List Object) → keyed id_of (filter_map change objects) ≡ filter_map (left_of change) (keyed id_of objects)
  keyed_left [] = refl
  keyed_left (object ∷ objects) =
      let rest = keyed_left objects in
      elim (change object) as (λ r. change object ≡ r → keyed id_of (cons_option r (filter_map change objects)) ≡ cons_option (option_map (λ o. (object.id, o)) r) (filter_map (left_of change) (keyed id_of objects))) [
        | None ↦ λ e. rest
        | Some after ↦ λ e. λ i. (keeps object after e i, after) ∷ rest i
      ] refl

  each_table : (grounds : List Ground) (table : Table) → IsRising table.objects → table_part grounds (record table { objects = filter_map change table.objects }) ≡ each change (table_part grounds table)
  each_table grounds table rise =
      let holding : List (ℕ × Object) → RoomPart = λ es. record (table_part grounds table) { objects = from_entries es } in
      sym (
      each_is_at_once change keeps (table_part grounds table) (table_keyed grounds table)
      ∙ ap (λ es. holding (kept change es)) (entries_of_sorted (keyed id_of table.objects) (table_sorted table.objects rise))
      ∙ ap holding (sym (keyed_left table.objects))
      )

  -- An id that is absent stays so.
  absent_left : (id : ℕ) (objects : List Object) → HasNoId id objects → HasNoId id (filter_map change objects)
  absent_left id [] absent = refl
  absent_left id (object ∷ objects) absent =
      elim (cases_eq object.id id) [
        | inl same ↦ absurd (let here = eq-eqb object.id id same in let some : ◌≡◌ {A = Option Object} (Some object) None = sym (ap (λ (b : Bool). cond b (Some object) (find_object id objects)) here) ∙ absent in cc)
        | inr other ↦
            let apart = ne_eqb object.id id other in
            let rest = absent_left id objects (sym (ap (λ (b : Bool). cond b (Some object) (find_object id objects)) apart) ∙ absent) in
            elim (change object) as (λ r. change object ≡ r → HasNoId id (cons_option r (filter_map change objects))) [
              | None ↦ λ e. rest
              | Some after ↦ λ e. ap (λ (n : ℕ). cond (n == id) (Some after) (find_object id (filter_map change objects))) (keeps object after e) ∙ ap (λ (b : Bool). cond b (Some after) (find_object id (filter_map change objects))) apart ∙ rest
            ] refl
      ]

-- A step of a table is that of its part.
pub passed_part : (step : Step) (tallies : Tallies) (grounds : List Ground) (table : Table) → IsRising table.objects → table_part grounds (passed step tallies table) ≡ each (left_by step) (table_part grounds table)
passed_part step tallies grounds table rise = each_table (left_by step) (left-id step) grounds table rise

pub passed_absent : (step : Step) (id : ℕ) (objects : List Object) → HasNoId id objects → HasNoId id (filter_map (left_by step) objects)
passed_absent step id objects absent = absent_left (left_by step) (left-id step) id objects absent
