-- Creeps that fight, as they are found in a room's table.
use Rattle.std.proofs.Common.{◌≡◌, true, false, if◌then◌else◌, List, [], ◌∷◌, Some, None, refl, sym, ◌∙◌}
use Rattle.std.specs.FinMap.{get}
use Rattle.room_terrain.specs.declared.terrain.Ground.{Ground}
use Rattle.game_tables.specs.declared.action.Action.{Action}
use Rattle.room_table.specs.declared.object.Object.{Object}
use Rattle.game_tables.specs.Kinds.{is_creep}
use Rattle.game_tables.specs.declared.kind.Kind.{Kind}
use Rattle.game_tables.specs.declared.kind.Kind.TheVariants.{Creep}
use Rattle.room_table.specs.Tables.{Table, find_object}
use Rattle.intent_book.specs.declared.intent.Intent.{Intent}
use Rattle.world_rules.specs.RoomParts.{RoomPart, table_part}
use Rattle.world_rules.specs.Fights.{strength, struck_back}
use Rattle.world_rules.specs.Checks.{acting, may_take_effect}
use Rattle.world_rules.proofs.TableParts.{get_table_part}

module _ (action : Action) (entry : Intent) (table : Table) where
  -- The creep of an entry that has no target.
  pub acting_found : (creep : Object) → ((grounds : List Ground) → Some creep ≡ acting action entry (table_part grounds table)) → find_object entry.actor table.objects ≡ Some creep
  acting_found creep found =
      let part : RoomPart = table_part [] table in
      sym (get_table_part [] table entry.actor)
      ∙ elim (may_take_effect action entry part) as (λ b. Some creep ≡ (if b then get part.objects entry.actor else None) → get part.objects entry.actor ≡ Some creep) [
        | true ↦ λ is. sym is
        | false ↦ λ is. absurd cc
      ] (found [])

-- A target that is a creep strikes back.
pub strikes_back : (kind : Kind) (creep target : Object) → struck_back kind creep target ≡ (if is_creep kind then (creep.id, strength target) ∷ [] else [])
strikes_back Creep creep target = refl
strikes_back _ creep target = refl
