-- A room with memory for twice as many objects as it has, and with no object of its serials to come, is ready.
use Rattle.std.proofs.Common.{◌≡◌, ℕ, ◌+◌, ◌-◌, ◌*◌, ◌^◌, ◌<◌, ◌≤◌, ◌&&◌, ◌||◌, Bool, cond, nat_lt, List, [], ◌∷◌, length, Some, refl, sym, ap, ◌∙◌, arith}
use Rattle.std.specs.List.{AllByRecursion}
use Rattle.std.proofs.lemmas.Bool.{ne_eqb}
use Rattle.std.proofs.lemmas.List.Sums.{count_by-le-length}
use Rattle.game_tables.specs.Kinds.{is_building, is_creep}
use Rattle.room_table.specs.declared.object.Object.{Object}
use Rattle.room_table.specs.Tables.{Table, IsOnTile, HasNoId, find_object}
use Rattle.world_rules.specs.Upkeep.{decays}
use Rattle.room_rules.specs.Calls.{IsReadyFor}
use Rattle.upkeep_rules.specs.Falling.{may_fall, may_leave}

nowhere : (from to id : ℕ) (objects : List Object) → from ≤ id → id < to → AllByRecursion (λ object. from ≤ object.id → object.id < to → ⊥) objects → HasNoId id objects
nowhere from to id [] low high outside = refl
nowhere from to id (object ∷ objects) low high outside =
    ap (λ (b : Bool). cond b (Some object) (find_object id objects)) (ne_eqb object.id id (λ same. outside.0 (omega (arith, same, low)) (omega (arith, same, high))))
    ∙ nowhere from to id objects low high outside.1

pub ready_from : (many : ℕ) (table : Table) (objects : List Object) (first last : ℕ) → many ≤ 2 * length table.objects → objects ≡ table.objects → first ≡ table.index * 2 ^ 32 + table.next → last ≡ table.index * 2 ^ 32 + 2 ^ 32
    → 2 * length table.objects ≤ table.spare → table.next + 2 * length table.objects ≤ 2 ^ 32 - 1 → AllByRecursion IsOnTile table.objects
    → AllByRecursion (λ object. first ≤ object.id → object.id < last → ⊥) objects → IsReadyFor many table
ready_from many table objects first last few same first_is last_is spare serial tiles outside = record {
  spare = omega (arith, few, spare);
  serial = omega (arith, few, serial);
  fresh = λ serial from below.
      ap (find_object (table.index * 2 ^ 32 + serial)) (sym same)
      ∙ nowhere first last (table.index * 2 ^ 32 + serial) objects (omega (arith, first_is, from)) (omega (arith, last_is, below)) outside;
  tiles = tiles;
}

pub few_fall : (objects : List Object) → may_fall objects ≤ 2 * length objects
few_fall objects = let few = count_by-le-length (λ (object : Object). decays object.kind && nat_lt 0 object.energy) objects in omega (arith, few)

pub few_leave : (objects : List Object) → may_leave objects ≤ 2 * length objects
few_leave objects = let few = count_by-le-length (λ (object : Object). is_creep object.kind || is_building object.kind) objects in omega (arith, few)
