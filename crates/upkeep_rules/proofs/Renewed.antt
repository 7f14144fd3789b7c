-- A table after the renewal of sources: as many containers and roads may fall, and it is as ready.
use Rattle.std.proofs.Common.{◌≡◌, ℕ, ◌+◌, ◌&&◌, cond, nat_lt, List, [], ◌∷◌, filter_map, refl, sym, ap, subst, ◌∙◌}
use Rattle.std.specs.List.{AllByRecursion, cons_option}
use Rattle.game_tables.specs.Kinds.{source_capacity}
use Rattle.game_tables.specs.declared.kind.Kind.{Kind}
use Rattle.game_tables.specs.declared.kind.Kind.TheVariants.{Source}
use Rattle.room_terrain.specs.declared.terrain.Ground.{Ground}
use Rattle.room_table.specs.Controllers.{controller_among, is_taken}
use Rattle.room_table.specs.declared.object.Object.{Object}
use Rattle.room_table.specs.Tables.{Table, IsOnTile, IsRising}
use Rattle.world_rules.specs.RoomParts.{table_part}
use Rattle.world_rules.specs.Steps.{each}
use Rattle.world_rules.specs.Upkeep.{decays, renewed, renewed_as, source_renewed}
use Rattle.world_rules.proofs.TableParts.{part_controller}
use Rattle.room_rules.specs.Calls.{IsReadyFor}
use Rattle.upkeep_rules.specs.Falling.{may_fall}
use Rattle.upkeep_rules.specs.declared.pass.Step.TheVariants.{Renew}
use Rattle.upkeep_rules.specs.inner.Passed.{left_by, passed}
use Rattle.upkeep_rules.proofs.Lefts.{source_stays}
use Rattle.upkeep_rules.proofs.Parts.{passed_absent}
use Rattle.std.proofs.lemmas.List.Sums.{sum_by-cons}

may_fall_more : (object : Object) (objects : List Object) → may_fall (object ∷ objects) ≡ cond {A = ℕ} (decays object.kind && nat_lt 0 object.energy) 1 0 + may_fall objects
may_fall_more object objects = sum_by-cons (λ (o : Object). cond {A = ℕ} (decays o.kind && nat_lt 0 o.energy) 1 0) object objects

nothing_falls : (object : Object) (objects : List Object) → object.kind ≡ Source → may_fall (object ∷ objects) ≡ 0 + may_fall objects
nothing_falls object objects is = may_fall_more object objects ∙ ap (λ (k : Kind). cond {A = ℕ} (decays k && nat_lt 0 object.energy) 1 0 + may_fall objects) is

one_renewed : (kind : Kind) (capacity : ℕ) (object : Object) (more objects : List Object) → object.kind ≡ kind → may_fall more ≡ may_fall objects → may_fall (cons_option (renewed_as kind capacity object) more) ≡ may_fall (object ∷ objects)
one_renewed Source capacity object more objects is rest =
    nothing_falls (source_renewed capacity object) more ((source_stays capacity object).kind ∙ is) ∙ ap (λ (n : ℕ). 0 + n) rest ∙ sym (nothing_falls object objects is)
one_renewed kind capacity object more objects is rest =
    may_fall_more object more ∙ ap (λ (n : ℕ). cond {A = ℕ} (decays object.kind && nat_lt 0 object.energy) 1 0 + n) rest ∙ sym (may_fall_more object objects)

pub may_fall_renewed : (capacity : ℕ) (objects : List Object) → may_fall (filter_map (left_by (Renew capacity)) objects) ≡ may_fall objects
may_fall_renewed capacity [] = refl
may_fall_renewed capacity (object ∷ objects) = one_renewed object.kind capacity object (filter_map (left_by (Renew capacity)) objects) objects refl (may_fall_renewed capacity objects)

pub ready_renewed : (capacity : ℕ) (table new : Table) → new ≡ passed (Renew capacity) new.tallies table → AllByRecursion IsOnTile new.objects → IsReadyFor (may_fall table.objects) table → IsReadyFor (may_fall new.objects) new
ready_renewed capacity table new is tiles ready =
    subst (λ (t : Table). IsReadyFor (may_fall t.objects) t) (sym is) (subst (λ (n : ℕ). IsReadyFor n (passed (Renew capacity) new.tallies table)) (sym (may_fall_renewed capacity table.objects)) (record {
      spare = ready.spare;
      serial = ready.serial;
      fresh = λ serial from below. passed_absent (Renew capacity) _ table.objects (ready.fresh serial from below);
      tiles = subst (λ (t : Table). AllByRecursion IsOnTile t.objects) is tiles;
    }))

-- the renewal up to the capacity of the room's controller
pub renewed_part : (capacity : ℕ) (grounds : List Ground) (table : Table) → IsRising table.objects → capacity ≡ source_capacity (is_taken (controller_among table.objects)) → each (left_by (Renew capacity)) (table_part grounds table) ≡ renewed (table_part grounds table)
renewed_part capacity grounds table rise is =
    ap (λ (n : ℕ). each (left_by (Renew n)) (table_part grounds table)) (is ∙ ap (λ found. source_capacity (is_taken found)) (sym (part_controller grounds table rise)))
