-- What was done to the objects of a table, once one more of a tile was struck.
use Rattle.std.proofs.Common.{◌≡◌, ℕ, ◌+◌, ◌<◌, ◌≤◌, ◌&&◌, ◌^◌, ◌==◌, nat_le, nat_lt, Some, None, sym, ap, ◌∙◌, arith}
use Rattle.std.specs.List.{AllByRecursion}
use Rattle.std.proofs.lemmas.Bool.{lt-ltb}
use Rattle.room_table.specs.declared.object.Object.{Object}
use Rattle.room_table.specs.Tables.{Table, IsRising, HasId, find_object, first_on_from, is_on}
use Rattle.world_rules.proofs.TableParts.{all_found, found_by_id}
use Rattle.room_rules.specs.inner.Damage.{IsDamaged, to_one}
use Rattle.creep_combat.specs.inner.Damage.{damage_where, mass_damage}
use Rattle.room_rules.proofs.Harmed.{damaged_both, damaged_same}
use Rattle.creep_combat.proofs.Struck.{all_done, late, tile_done, tile_more}

module _ (x y from : ℕ) (creep : Object) (table middle : Table) (rise : IsRising table.objects) (done : IsDamaged (damage_where (λ object. is_on x y object && nat_lt object.id from) creep) table middle) where
  objects_same : middle.objects ≡ table.objects
  objects_same = ap (λ (t : Table). t.objects) done.rest

  -- All of the tile were struck, where none is left.
  pub tile_ended : None ≡ first_on_from x y from middle.objects → IsDamaged (damage_where (is_on x y) creep) table middle
  tile_ended none =
      damaged_same (damage_where (λ object. is_on x y object && nat_lt object.id from) creep) (damage_where (is_on x y) creep) table middle done
      (tile_done x y from creep table.objects (ap (first_on_from x y from) (sym objects_same) ∙ sym none))

  module _ (found : Object) (is : Some found ≡ first_on_from x y from middle.objects) where
    found_first : first_on_from x y from table.objects ≡ Some found
    found_first = ap (first_on_from x y from) (sym objects_same) ∙ sym is

    pub found_stands : HasId found.id middle.objects
    found_stands = (found, ap (find_object found.id) objects_same ∙ found_by_id (λ object. is_on x y object && nat_le from object.id) table.objects found rise found_first)

    pub found_within : AllByRecursion (λ object. object.id < 2 ^ 64) table.objects → found.id < 2 ^ 64
    found_within ids = all_found (λ o. o.id < 2 ^ 64) (λ object. is_on x y object && nat_le from object.id) table.objects found ids found_first

    pub found_late : from ≤ found.id
    found_late = late x y from creep table.objects found rise found_first

    module _ (new : Table) (damage : ℕ) (amount : damage ≡ mass_damage creep found) (struck : IsDamaged (to_one found.id damage) middle new) where
      pub tile_struck : IsDamaged (damage_where (λ object. is_on x y object && nat_lt object.id (found.id + 1)) creep) table new
      tile_struck =
          damaged_same
          (λ object. damage_where (λ o. is_on x y o && nat_lt o.id from) creep object + to_one found.id damage object)
          (damage_where (λ object. is_on x y object && nat_lt object.id (found.id + 1)) creep) table new
          (damaged_both (damage_where (λ object. is_on x y object && nat_lt object.id from) creep) (to_one found.id damage) table middle new done struck)
          (λ id object stands.
          ap (λ (n : ℕ). damage_where (λ o. is_on x y o && nat_lt o.id from) creep object + to_one found.id n object) amount
          ∙ tile_more x y from creep table.objects found rise found_first id object stands)

      -- All were, where this one has the greatest id that there is.
      pub tile_filled : AllByRecursion (λ object. object.id < 2 ^ 64) table.objects → 2 ^ 64 ≤ found.id + 1 → IsDamaged (damage_where (is_on x y) creep) table new
      tile_filled ids greatest =
          damaged_same (damage_where (λ object. is_on x y object && nat_lt object.id (found.id + 1)) creep) (damage_where (is_on x y) creep) table new tile_struck
          (λ id object stands.
          let below : object.id < 2 ^ 64 = all_found (λ o. o.id < 2 ^ 64) (λ o. o.id == id) table.objects object ids stands in
          let passes = lt-ltb object.id (found.id + 1) (omega (arith, below, greatest)) in
          all_done (is_on x y object) (nat_lt object.id (found.id + 1)) (mass_damage creep object) (λ fails. let both = sym passes ∙ fails in absurd cc))
