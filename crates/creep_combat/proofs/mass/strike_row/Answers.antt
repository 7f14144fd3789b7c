use Rattle.std.proofs.Common.{◌+◌, ◌==◌, ◌&&◌, nat_lt}
use Rattle.room_table.specs.Tables.{IsOnTile, is_on}
use Rattle.world_rules.proofs.TableParts.{all_found}
use Rattle.creep_combat.specs.inner.Damage.{damage_where, is_in_row, mass_damage}
use Rattle.room_rules.proofs.Harmed.{damaged_both, damaged_same}
use Rattle.creep_combat.proofs.Struck.{after_columns, all_done, row_more}
use Rattle.creep_combat.proofs.mass.strike_row.Goals as goal

pub loop-x-preserved : goal.loop-x-preserved
loop-x-preserved c =
    let table = c.args.room.now in
    let creep = c.args.creep.now in
    let x = c.loop-x.x in
    let y = c.args.y in
    damaged_same
    (λ object. damage_where (λ o. is_in_row y o && nat_lt o.x x) creep object + damage_where (is_on x y) creep object)
    (damage_where (λ o. is_in_row y o && nat_lt o.x (x + 1)) creep) table c.strike_tile.new.room
    (damaged_both (damage_where (λ o. is_in_row y o && nat_lt o.x x) creep) (damage_where (is_on x y) creep) table c.loop-x.room c.strike_tile.new.room c.loop-x.invariant c.strike_tile.ensures)
    (λ id object stands. row_more x (is_in_row y object) (mass_damage creep object) object.x)

pub returns : goal.returns
returns c =
    let table = c.args.room.now in
    let creep = c.args.creep.now in
    let x = c.loop-x.x in
    let y = c.args.y in
    damaged_same (damage_where (λ o. is_in_row y o && nat_lt o.x x) creep) (damage_where (is_in_row y) creep) table c.loop-x.room c.loop-x.invariant
    (λ id object stands.
    let on = all_found IsOnTile (λ o. o.id == id) table.objects object c.requires.tiles stands in
    all_done (is_in_row y object) (nat_lt object.x x) (mass_damage creep object)
    (after_columns creep object x c.min-x-end.result c.min-x-end.ensures c.loop-x-test.false on.column))
