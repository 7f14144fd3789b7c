use Rattle.std.proofs.Common.{◌+◌, ◌==◌, nat_lt, true}
use Rattle.room_table.specs.Tables.{IsOnTile}
use Rattle.world_rules.proofs.TableParts.{all_found}
use Rattle.creep_combat.specs.inner.Damage.{damage_where, is_in_row, mass_damage}
use Rattle.room_rules.proofs.Harmed.{damaged_both, damaged_same}
use Rattle.creep_combat.proofs.Struck.{after_rows, all_done, rows_more}
use Rattle.creep_combat.proofs.mass.strike_all.Goals as goal

pub loop-y-preserved : goal.loop-y-preserved
loop-y-preserved c =
    let table = c.args.room.now in
    let creep = c.args.creep.now in
    let y = c.loop-y.y in
    damaged_same
    (λ object. damage_where (λ o. nat_lt o.y y) creep object + damage_where (is_in_row y) creep object)
    (damage_where (λ o. nat_lt o.y (y + 1)) creep) table c.strike_row.new.room
    (damaged_both (damage_where (λ o. nat_lt o.y y) creep) (damage_where (is_in_row y) creep) table c.loop-y.room c.strike_row.new.room c.loop-y.invariant c.strike_row.ensures)
    (λ id object stands. rows_more y (mass_damage creep object) object.y)

pub returns : goal.returns
returns c =
    let table = c.args.room.now in
    let creep = c.args.creep.now in
    let y = c.loop-y.y in
    damaged_same (damage_where (λ o. nat_lt o.y y) creep) (mass_damage creep) table c.loop-y.room c.loop-y.invariant
    (λ id object stands.
    let on = all_found IsOnTile (λ o. o.id == id) table.objects object c.requires.tiles stands in
    all_done true (nat_lt object.y y) (mass_damage creep object)
    (after_rows creep object y c.min-y-end.result c.min-y-end.ensures c.loop-y-test.false on.row))
