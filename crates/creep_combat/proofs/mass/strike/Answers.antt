use Rattle.std.proofs.Common.{◌≡◌, ◌+◌, ◌==◌, true, false, if◌then◌else◌, refl, sym, subst, arith}
use Rattle.room_table.specs.Tables.{Table}
use Rattle.room_table.specs.Tallies.{damaged}
use Rattle.room_rules.specs.inner.Damage.{IsDamaged, to_one}
use Rattle.room_rules.proofs.Harmed.{damaged_more, damaged_same, is_undamaged, with_tallies}
use Rattle.creep_combat.proofs.mass.strike.Goals as goal

pub returns-then-damage-gt0 : goal.returns-then-damage-gt0
returns-then-damage-gt0 c =
    let table = c.args.room.now in
    let id = c.args.id in
    let damage = c.args.damage in
    let new : Table = with_tallies (damaged id damage table.tallies) table in
    subst (IsDamaged (to_one id damage) table) (sym c.add_damage.ensures)
    (damaged_same (λ object. 0 + to_one id damage object) (to_one id damage) table new (damaged_more (λ object. 0) table table id damage (is_undamaged table c.stands_in_order.ensures.tallies)) (λ key object found. omega arith))

pub returns-else-damage-gt0 : goal.returns-else-damage-gt0
returns-else-damage-gt0 c =
    let table = c.args.room.now in
    let id = c.args.id in
    let damage = c.args.damage in
    let none : 0 ≡ damage = omega arith in
    damaged_same (λ object. 0) (to_one id damage) table table (is_undamaged table c.stands_in_order.ensures.tallies)
    (λ key object found. elim (id == object.id) as (λ b. 0 ≡ (if b then damage else 0)) [ true ↦ none | false ↦ refl ])
