use Rattle.std.proofs.Common.{◌≡◌, ◌==◌, ℕ, ◌*◌, None, length, refl, sym, ap, subst, ◌∙◌}
use Rattle.room_table.specs.Tables.{IsOnTile, find_object, with_object}
use Rattle.world_rules.specs.RoomParts.{table_part}
use Rattle.world_rules.specs.Spawns.{begun_with}
use Rattle.world_rules.specs.Steps.{by_object}
use Rattle.world_rules.proofs.TableParts.{all_found, get_table_part, has_the_id, part_replaced}
use Rattle.spawn_rules.specs.inner.Paying.{HasThoseOf}
use Rattle.spawn_rules.proofs.Paid.{has_set}
use Rattle.spawn_rules.proofs.spawning.begin.Goals as goal

pub returns-in_default-clause-rule : goal.returns-in_default-clause-rule
returns-in_default-clause-rule c = λ grounds.
    let none : find_object c.args.id c.args.room.now.objects ≡ None = sym c.in_default.ensures in
    sym (ap (by_object (begun_with c.args.body.now) (table_part grounds c.args.room.now)) (get_table_part grounds c.args.room.now c.args.id ∙ none))

pub set-requires-clause-tile : goal.set-requires-clause-tile
set-requires-clause-tile c =
    let found = sym c.in-Some.ensures in
    let on = all_found IsOnTile (λ o. o.id == c.args.id) c.args.room.now.objects c.in-Some.spawn.now c.requires.tiles found in
    record { column = on.column; row = on.row }

pub set-requires-clause-there : goal.set-requires-clause-there
set-requires-clause-there c =
    let found = sym c.in-Some.ensures in
    let own = has_the_id c.args.id c.args.room.now.objects c.in-Some.spawn.now found in
    (c.in-Some.spawn.now, ap (λ (n : ℕ). find_object n c.args.room.now.objects) own ∙ found)

pub returns-clause-rule : goal.returns-clause-rule
returns-clause-rule c = λ grounds.
    let table = c.args.room.now in
    let spawn = c.in-Some.spawn.now in
    let body = c.args.body.now in
    let found = sym c.in-Some.ensures in
    let own = has_the_id c.args.id table.objects spawn found in
    let still = ap (λ (n : ℕ). find_object n table.objects) own ∙ found in
    let begun = c.set.ensures ∙ ap (λ (n : ℕ). record table { objects = with_object (record spawn { body = body; timer = 3 * n }) table.objects }) c.len.ensures in
    ap (table_part grounds) begun
    ∙ part_replaced grounds table (record spawn { body = body; timer = 3 * length body }) (spawn, still)
    ∙ sym (ap (by_object (begun_with body) (table_part grounds table)) (get_table_part grounds table c.args.id ∙ found))

pub returns-clause-has : goal.returns-clause-has
returns-clause-has c =
    let table = c.args.room.now in
    let spawn = c.in-Some.spawn.now in
    let found = sym c.in-Some.ensures in
    let own = has_the_id c.args.id table.objects spawn found in
    let still = ap (λ (n : ℕ). find_object n table.objects) own ∙ found in
    let on = all_found IsOnTile (λ o. o.id == c.args.id) table.objects spawn c.requires.tiles found in
    subst (HasThoseOf table) (sym c.set.ensures) (has_set table (record spawn { body = c.args.body.now; timer = 3 * c.len.result }) spawn c.stands_in_order.ensures.rising c.requires.tiles (record { column = on.column; row = on.row }) refl refl refl still)
