use Rattle.std.proofs.Common.{◌∙◌}
use Rattle.std.proofs.lemmas.Result.{err_from_is_err_and}
use Rattle.tick_journal.proofs.BaseContents.{room_parts, behind_name, behind_terrain, table_begins, room_whole}
use Rattle.tick_journal.proofs.read_base.read_base_room.Goals as goal

pub returns-in_err-name-clause-malformed : goal.returns-in_err-name-clause-malformed
returns-in_err-name-clause-malformed c =
    let p = err_from_is_err_and c.from_residual.result c.from_residual.ensures.1 in
    rw (p.1, p.2) (λ is room rest form e. c.in_err-name.ensures.malformed is room.name _ form.name (e ∙ room_parts room rest))

pub returns-in_err-terrain-clause-malformed : goal.returns-in_err-terrain-clause-malformed
returns-in_err-terrain-clause-malformed c =
    let p = err_from_is_err_and c.from_residual-in_err-terrain.result c.from_residual-in_err-terrain.ensures.1 in
    rw (p.1, p.2) (λ is room rest form e. c.in_err-terrain.ensures.malformed is room.terrain _ form.tiles
    (behind_name room c.in_ok-name.name c.args.from.now.0 c.read_name.new.from.0 rest form c.in_ok-name.ensures.found e))

pub returns-in_err-table-clause-malformed : goal.returns-in_err-table-clause-malformed
returns-in_err-table-clause-malformed c =
    let p = err_from_is_err_and c.from_residual-in_err-table.result c.from_residual-in_err-table.ensures.1 in
    rw (p.1, p.2) (λ is room rest form e. c.in_err-table.ensures.malformed is room.table rest (table_begins room.table _ rest form.objects form.full
    (behind_terrain room c.in_ok-name.name c.in_ok-terrain.terrain c.args.from.now.0 c.read_name.new.from.0 c.read_terrain.new.from.0 rest form c.in_ok-name.ensures.found c.in_ok-terrain.ensures.found e)))

pub returns-clause-found : goal.returns-clause-found
returns-clause-found c = room_whole _ c.args.from.now.0 c.read_name.new.from.0 c.read_terrain.new.from.0 c.read_room.new.from.0 c.in_ok-name.ensures.found c.in_ok-terrain.ensures.found c.in_ok-table.ensures.found
