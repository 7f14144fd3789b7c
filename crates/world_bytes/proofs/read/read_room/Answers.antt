use Rattle.std.proofs.lemmas.Result.{err_from_is_err_and}
use Rattle.world_bytes.proofs.Rooms.{room_one}
use Rattle.world_bytes.proofs.read.read_room.Goals as goal

pub returns-in_err-table-clause-malformed : goal.returns-in_err-table-clause-malformed
returns-in_err-table-clause-malformed c =
    let p = err_from_is_err_and c.from_residual.result c.from_residual.ensures.1 in
    rw (p.1, p.2) (rw c.copy-ahead.ensures at c.in_err-table.ensures.malformed)

pub returns-clause-only : goal.returns-clause-only
returns-clause-only c = λ other more begins.
    room_one c.args.from.now.0 other c.in_ok-table.table more c.room_ahead.new.from.0 begins (rw c.copy-ahead.ensures at c.in_ok-table.ensures.found)
