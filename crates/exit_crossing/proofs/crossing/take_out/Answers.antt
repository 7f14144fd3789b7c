use Rattle.std.proofs.Common.{◌≡◌, ◌∙◌, List, Some, ap, sym, option_map}
use Rattle.object_store.specs.Lending.{with_table}
use Rattle.room_table.specs.Tables.{Table, removed}
use Rattle.object_store.specs.declared.world.Room.{Room}
use Rattle.exit_crossing.proofs.Rooms.{lent}
use Rattle.exit_crossing.proofs.crossing.take_out.Goals as goal

pub returns-clause-left : goal.returns-clause-left
returns-clause-left c was is =
    let rooms = c.args.world.now.rooms in
    let found : Some was.table ≡ Some c.room_mut.result.now = sym (ap (option_map (λ (room : Room). room.table)) is) ∙ c.room_mut.ensures.value in
    let table : c.room_mut.result.now ≡ was.table = cc in
    let after = c.remove.ensures.table ∙ ap (removed c.args.id) table in
    ap (λ (rs : List Room). record c.args.world.now { rooms = rs })
    (ap (λ (t : Table). with_table c.args.room t rooms) after ∙ lent rooms c.args.room was (removed c.args.id was.table) is)
