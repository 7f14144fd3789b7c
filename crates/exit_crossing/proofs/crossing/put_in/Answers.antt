use Rattle.std.proofs.Common.{◌≡◌, ◌∙◌, ◌-◌, List, Some, ap, sym, option_map}
use Rattle.object_store.specs.Lending.{with_table}
use Rattle.room_table.specs.Tables.{Table, with_new}
use Rattle.object_store.specs.declared.world.Room.{Room}
use Rattle.exit_crossing.proofs.Rooms.{lent}
use Rattle.exit_crossing.proofs.crossing.put_in.Goals as goal

pub returns : goal.returns
returns c other is =
    let rooms = c.args.world.now.rooms in
    let object = c.args.object in
    let found : Some other.table ≡ Some c.room_mut.result.now = sym (ap (option_map (λ (room : Room). room.table)) is) ∙ c.room_mut.ensures.value in
    let table : c.room_mut.result.now ≡ other.table = cc in
    let after = c.insert.ensures ∙ ap (λ (t : Table). record t { objects = with_new object t.objects; spare = t.spare - 1 }) table in
    ap (λ (rs : List Room). record c.args.world.now { rooms = rs })
    (ap (λ (t : Table). with_table c.args.room t rooms) after ∙ lent rooms c.args.room other (record other.table { objects = with_new object other.table.objects; spare = other.table.spare - 1 }) is)
