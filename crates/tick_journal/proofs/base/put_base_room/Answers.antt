use Rattle.std.proofs.Common.{rules, ◌≡◌, w32, to_z, of_z}
use Rattle.std.proofs.lemmas.Int.{to_z-of_z}
use Rattle.std.proofs.lemmas.Result.{on_ok_weaker}
use Rattle.tick_journal.proofs.Written.{room_written}
use Rattle.tick_journal.proofs.base.put_base_room.Goals as goal

pub returns-clause-written : goal.returns-clause-written
returns-clause-written c =
    let column : to_z w32 (of_z w32 c.args.room.now.name.column) ≡ c.args.room.now.name.column = to_z-of_z w32 _ (search rules) in
    let row : to_z w32 (of_z w32 c.args.room.now.name.row) ≡ c.args.room.now.name.row = to_z-of_z w32 _ (search rules) in
    on_ok_weaker c.write_room.result
    (room_written c.args.room.now c.args.out.now.items c.put_signed.new.out.items c.put_signed-2.new.out.items c.put_grounds.new.out.items c.write_room.new.out.items
    (rw column at c.in_ok-put_signed.ensures) (rw row at c.in_ok-put_signed-2.ensures) (rw c.grounds.ensures.same at c.in_ok-put_grounds.ensures))
    c.write_room.ensures.written
