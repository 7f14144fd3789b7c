use Rattle.std.proofs.lemmas.Result.{on_ok_weaker, on_err_weaker}
use Rattle.world_bytes.proofs.Written.{room_is_written, room_is_kept}
use Rattle.world_bytes.proofs.write.put_room.Goals as goal

pub returns-clause-written : goal.returns-clause-written
returns-clause-written c =
    on_ok_weaker c.put_objects.result
    (λ written. room_is_written c.args.room.now c.args.out.now.items c.put_u32.new.out.items c.put_u32-2.new.out.items c.put_u32-3.new.out.items c.put_objects.new.out.items
    (rw c.requires at c.in_ok-put_u32.ensures.written) (rw c.next.ensures at c.in_ok-put_u32-2.ensures.written) (rw c.len.ensures at c.in_ok-put_u32-3.ensures.written) (rw c.objects.ensures.all at written))
    c.put_objects.ensures.written

pub returns-clause-kept : goal.returns-clause-kept
returns-clause-kept c =
    on_err_weaker c.put_objects.result
    (λ kept. room_is_kept c.args.out.now.items c.put_u32.new.out.items c.put_u32-2.new.out.items c.put_u32-3.new.out.items c.put_objects.new.out.items _ _ _
    c.in_ok-put_u32.ensures.written c.in_ok-put_u32-2.ensures.written c.in_ok-put_u32-3.ensures.written kept)
    c.put_objects.ensures.kept
