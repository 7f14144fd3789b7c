use Rattle.std.proofs.lemmas.Result.{err_from_is_err_and}
use Rattle.world_bytes.proofs.Written.{kept_behind}
use Rattle.world_bytes.proofs.write.put_objects.Goals as goal

pub returns-in_err-put_object-clause-kept : goal.returns-in_err-put_object-clause-kept
returns-in_err-put_object-clause-kept c =
    let p = err_from_is_err_and c.from_residual.result c.from_residual.ensures.1 in
    rw p.1 (kept_behind c.args.out.now.items c.each.out.items c.put_object.new.out.items _ c.each.invariant.written c.in_err-put_object.ensures.kept)
