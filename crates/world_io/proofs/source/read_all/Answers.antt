use Rattle.std.proofs.Common.{arith, ◌++◌, take}
use Rattle.std.proofs.lemmas.Grind.{common_steps}
use Rattle.std.proofs.lemmas.Result.{err_from_is_err_and}
use Rattle.world_io.proofs.Known.{consumes_more}
use Rattle.world_io.proofs.source.read_all.Goals as goal

pub returns-then-count-room-clause-too_long : goal.returns-then-count-room-clause-too_long
returns-then-count-room-clause-too_long g c = λ _. (
  c.loop-want.out.items ++ take c.in-Ok.count c.read.new.buf,
  consumes_more _ _ _ _ _ c.loop-want.invariant.taken c.in-Ok.ensures.bytes.0,
  grind (arith, common_steps),
)

pub returns-in_err-extend_from_slice-clause-memory_taken : goal.returns-in_err-extend_from_slice-clause-memory_taken
returns-in_err-extend_from_slice-clause-memory_taken g c =
    let p = err_from_is_err_and c.from_residual.result c.from_residual.ensures.1 in
    rw (p.1, p.2) (λ _. (
      c.loop-want.out.items ++ take c.in-Ok.count c.read.new.buf,
      consumes_more _ _ _ _ _ c.loop-want.invariant.taken c.in-Ok.ensures.bytes.0,
      grind (arith, common_steps),
    ))
