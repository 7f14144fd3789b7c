use Rattle.std.proofs.Common.{inr}
use Rattle.std.proofs.lemmas.Result.{err_from_is_err_and}
use Rattle.world_rules.specs.World.{world_of}
use Rattle.world_run.proofs.inputs.read_inputs.Goals as goal

pub returns-in_err-file-clause-complete : goal.returns-in_err-file-clause-complete
returns-in_err-file-clause-complete g c =
    let p = err_from_is_err_and c.from_residual-in_err-file.result c.from_residual-in_err-file.ensures.1 in
    rw (p.1, p.2) (λ bytes stream found run left form told short fine others. c.in_err-file.ensures.complete bytes found left form fine)

pub returns-in_err-stream-clause-world_accepted : goal.returns-in_err-stream-clause-world_accepted
returns-in_err-stream-clause-world_accepted g c =
    let p = err_from_is_err_and c.from_residual-in_err-stream.result c.from_residual-in_err-stream.ensures.1 in
    rw (p.1, p.2) (λ past. (world_of c.in_ok-file.file.world, c.in_ok-file.ensures.found))

pub returns-in_err-stream-clause-read_fault : goal.returns-in_err-stream-clause-read_fault
returns-in_err-stream-clause-read_fault g c =
    let p = err_from_is_err_and c.from_residual-in_err-stream.result c.from_residual-in_err-stream.ensures.1 in
    rw (p.1, p.2) (λ fault. inr (c.in_err-stream.ensures.fault fault, (world_of c.in_ok-file.file.world, c.in_ok-file.ensures.found)))
