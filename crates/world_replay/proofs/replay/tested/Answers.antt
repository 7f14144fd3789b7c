use Rattle.std.proofs.lemmas.Result.{err_from_is_err_and}
use Rattle.world_replay.proofs.Replays.{untested_fault}
use Rattle.world_replay.proofs.replay.tested.Goals as goal

pub returns-in_err-next-clause-fault : goal.returns-in_err-next-clause-fault
returns-in_err-next-clause-fault c =
    let p = err_from_is_err_and c.from_residual.result c.from_residual.ensures.1 in
    rw (p.1, p.2) (untested_fault c.args.walk.world c.args.walk.from _ c.in_err-next.ensures.fault)
