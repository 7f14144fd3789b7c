use Rattle.std.proofs.Common.{inl}
use Rattle.world_replay.proofs.Replays.{all_or_wanted}
use Rattle.world_replay.proofs.replay.replay_journal.Goals as goal

pub returns-in-Err-clause-complete : goal.returns-in-Err-clause-complete
returns-in-Err-clause-complete g c = λ bytes base entries told is all fine wrote.
    inl (all_or_wanted _ bytes _ _ base entries c.in-Err.status told is all fine c.in-Err.ensures.fault)
