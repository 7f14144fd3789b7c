use Rattle.std.proofs.Common.{refl}
use Rattle.world_replay.proofs.Replays.{form_alike}
use Rattle.world_replay.proofs.replay.compare_room.Goals as goal

pub returns-then-are_alike-clause-same : goal.returns-then-are_alike-clause-same
returns-then-are_alike-clause-same c = form_alike c.args.kept.now c.args.ruled.now (c.if-are_alike.ensures.0 refl)
