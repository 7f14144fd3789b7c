use Rattle.std.proofs.Common.{take}
use Rattle.player_runs.specs.PlayerRuns.{AreRunsOf}
use Rattle.player_runs.proofs.runs.InTurnRunsPlayers.run_players.Given as goal

abbrev pub invariant-loop-one : goal.invariant-loop-one
invariant-loop-one l = AreRunsOf l.world (take l.one-index l.players) l.runs.items
