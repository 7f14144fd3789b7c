use denote.Param.Send.{sendable}
use Rattle.player_jobs.proofs.ModuleCrossing.{room_send}
use Rattle.player_jobs.proofs.Crossing.{jobs_sync}
use Rattle.player_jobs.proofs.runs.runs_by_workers.Goals as goal

pub claimed_map_in-requires-send-J-Room : goal.claimed_map_in-requires-send-J-Room
claimed_map_in-requires-send-J-Room g c κs within = search (sendable, room_send) depth 20

pub claimed_map_in-requires-sync-J : goal.claimed_map_in-requires-sync-J
claimed_map_in-requires-sync-J g c κs within = search (sendable, jobs_sync) depth 20
