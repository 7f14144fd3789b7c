-- The jobs of players may be lent to several threads.
use denote.Ref.{NamedLft}
use denote.Param.Send.{IsSync, sendable}
use Rattle.player_jobs.proofs.ModuleCrossing.{linked_sync}
use Rattle.object_store.proofs.world.World.TheSendSync as world
use Rattle.world_roster.proofs.roster.Roster.TheSendSync as roster
use Rattle.player_runs.specs.contracts.runs.PlayerModule as player_module
use Rattle.player_jobs.specs.contracts.jobs.PlayerJobs as player_jobs

pub module_sync : (κ : NamedLft) → IsSync (player_module.the_row κ)
module_sync κ = search (sendable, linked_sync) depth 20

pub jobs_sync : (κ : NamedLft) → IsSync (player_jobs.the_row κ)
jobs_sync κ = search (sendable, module_sync, world.the_sync, roster.the_sync) depth 20
