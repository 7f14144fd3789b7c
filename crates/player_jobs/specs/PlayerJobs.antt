-- What a worker makes of a player.
use Rattle.std.specs.Prelude.{◌≡◌, ℕ, List, Some, slice_get}
use Rattle.object_store.specs.Stored.{Stored}
use Rattle.intent_book.specs.declared.player_run.PlayerRun.{PlayerRun}
use Rattle.player_runs.specs.PlayerRuns.{IsRunOf}
use Rattle.player_runs.specs.declared.runs.PlayerModule.{PlayerModule}

-- It is the run of the player at a place.
abbrev pub IsRunDone : Stored → List PlayerModule → ℕ → PlayerRun → Type 0
IsRunDone world players k run = (one : PlayerModule) → slice_get players k ≡ Some one → IsRunOf world one run
