-- Runs of players with their modules, each on the same world.
use Rattle.std.specs.Prelude.{◌≡◌, ℕ, ◌<◌, ◌≤◌, ◌^◌, List, length, Option, Some, None, slice_get}
use Rattle.game_tables.specs.Limits.{most_memory, most_rooms}
use Rattle.object_store.specs.declared.account.Account.{Account}
use Rattle.object_store.specs.Stored.{Stored, HasAccount, find_account}
use Rattle.intent_book.specs.Records.{entries_bound}
use Rattle.intent_book.specs.declared.player_run.PlayerRun.{PlayerRun}
use Rattle.world_rules.specs.Sound.{IsSound}
use Rattle.world_rules.specs.World.{Objects, world_of}
use Rattle.visible_view.specs.Sights.{sight_of}
use Rattle.wasm_link.specs.Kept.{link_view}
use Rattle.player_run.specs.Emitted.{EmitsBy, fuel_of}
use Rattle.player_runs.specs.declared.runs.PlayerModule.{PlayerModule}

-- The player has an account, whose text is no longer than a run takes.
pub record MayRun (world : Stored) (player : ℕ) : Type 0 where
  pub account : HasAccount player world.accounts
  pub memory : (account : Account) → find_account player world.accounts ≡ Some account
      → length account.memory ≤ most_memory

-- These players may be run on this world, whose objects are these.
pub record MayBeRun (world : Stored) (objects : Objects) (players : List PlayerModule) : Type 0 where
  pub sound : IsSound world
  pub rooms : length world.rooms ≤ most_rooms
  pub listed : objects ≡ (world_of world).objects
  pub short : length players < 2 ^ 32
  pub each : (k : ℕ) (one : PlayerModule) → slice_get players k ≡ Some one → MayRun world one.player

-- It is what this player's module emits of what he sees of the world.
pub record IsRunOf (world : Stored) (one : PlayerModule) (run : PlayerRun) : Type 0 where
  pub account : Account
  pub found : find_account one.player world.accounts ≡ Some account
  pub emitted : EmitsBy (link_view one.linked.now) (sight_of (world_of world) account) run
  pub used : run.used ≤ fuel_of account
  pub few : length run.intents ≤ entries_bound
  pub short : length run.memory ≤ most_memory

-- the same where there is a player, and no run where there is none
abbrev pub IsRunAt : Stored → Option PlayerModule → Option PlayerRun → Type 0
IsRunAt world None None = Unit {0}
IsRunAt world (Some one) (Some run) = IsRunOf world one run
IsRunAt world one run = ⊥

-- At each place is the run of its player.
abbrev pub AreRunsOf : Stored → List PlayerModule → List PlayerRun → Type 0
AreRunsOf world players runs = (k : ℕ) → IsRunAt world (slice_get players k) (slice_get runs k)
