-- Accounts after runs are of the same players.
use Rattle.std.proofs.Common.{◌≡◌, ℕ, List, Option, Some, None, refl}
use Rattle.intent_book.specs.declared.player_run.PlayerRun.{PlayerRun}
use Rattle.object_store.specs.declared.account.Account.{Account}
use Rattle.world_rules.specs.Tick.{account_after, run_of}
use Rattle.room_step.specs.inner.Rooms.{accounted}

pub after-player : (gain : ℕ) (account : Account) (run : Option PlayerRun) → (account_after gain account run).player ≡ account.player
after-player gain account None = refl
after-player gain account (Some run) = refl

pub accounted-player : (gain : ℕ → ℕ) (runs : List PlayerRun) (account : Account) → (accounted gain runs account).player ≡ account.player
accounted-player gain runs account = after-player (gain account.player) account (run_of account.player runs)
