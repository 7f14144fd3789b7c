-- The accounts after the runs of players.
use Rattle.std.proofs.Common.{ℕ, ◌≤◌, ◌==◌, List, [], ◌∷◌, map, length, Option, Some, None}
use Rattle.std.specs.List.{AllByRecursion}
use Rattle.std.specs.Option.{IfSome}
use Rattle.game_tables.specs.Limits.{most_memory}
use Rattle.object_store.specs.declared.account.Account.{Account}
use Rattle.intent_book.specs.declared.player_run.PlayerRun.{PlayerRun}
use Rattle.world_rules.specs.Tick.{account_after, run_of}
use Rattle.hosted_tick.proofs.Found.{holds_if_found}

short_after : (gain : ℕ) (account : Account) (run : Option PlayerRun) → length account.memory ≤ most_memory → IfSome run (λ r. length r.memory ≤ most_memory) → length (account_after gain account run).memory ≤ most_memory
short_after gain account None short left = short
short_after gain account (Some run) short left = left

pub memories_after : (gain : ℕ → ℕ) (runs : List PlayerRun) (accounts : List Account) → AllByRecursion (λ run. length run.memory ≤ most_memory) runs → AllByRecursion (λ account. length account.memory ≤ most_memory) accounts
    → AllByRecursion (λ account. length account.memory ≤ most_memory) (map (λ (account : Account). account_after (gain account.player) account (run_of account.player runs)) accounts)
memories_after gain runs [] short all = tt
memories_after gain runs (account ∷ accounts) short all =
    (short_after (gain account.player) account (run_of account.player runs) all.0 (holds_if_found (λ (run : PlayerRun). length run.memory ≤ most_memory) (λ run. run.player == account.player) runs short), memories_after gain runs accounts short all.1)
