use Rattle.std.proofs.Common.{ℕ}
use Rattle.world_rules.specs.Tick.{run_of}
use Rattle.room_step.specs.inner.Rooms.{accounted}
use Rattle.ruled_tick.proofs.Rising.{comes_last}
use Rattle.ruled_tick.proofs.Follows.{changed_last}
use Rattle.room_step.proofs.Accounted.{accounted-player, after-player}
use Rattle.room_step.proofs.accounts.push_accounted.Goals as goal

pub push_account-requires-clause-rising : goal.push_account-requires-clause-rising
push_account-requires-clause-rising c =
    let runs = c.args.runs.now in
    let gain : ℕ → ℕ = c.requires.gains.0 in
    let account = c.index-accounts-index.result in
    rw (c.in_ok-after_runs.ensures, c.loop-index.invariant gain c.requires.gains.1, after-player _ account (run_of account.player runs)) (changed_last (accounted gain runs) (accounted-player gain runs) _ _ (comes_last _ c.loop-index.index _ c.requires.rising c.loop-index-test.true c.index-accounts-index.is))
