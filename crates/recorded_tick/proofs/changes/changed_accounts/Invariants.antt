use Rattle.std.proofs.Common.{take}
use Rattle.recorded_tick.specs.Recording.{AreChangedAccounts}
use Rattle.recorded_tick.proofs.changes.changed_accounts.Given as goal

abbrev pub invariant-loop-place : goal.invariant-loop-place
invariant-loop-place l = AreChangedAccounts (take l.place l.before) (take l.place l.after) l.accounts.items
