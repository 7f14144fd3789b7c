use Rattle.std.proofs.Common.{◌≡◌, ℕ, take, map}
use Rattle.ruled_tick.specs.inner.Entered.{AreGains}
use Rattle.room_step.specs.inner.Rooms.{accounted}
use Rattle.room_step.proofs.accounts.push_accounted.Given as goal

abbrev pub invariant-loop-index : goal.invariant-loop-index
invariant-loop-index l =
    (gain : ℕ → ℕ) → AreGains gain l.accounts l.gains → l.next ≡ record l.fn.next { accounts = map (accounted gain l.runs) (take l.index l.accounts) }
