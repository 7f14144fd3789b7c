use Rattle.std.proofs.Common.{length, ◌-◌, ◌≤◌, take, All}
use Rattle.wasm_validate.proofs.every.each_holds.Given as goal

abbrev pub invariant-loop-at : goal.invariant-loop-at
invariant-loop-at g l = record { within : l.at ≤ length l.list; held : All (g.R.Rule.holds l.rule) (take l.at l.list) }

abbrev pub decreases-loop-at : goal.decreases-loop-at
decreases-loop-at g l = length l.list - l.at
