use Rattle.upkeep_rules.specs.inner.Worn.{IsTurn, tasks}
use Rattle.upkeep_rules.proofs.wearing.wear_all.Given as goal

abbrev pub invariant-loop-place : goal.invariant-loop-place
invariant-loop-place l = IsTurn l.step 0 l.fn.room l.place l.room

abbrev pub decreases-loop-place : goal.decreases-loop-place
decreases-loop-place l = tasks l.step l.place l.room
