use Rattle.std.proofs.Common.{◌≡◌, take}
use Rattle.std.specs.List.{filter}
use Rattle.room_step.specs.inner.Course.{intents_in, is_move}
use Rattle.room_step.proofs.step.moves_among.Given as goal

abbrev pub invariant-loop-entry : goal.invariant-loop-entry
invariant-loop-entry l = l.moves ≡ filter is_move (intents_in (take l.entry-index l.entries))
