use Rattle.std.proofs.Common.{take}
use Rattle.intent_book.specs.inner.Numbered.{Finds}
use Rattle.intent_book.proofs.entries.next_kept.Given as goal

abbrev pub invariant-loop-at : goal.invariant-loop-at
invariant-loop-at l = Finds l.entries.entries l.from l.least (take l.at l.entries.entries)
