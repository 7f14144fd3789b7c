use Rattle.std.proofs.Common.{◌≡◌, ◌≤◌, length}
use Rattle.intent_book.specs.inner.Numbered.{listed}
use Rattle.intent_book.proofs.recorded.Recorded.nth.Given as goal

abbrev pub invariant-loop-done : goal.invariant-loop-done
invariant-loop-done l = (l.from ≤ l.self-inside.next) × (length (listed l.from l.self-inside.entries.entries) ≡ l._done)
