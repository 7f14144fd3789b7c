use Rattle.std.proofs.Common.{◌≡◌, ◌≤◌, take, vec_capacity}
use Rattle.indexmap.specs.IndexMap.{index_map_len}
use Rattle.intent_book.specs.inner.Numbered.{intents}
use Rattle.intent_book.proofs.entries.pour.Given as goal

abbrev pub invariant-loop-at : goal.invariant-loop-at
invariant-loop-at l = (l.list.items ≡ intents (take l.at l.entries.entries)) × (index_map_len l.entries ≤ vec_capacity l.list)
