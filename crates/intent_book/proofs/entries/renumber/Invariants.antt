use Rattle.std.proofs.Common.{◌≡◌, ◌-◌}
use Rattle.indexmap.specs.IndexMap.{index_map_len, spare}
use Rattle.intent_book.proofs.Numbers.{Renumbered}
use Rattle.intent_book.proofs.entries.renumber.Given as goal

abbrev pub invariant-loop-at : goal.invariant-loop-at
invariant-loop-at l = Renumbered l.next l.initial.entries.entries l.entries.entries l.free l.from × (index_map_len l.entries ≡ index_map_len l.initial.entries) × (spare l.entries ≡ spare l.initial.entries)

abbrev pub decreases-loop-at : goal.decreases-loop-at
decreases-loop-at l = l.next - l.from
