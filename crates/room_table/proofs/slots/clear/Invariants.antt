use Rattle.std.proofs.Common.{◌≡◌, ℕ, ◌<◌, get_or}
use Rattle.room_table.specs.Tallies.{no_tally}
use Rattle.room_table.specs.declared.tally.Tally.{Tally}
use Rattle.room_table.proofs.slots.clear.Given as goal

abbrev pub invariant-loop-tally : goal.invariant-loop-tally
invariant-loop-tally l = (k : ℕ) (d : Tally) → k < l.tally-index → get_or l.tallies k d ≡ no_tally
