use Rattle.std.proofs.Common.{◌≡◌, ◌≤◌, replicate, vec_capacity}
use Rattle.room_table.specs.Tallies.{no_tally}
use Rattle.room_table.proofs.slots.untallied.Given as goal

abbrev pub invariant-loop-i : goal.invariant-loop-i
invariant-loop-i l = (l.tallies.items ≡ replicate l._i no_tally) × (l.count ≤ vec_capacity l.tallies)
