use Rattle.std.proofs.Common.{take}
use Rattle.changed_rules.specs.inner.Parts.{Drops}
use Rattle.changed_rules.proofs.counted.leave_objects.Given as goal

abbrev pub invariant-loop-object : goal.invariant-loop-object
invariant-loop-object l = Drops l.counted (take l.object-index l.objects) l.initial.tally l.tally
