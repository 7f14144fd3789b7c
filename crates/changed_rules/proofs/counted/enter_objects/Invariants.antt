use Rattle.std.proofs.Common.{take}
use Rattle.changed_rules.specs.inner.Parts.{Adds}
use Rattle.changed_rules.proofs.counted.enter_objects.Given as goal

abbrev pub invariant-loop-object : goal.invariant-loop-object
invariant-loop-object l = Adds l.counted (take l.object-index l.objects) l.initial.tally l.tally
