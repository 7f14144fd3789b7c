use Rattle.std.proofs.Common.{◌≡◌, ◌++◌, map, take}
use Rattle.rule_check.proofs.ids.list_ids.Given as goal

abbrev pub invariant-loop-object : goal.invariant-loop-object
invariant-loop-object l = l.ids.items ≡ l.fn.ids.items ++ map (λ object. object.id) (take l.object-index l.objects)
