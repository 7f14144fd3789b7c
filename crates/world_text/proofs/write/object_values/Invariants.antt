use Rattle.std.proofs.Common.{◌≡◌, ◌++◌, map}
use Rattle.serde_json.specs.View.{view}
use Rattle.world_form.specs.Written.{object_data}
use Rattle.world_text.proofs.write.object_values.Given as goal

abbrev pub invariant-loop-object : goal.invariant-loop-object
invariant-loop-object l = map view l.values.items ++ map object_data l.object-iterator ≡ map object_data l.fn.objects
