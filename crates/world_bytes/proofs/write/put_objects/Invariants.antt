use Rattle.std.proofs.Common.{◌≡◌, ◌++◌, map}
use Rattle.std.specs.List.{AllByRecursion, flat_map}
use Rattle.world_bytes.specs.Forms.{object_bytes}
use Rattle.world_bytes.specs.Numbers.{ObjectFits}
use Rattle.world_bytes.proofs.write.put_objects.Given as goal

abbrev pub invariant-each : goal.invariant-each
invariant-each l = record {
  written : l.out.items ≡ l.fn.out.items ++ flat_map object_bytes (map (λ object. object.now) l.yielded);
  fits : AllByRecursion ObjectFits (map (λ object. object.now) l.yielded);
  rest : map (λ object. object.now) l.yielded ++ l.object-iterator ≡ l.fn.objects;
}
