use Rattle.std.proofs.Common.{drop}
use Rattle.std.specs.List.{AllByRecursion}
use Rattle.changed_rules.specs.Census.{IsUnborn}
use Rattle.changed_rules.proofs.room.are_born.Given as goal

abbrev pub invariant-loop-object : goal.invariant-loop-object
invariant-loop-object l = record {
  left : AllByRecursion (λ object. IsUnborn l.world.rooms object.id → ⊥) (drop l.object-index l.objects)
      → AllByRecursion (λ object. IsUnborn l.world.rooms object.id → ⊥) l.objects;
  whole : AllByRecursion (λ object. IsUnborn l.world.rooms object.id → ⊥) l.objects
      → AllByRecursion (λ object. IsUnborn l.world.rooms object.id → ⊥) (drop l.object-index l.objects);
}
