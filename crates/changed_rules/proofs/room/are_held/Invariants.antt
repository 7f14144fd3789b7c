use Rattle.std.proofs.Common.{drop}
use Rattle.std.specs.List.{AllByRecursion}
use Rattle.changed_rules.specs.Census.{IsWronglyHeld}
use Rattle.changed_rules.proofs.room.are_held.Given as goal

abbrev pub invariant-loop-object : goal.invariant-loop-object
invariant-loop-object l = record {
  left : AllByRecursion (λ object. IsWronglyHeld l.world.accounts object → ⊥) (drop l.object-index l.objects)
      → AllByRecursion (λ object. IsWronglyHeld l.world.accounts object → ⊥) l.objects;
  whole : AllByRecursion (λ object. IsWronglyHeld l.world.accounts object → ⊥) l.objects
      → AllByRecursion (λ object. IsWronglyHeld l.world.accounts object → ⊥) (drop l.object-index l.objects);
}
