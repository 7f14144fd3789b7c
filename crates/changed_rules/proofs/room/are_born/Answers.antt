use Rattle.room_table.specs.declared.object.Object.{Object}
use Rattle.changed_rules.specs.Census.{IsUnborn}
use Rattle.changed_rules.proofs.Lists.{rest_of, with_rest}
use Rattle.changed_rules.proofs.room.are_born.Goals as goal

pub loop-object-preserved : goal.loop-object-preserved
loop-object-preserved c = record {
  left = λ all. c.loop-object.invariant.left (with_rest (λ (object : Object). IsUnborn c.args.world.now.rooms object.id → ⊥) c.args.objects.now c.loop-object.object-index c.object-item.result c.loop-object-test.true c.object-item.is c.if-is_unborn.ensures all);
  whole = λ all. rest_of (λ (object : Object). IsUnborn c.args.world.now.rooms object.id → ⊥) c.args.objects.now c.loop-object.object-index c.object-item.result c.loop-object-test.true c.object-item.is (c.loop-object.invariant.whole all);
}
