use Rattle.room_table.specs.declared.object.Object.{Object}
use Rattle.changed_rules.specs.Census.{IsWronglyHeld}
use Rattle.changed_rules.proofs.Lists.{rest_of, with_rest}
use Rattle.changed_rules.proofs.room.are_held.Goals as goal

pub loop-object-preserved : goal.loop-object-preserved
loop-object-preserved c = record {
  left = λ all. c.loop-object.invariant.left (with_rest (λ (object : Object). IsWronglyHeld c.args.world.now.accounts object → ⊥) c.args.objects.now c.loop-object.object-index c.object-item.result c.loop-object-test.true c.object-item.is c.if-is_wrongly_held.ensures all);
  whole = λ all. rest_of (λ (object : Object). IsWronglyHeld c.args.world.now.accounts object → ⊥) c.args.objects.now c.loop-object.object-index c.object-item.result c.loop-object-test.true c.object-item.is (c.loop-object.invariant.whole all);
}
