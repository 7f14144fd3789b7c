use Rattle.std.proofs.Common.{take, subst}
use Rattle.std.specs.List.{All}
use Rattle.std.proofs.lemmas.List.{take_all}
use Rattle.std.proofs.lemmas.List.Elements.{All-more, All-weaker, recursion_from_All}
use Rattle.room_table.specs.declared.object.Object.{Object}
use Rattle.room_table.specs.inner.Owners.{MayOwn}
use Rattle.room_table.proofs.owners.Owners.of.Goals as goal

pub loop-object-preserved : goal.loop-object-preserved
loop-object-preserved c =
    let objects = c.args.objects.now in
    let object = c.object-item.result in
    let old = c.loop-object.owners.remainders in
    let new = c.add.new.self.remainders in
    let index = c.loop-object.object-index in
    All-more (λ (o : Object). MayOwn new o.owner) objects index object c.loop-object-test.true
    (All-weaker (λ (o : Object). MayOwn old o.owner) (λ (o : Object). MayOwn new o.owner) (λ o. c.add.ensures.kept o.owner) (take index objects) c.loop-object.invariant)
    (subst (λ (o : Object). MayOwn new o.owner) c.object-item.is c.add.ensures.added)

pub returns : goal.returns
returns c =
    let objects = c.args.objects.now in
    let may : Object → Type 0 = λ (o : Object). MayOwn c.loop-object.owners.remainders o.owner in
    recursion_from_All may objects (subst (All may) (take_all c.loop-object.object-index objects c.loop-object-test.false) c.loop-object.invariant)
