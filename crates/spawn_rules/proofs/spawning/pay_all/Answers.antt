use Rattle.spawn_rules.proofs.Paid.{all_left, all_paid, first_paid, next_paid}
use Rattle.std.proofs.Common.{◌≤◌, length, arith}
use Rattle.spawn_rules.proofs.spawning.pay_all.Goals as goal

pub loop-place-init : goal.loop-place-init
loop-place-init c = first_paid c.args.kind c.args.owner c.args.cost c.args.room.now c.requires.tiles

pub loop-place-preserved : goal.loop-place-preserved
loop-place-preserved c =
    next_paid c.args.kind c.args.owner c.args.cost c.args.room.now c.loop-place.place c.loop-place.left c.loop-place.room c.loop-place.invariant c.pay_at-left.result c.pay_at-left.new.room c.pay_at-left.ensures.paid

pub returns-clause-rule : goal.returns-clause-rule
returns-clause-rule c = λ grounds.
    let past : length c.loop-place.room.objects ≤ c.loop-place.place = omega (arith, c.loop-place-test.false, c.len.ensures) in
    all_paid c.args.kind c.args.owner c.args.cost c.args.room.now c.loop-place.place c.loop-place.left c.loop-place.room c.loop-place.invariant past grounds

pub returns-clause-left : goal.returns-clause-left
returns-clause-left c = λ grounds.
    let past : length c.loop-place.room.objects ≤ c.loop-place.place = omega (arith, c.loop-place-test.false, c.len.ensures) in
    all_left c.args.kind c.args.owner c.args.cost c.args.room.now c.loop-place.place c.loop-place.left c.loop-place.room c.loop-place.invariant past grounds
