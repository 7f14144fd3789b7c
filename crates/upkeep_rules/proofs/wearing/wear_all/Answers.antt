use Rattle.std.proofs.Common.{◌≤◌, length, subst, ◌∙◌, arith}
use Rattle.std.proofs.lemmas.List.Sums.{length-filter}
use Rattle.room_rules.specs.Calls.{IsReadyFor}
use Rattle.upkeep_rules.specs.inner.Worn.{may_drop}
use Rattle.upkeep_rules.proofs.Turns.{all_turned, left_at_end, turns_on}
use Rattle.upkeep_rules.proofs.wearing.wear_all.Goals as goal

pub loop-place-preserved : goal.loop-place-preserved
loop-place-preserved c = turns_on c.args.step c.args.room.now c.loop-place.place c.loop-place.room c.loop-place.invariant c.wear_at-place.result c.wear_at-place.new.room c.wear_at-place.ensures.turn

pub returns-clause-rule : goal.returns-clause-rule
returns-clause-rule c =
    let past : length c.loop-place.room.objects ≤ c.loop-place.place = omega (arith, c.loop-place-test.false, c.len.ensures) in
    all_turned c.args.step c.args.room.now c.loop-place.place c.loop-place.room c.stands_in_order.ensures.rising c.loop-place.invariant past

pub returns-clause-ready : goal.returns-clause-ready
returns-clause-ready c =
    let past : length c.loop-place.room.objects ≤ c.loop-place.place = omega (arith, c.loop-place-test.false, c.len.ensures) in
    let left = left_at_end c.args.step c.args.room.now c.loop-place.place c.loop-place.room c.stands_in_order.ensures.rising c.loop-place.invariant past ∙ length-filter (may_drop c.args.step) c.loop-place.room.objects in
    subst (λ n. IsReadyFor n c.loop-place.room) left c.loop-place.invariant.ready

pub returns-clause-left : goal.returns-clause-left
returns-clause-left c =
    let past : length c.loop-place.room.objects ≤ c.loop-place.place = omega (arith, c.loop-place-test.false, c.len.ensures) in
    let left = left_at_end c.args.step c.args.room.now c.loop-place.place c.loop-place.room c.stands_in_order.ensures.rising c.loop-place.invariant past ∙ length-filter (may_drop c.args.step) c.loop-place.room.objects in
    let made = c.loop-place.invariant.made in
    omega (arith, left, made)
