use Rattle.std.proofs.Common.{◌≡◌, map, ap, ◌∙◌, subst}
use Rattle.world_rules.specs.World.{Listing}
use Rattle.world_rules.specs.Rules.{IsFirstBroken}
use Rattle.rule_check.specs.Views.{viewed, viewed_room}
use Rattle.world_text.specs.inner.Drafts.{drafted, drafted_room}
use Rattle.world_text.proofs.read.test_rules.Goals as goal

pub returns-in-Some-clause-broken : goal.returns-in-Some-clause-broken
returns-in-Some-clause-broken c =
    let draft = c.args.draft.now in
    let found = rw c.in-Some.is at c.in_ok-rule.ensures.broken in
    let rooms = ap (map viewed_room) c.deref-2.ensures.value ∙ c.in_ok-views.ensures.same ∙ ap (map drafted_room) c.deref.ensures.value in
    let same : viewed c.deref-2.result.now c.deref-3.result.now draft.tick ≡ drafted draft = λ i. record { rules = 1; tick = draft.tick; rooms = rooms i; accounts = c.deref-3.ensures.value i } in
    subst (λ (listing : Listing). IsFirstBroken c.in-Some.rule c.in-Some.number listing) same (found draft.tick)
