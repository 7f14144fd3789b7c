use Rattle.std.proofs.Common.{rules}
use Rattle.std.proofs.lemmas.Result.{IfOk-weaker}
use Rattle.std.specs.Prelude.{MatchBool}
use Rattle.rule_check.specs.Views.{viewed}
use Rattle.rule_check.specs.inner.Chosen.{IsKept, KeepsChosen}
use Rattle.rule_check.proofs.Kept.{as_stored}
use Rattle.rule_check.proofs.keeps.keeps_chosen.Goals as goal

pub returns : goal.returns
returns c =
    IfOk-weaker c.keep_rules.result
    (λ kept. MatchBool kept (IsKept c.args.chosen (viewed c.in_ok-views.views.items c.args.world.now.accounts 0)) (IsKept c.args.chosen (viewed c.in_ok-views.views.items c.args.world.now.accounts 0) → ⊥))
    (λ kept. MatchBool kept (KeepsChosen c.args.chosen c.args.world.now) (KeepsChosen c.args.chosen c.args.world.now → ⊥))
    (λ kept. as_stored c.args.chosen c.in_ok-views.views.items c.args.world.now kept (search rules) (search rules)) (search rules)
