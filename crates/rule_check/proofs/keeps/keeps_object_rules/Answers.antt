use Rattle.std.proofs.Common.{rules}
use Rattle.std.proofs.lemmas.Result.{IfOk-weaker}
use Rattle.std.specs.Prelude.{MatchBool}
use Rattle.rule_check.specs.declared.keeps.Chosen.TheVariants.{OfObjects}
use Rattle.rule_check.specs.Kept.{KeepsObjectRules}
use Rattle.rule_check.specs.inner.Chosen.{KeepsChosen}
use Rattle.rule_check.proofs.Kept.{of_objects}
use Rattle.rule_check.proofs.keeps.keeps_object_rules.Goals as goal

pub returns : goal.returns
returns c =
    IfOk-weaker c.keeps_chosen.result
    (λ kept. MatchBool kept (KeepsChosen OfObjects c.args.world.now) (KeepsChosen OfObjects c.args.world.now → ⊥))
    (λ kept. MatchBool kept (KeepsObjectRules c.args.world.now) (KeepsObjectRules c.args.world.now → ⊥))
    (of_objects c.args.world.now) (search rules)
