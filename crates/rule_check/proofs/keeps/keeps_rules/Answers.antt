use Rattle.std.proofs.Common.{rules}
use Rattle.std.proofs.lemmas.Result.{IfOk-weaker}
use Rattle.std.specs.Prelude.{MatchBool}
use Rattle.world_rules.specs.World.{listing_of}
use Rattle.rule_check.specs.declared.keeps.Chosen.TheVariants.{AllButCounts}
use Rattle.rule_check.specs.Kept.{AreOnTiles, KeepsAllButCounts}
use Rattle.rule_check.specs.inner.Chosen.{KeepsChosen}
use Rattle.rule_check.proofs.Kept.{all_but_counts}
use Rattle.rule_check.proofs.keeps.keeps_rules.Goals as goal

pub returns : goal.returns
returns c =
    IfOk-weaker c.keeps_chosen.result
    (λ kept. MatchBool kept (KeepsChosen AllButCounts c.args.world.now) (KeepsChosen AllButCounts c.args.world.now → ⊥))
    (λ kept. MatchBool kept (AreOnTiles c.args.world.now.rooms × KeepsAllButCounts (listing_of c.args.world.now)) (AreOnTiles c.args.world.now.rooms × KeepsAllButCounts (listing_of c.args.world.now) → ⊥))
    (all_but_counts c.args.world.now) (search rules)
