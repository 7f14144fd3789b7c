use Rattle.std.proofs.Common.{subst}
use Rattle.rule_check.specs.Kept.{KeepsObjectRules}
use Rattle.world_replay.proofs.replay.rule_told.Goals as goal

pub rule_again-requires-clause-hosted : goal.rule_again-requires-clause-hosted
rule_again-requires-clause-hosted c = c.requires.told.hosted

pub rule_again-requires-clause-fits : goal.rule_again-requires-clause-fits
rule_again-requires-clause-fits c = c.requires.told.fits

pub rule_again-requires-clause-form : goal.rule_again-requires-clause-form
rule_again-requires-clause-form c = c.requires.told.form

pub rule_again-requires-clause-frame : goal.rule_again-requires-clause-frame
rule_again-requires-clause-frame c = rw c.world.ensures c.requires.told.frame

pub rule_again-requires-clause-rising : goal.rule_again-requires-clause-rising
rule_again-requires-clause-rising c = rw c.world.ensures c.requires.told.rising

pub go_on-requires-clause-keeps : goal.go_on-requires-clause-keeps
go_on-requires-clause-keeps c = λ yes. subst KeepsObjectRules c.world.ensures (c.in-Ok.ensures.keeps yes)
