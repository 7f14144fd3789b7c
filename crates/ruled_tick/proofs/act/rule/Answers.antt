use Rattle.std.proofs.Common.{sym}
use Rattle.world_rules.specs.RoomParts.{table_part}
use Rattle.ruled_tick.proofs.Gaining.{no_points}
use Rattle.ruled_tick.proofs.act.rule.Goals as goal

pub rule_plain-requires-clause-plain : goal.rule_plain-requires-clause-plain
rule_plain-requires-clause-plain c = c.in_default.not-Upgrade

pub returns-in_default-clause-points : goal.returns-in_default-clause-points
returns-in_default-clause-points c = λ grounds. sym (no_points c.args.intent.now.action c.in_default.not-Upgrade c.args.intent.now (table_part grounds c.args.table.now))
