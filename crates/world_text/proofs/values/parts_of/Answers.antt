use Rattle.serde_json.specs.Data.{string}
use Rattle.game_tables.specs.Texts.{part_text}
use Rattle.world_text.proofs.Passes.{not_items}
use Rattle.world_text.proofs.values.parts_of.Goals as goal

pub returns-in_default : goal.returns-in_default
returns-in_default c = λ said e. not_items (λ part. string (part_text part)) c.args.values.now said c.loop-value.value-index c.value-item.result c.loop-value-test.true c.value-item.is c.in_default.ensures e
