use Rattle.std.proofs.Common.{◌≡◌, map, take}
use Rattle.serde_json.specs.Data.{string}
use Rattle.serde_json.specs.View.{view}
use Rattle.game_tables.specs.Texts.{part_text}
use Rattle.world_text.proofs.write.body_value.Given as goal

abbrev pub invariant-loop-part : goal.invariant-loop-part
invariant-loop-part l = map view l.values.items ≡ map (λ part. string (part_text part)) (take l.part-index l.part-items)
