use Rattle.std.proofs.Common.{◌≡◌, map, take, length}
use Rattle.serde_json.specs.Data.{string}
use Rattle.serde_json.specs.View.{view}
use Rattle.game_tables.specs.Texts.{part_text}
use Rattle.world_text.proofs.values.parts_of.Given as goal

abbrev pub invariant-loop-value : goal.invariant-loop-value
invariant-loop-value l = record {
  parts : map view (take l.value-index l.values) ≡ map (λ part. string (part_text part)) l.body;
  room : length l.body ≡ l.value-index;
}
