use Rattle.std.proofs.Common.{◌≡◌, length, arith}
use Rattle.serde_json.specs.Data.{string}
use Rattle.serde_json.specs.View.{view}
use Rattle.game_tables.specs.Texts.{part_text}
use Rattle.world_text.proofs.Passes.{items_length}
use Rattle.world_text.proofs.values.body_of.Goals as goal

pub returns-then-len-most_parts : goal.returns-then-len-most_parts
returns-then-len-most_parts c = λ said e.
    let long : length c.in-Some.values.now.items ≡ length said = items_length (λ part. string (part_text part)) (view c.args.value.now) c.in-Some.values.now.items said c.in-Some.ensures e.0 in
    omega (arith, e.1)
