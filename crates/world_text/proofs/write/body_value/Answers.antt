use Rattle.std.proofs.Common.{refl, ap, ◌∙◌}
use Rattle.serde_json.specs.Data.{string}
use Rattle.game_tables.specs.Texts.{part_text}
use Rattle.world_text.proofs.Passes.{values_next}
use Rattle.world_text.proofs.write.body_value.Goals as goal

pub loop-part-preserved : goal.loop-part-preserved
loop-part-preserved c =
    values_next (λ part. string (part_text part)) c.parts-part-items.result.now c.loop-part.part-index _ _
    c.loop-part.values.items c.push.new.self.items c.in_ok-try_from_str.field-0 c.loop-part-test.true refl
    c.loop-part.invariant (c.in_ok-try_from_str.ensures ∙ ap string c.text.ensures) c.in_ok-push.ensures.items
