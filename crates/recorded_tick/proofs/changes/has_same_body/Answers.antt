use Rattle.std.proofs.Common.{sym, ◌∙◌}
use Rattle.std.proofs.lemmas.Slice.Eq.{slice_eq-Decides}
use Rattle.recorded_tick.proofs.Bodies.{parts_Decides}
use Rattle.recorded_tick.proofs.changes.has_same_body.Goals as goal

pub returns : goal.returns
returns c =
    let both = slice_eq-Decides parts_Decides c.parts.result.now c.parts-2.result.now c.eq.result c.eq.ensures in
    (λ yes. sym c.parts.ensures.same ∙ both.0 yes ∙ c.parts-2.ensures.same, λ same. both.1 (c.parts.ensures.same ∙ same ∙ sym c.parts-2.ensures.same))
