use Rattle.std.proofs.Common.{ap, ◌∙◌}
use Rattle.world_hub.specs.declared.status.Sight.{Sight}
use Rattle.served_ticks.proofs.ticks.tell_tick.Goals as goal

pub returns-clause-told : goal.returns-clause-told
returns-clause-told g c = (
  c.in_ok-summary.summary,
  ap (λ (s : Sight). s.published) c.in_ok-publish.ensures.published,
  λ entries same. c.in_ok-summary.ensures entries (c.deref.ensures.value ∙ same),
)
