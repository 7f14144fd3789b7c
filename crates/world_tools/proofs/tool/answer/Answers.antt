use Rattle.world_tools.proofs.Checked.{answers, calls_for}
use Rattle.world_tools.proofs.tool.answer.Goals as goal

pub returns-in-Ok-clause-read : goal.returns-in-Ok-clause-read
returns-in-Ok-clause-read g c = answers _ _ c.in-Ok.bytes.items _ c.in-Ok.ensures.whole (rw c.deref.ensures.value at c.verdict.ensures)

pub returns-in-Ok-clause-complete : goal.returns-in-Ok-clause-complete
returns-in-Ok-clause-complete g c =
    λ bytes left fine. calls_for _ _ bytes c.in-Ok.bytes.items _ left c.in-Ok.ensures.whole (rw c.deref.ensures.value at c.verdict.ensures)
