use Rattle.std.proofs.Common.{ℕ, ◌<◌, List, length, get_or, subst}
use Rattle.object_store.specs.declared.world.Room.{Room}
use Rattle.room_step.specs.declared.step.StepDone.{StepDone}
use Rattle.room_jobs.specs.RoomJobs.{IsStepDone}
use Rattle.room_jobs.proofs.shared.stepped_by_workers.Goals as goal

pub beside-requires-clause-each : goal.beside-requires-clause-each
beside-requires-clause-each g c =
    subst (λ (rooms : List Room). (k : ℕ) (default : StepDone) → k < length rooms → IsStepDone rooms c.args.lists.now k (get_or c.in_ok-done.done.items k default)) c.deref.ensures.value c.in_ok-done.ensures.each
