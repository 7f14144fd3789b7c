use Rattle.recorded_tick.proofs.Accepted.{modules_accepted}
use Rattle.recorded_tick.proofs.laws.courses_have_accepted_modules.Goals as goal

pub returns : goal.returns
returns c = λ base entries course. modules_accepted base entries course.follow
