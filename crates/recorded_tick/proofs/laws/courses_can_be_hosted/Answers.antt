use Rattle.recorded_tick.proofs.Courses.{last_hosted}
use Rattle.recorded_tick.proofs.laws.courses_can_be_hosted.Goals as goal

pub returns : goal.returns
returns c = last_hosted
