use Rattle.std.proofs.Common.{inr}
use Rattle.world_io.proofs.Moments.{since_trans, since_weaken}
use Rattle.shared_serve.proofs.opening.begin.Goals as goal

pub returns-in-Ok-read_back-clause-opening : goal.returns-in-Ok-read_back-clause-opening
returns-in-Ok-read_back-clause-opening g c = λ bytes none rests.
    let has = c.in-Ok.ensures.done bytes none rests c.requires.starts.begins in
    since_trans (c.in-Ok.ensures.each_moment bytes none rests c.requires.starts.begins)
    (since_weaken (λ image is. inr is) (c.read_back.ensures.each_moment _ has.has.rests))

pub returns-in-Err-read_back-clause-opening : goal.returns-in-Err-read_back-clause-opening
returns-in-Err-read_back-clause-opening g c = λ bytes none rests.
    let has = c.in-Ok.ensures.done bytes none rests c.requires.starts.begins in
    since_trans (c.in-Ok.ensures.each_moment bytes none rests c.requires.starts.begins)
    (since_weaken (λ image is. inr is) (c.read_back.ensures.each_moment _ has.has.rests))
