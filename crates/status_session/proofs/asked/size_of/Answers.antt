use Rattle.std.proofs.Common.{arith}
use Rattle.status_session.proofs.Cuts.{value_step}
use Rattle.status_session.proofs.asked.size_of.Goals as goal

pub returns-then-size-gt-UPLOAD_BYTES-clause-none : goal.returns-then-size-gt-UPLOAD_BYTES-clause-none
returns-then-size-gt-UPLOAD_BYTES-clause-none c = λ n s. absurd (omega (arith, s.is, s.most, c.loop-at.invariant.1, value_step c.loop-at.size c.args.bytes.now c.loop-at.at c.loop-at-test.true, c.if-size-gt-UPLOAD_BYTES.true))
