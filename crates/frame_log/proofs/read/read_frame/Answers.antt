use Rattle.std.proofs.Common.{take}
use Rattle.frame_log.proofs.Reading.{too_short}
use Rattle.frame_log.proofs.read.read_frame.Goals as goal

pub returns-in-Short-clause-found : goal.returns-in-Short-clause-found
returns-in-Short-clause-found g c = too_short _ c.args.gate (take c.in-Ok.count c.read.new.buf) c.in-Ok.ensures.told c.in-Short.ensures.0 c.in-Short.ensures.1
