use Rattle.std.proofs.Common.{◌≤◌, length}
use Rattle.world_io.proofs.files.read_at.Given as goal

abbrev pub invariant-fill : goal.invariant-fill
invariant-fill l = l.filled ≤ length l.buf
