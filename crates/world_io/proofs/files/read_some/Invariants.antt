use Rattle.std.specs.Io.KnownBytes.{Keeps}
use Rattle.world_io.proofs.files.read_some.Given as goal

abbrev pub invariant-again : goal.invariant-again
invariant-again g l = Keeps (g.R.Read.remaining l.fn.reader) (g.R.Read.remaining l.reader)
