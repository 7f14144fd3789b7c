use Rattle.std.specs.Io.KnownBytes.{Keeps}
use Rattle.world_io.proofs.stream.write_some.Given as goal

abbrev pub invariant-again : goal.invariant-again
invariant-again g l = Keeps (g.W.Write.contents l.fn.writer) (g.W.Write.contents l.writer)
