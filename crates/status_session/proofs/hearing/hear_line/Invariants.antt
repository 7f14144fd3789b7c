use Rattle.std.proofs.Common.{◌≡◌, length, take}
use Rattle.std.specs.Io.KnownBytes.{Consumes}
use Rattle.status_session.specs.Words.{HasNoFeed}
use Rattle.status_session.proofs.hearing.hear_line.Given as goal

abbrev pub invariant-loop-at : goal.invariant-loop-at
invariant-loop-at g l =
    record {
      long : length l.line ≡ 200;
      heard : Consumes (g.L.Source.left l.fn.link) (g.L.Source.left l.link) (take l.at l.line);
      none : HasNoFeed (take l.at l.line);
      kept : g.L.Source.faults l.link ≡ g.L.Source.faults l.fn.link;
      written : g.L.Sink.written l.link ≡ g.L.Sink.written l.fn.link;
      count : g.L.Sink.faults l.link ≡ g.L.Sink.faults l.fn.link;
    }
