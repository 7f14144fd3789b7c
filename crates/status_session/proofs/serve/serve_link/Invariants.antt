use Rattle.std.proofs.Common.{◌≡◌}
use Rattle.world_hub.specs.Hub.{IsPassOfHub}
use Rattle.status_session.specs.inner.Turned.{Gone}
use Rattle.status_session.proofs.serve.serve_link.Given as goal

abbrev pub invariant-loop : goal.invariant-loop
invariant-loop g l =
    record {
      pass : IsPassOfHub l.hub l.pass;
      gone : Gone l.tokens (g.L.Source.left l.fn.link) (g.L.Source.left l.link) (g.L.Sink.written l.fn.link) (g.L.Sink.written l.link) l.fn.pass l.pass l.counter;
      reads : g.L.Source.faults l.link ≡ g.L.Source.faults l.fn.link;
      writes : g.L.Sink.faults l.link ≡ g.L.Sink.faults l.fn.link;
    }
