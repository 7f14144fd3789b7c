use Rattle.std.proofs.Common.{◌≡◌, ◌+◌, ◌++◌, List, length, map}
use Rattle.upload_stream.specs.Streams.{Upload}
use Rattle.world_hub.specs.Hub.{IsTickerOf, ticker_hand_of, ticker_sight}
use Rattle.world_hub.specs.declared.queue.Marked.{Marked}
use Rattle.world_hub.specs.declared.summary.Summary.{Summary}
use Rattle.served_ticks.specs.Given.{sender, told_sender}
use Rattle.served_ticks.specs.inner.OneTick.{MayGoOn}
use Rattle.served_ticks.proofs.Steps.{SoFar}
use Rattle.served_ticks.proofs.ticks.serve_all.Given as goal

abbrev pub invariant-loop-turn : goal.invariant-loop-turn
invariant-loop-turn g l =
    record {
      ticker : IsTickerOf l.hub l.ticker;
      goes_on : MayGoOn l.served (g.D.Disk.seen l.disk) (g.D.Disk.moments l.disk);
      tick : l.served.kept.hosted.world.tick ≡ l.fn.first.kept.hosted.world.tick + l._turn;
      summaries : List Summary;
      published : (ticker_sight l.ticker).published ≡ (ticker_sight l.fn.ticker).published ++ summaries;
      many : length summaries ≡ l._turn;
      stream : List Upload;
      marked : List Marked;
      taken : (ticker_hand_of l.ticker).taken ≡ (ticker_hand_of l.fn.ticker).taken ++ marked;
      same : map (λ (m : Marked). sender m.upload) marked ≡ map told_sender stream;
      so_far : SoFar (g.D.Disk.seen l.fn.disk) (g.D.Disk.moments l.fn.disk) (g.D.Disk.seen l.disk) (g.D.Disk.moments l.disk) l.fn.first l._turn l.served summaries stream;
      steady : g.D.Disk.faults l.disk ≡ g.D.Disk.faults l.fn.disk;
    }
