use Rattle.std.proofs.Common.{[], ℕ, List, inr, ap, refl, subst, sym, ◌∙◌}
use Rattle.std.proofs.lemmas.List.{append-nil}
use Rattle.upload_stream.specs.Streams.{Upload, UploadList}
use Rattle.world_hub.specs.Hub.{ticker_hand_of, ticker_sight}
use Rattle.world_hub.specs.declared.queue.Hand.{Hand}
use Rattle.world_hub.specs.declared.status.Sight.{Sight}
use Rattle.served_ticks.specs.Given.{sent_at}
use Rattle.served_ticks.specs.inner.OneTick.{AreOf, IsServedOnce, IsStopped, IsTaken}
use Rattle.served_ticks.proofs.Handed.{are_of, read_back, sight_same, taken_at}
use Rattle.served_ticks.proofs.Outcomes.{if_err, if_ok}
use Rattle.served_ticks.proofs.Steps.{nothing_made}
use Rattle.served_ticks.proofs.ticks.serve_one.Goals as goal

-- The stream that was built is one of uploads.
pub unreachable-requires : goal.unreachable-requires
unreachable-requires g c = c.stream_is_judged_once.ensures.refused c.deref-2.result.now (sent_at c.tick.result c.deref.result.now) _ (subst (λ (b : List ℕ). UploadList b (sent_at c.tick.result c.deref.result.now)) (sym c.deref-2.ensures.value) c.in-Ok-stream_of.ensures) c.in-Err.ensures.bad

pub serve_taken-requires-clause-uploads : goal.serve_taken-requires-clause-uploads
serve_taken-requires-clause-uploads g c =
    let tick = c.args.served.kept.hosted.world.tick in
    let same = read_back c.stream_is_judged_once.ensures.one _ _ _ _ tick _ _ c.in-Ok-read.ensures.list c.deref-2.ensures.value c.in-Ok-stream_of.ensures c.deref.ensures.value (c.tick.ensures ∙ ap (λ (w : Rattle.object_store.specs.Stored.Stored). w.tick) c.world.ensures) in
    subst (AreOf tick) (sym same) (are_of tick c.in-Ok.taken.items)

pub returns-clause-once : goal.returns-clause-once
returns-clause-once g c =
    let kept = c.args.served.kept in
    let same = read_back c.stream_is_judged_once.ensures.one _ _ _ _ kept.hosted.world.tick _ _ c.in-Ok-read.ensures.list c.deref-2.ensures.value c.in-Ok-stream_of.ensures c.deref.ensures.value (c.tick.ensures ∙ ap (λ (w : Rattle.object_store.specs.Stored.Stored). w.tick) c.world.ensures) in
    let taken : IsTaken kept c.in-Ok-read.uploads (ticker_hand_of c.args.ticker.now) (ticker_hand_of c.serve_taken.new.ticker) =
    subst (λ (l : List Upload). IsTaken kept l (ticker_hand_of c.args.ticker.now) (ticker_hand_of c.serve_taken.new.ticker)) (sym same)
    (subst (λ (h : Hand). IsTaken kept (sent_at kept.hosted.world.tick c.in-Ok.taken.items) (ticker_hand_of c.args.ticker.now) h) (sym c.serve_taken.ensures.ticker.1) (taken_at kept _ _ c.in-Ok.taken.items c.in-Ok.ensures.taken)) in
    if_ok c.serve_taken.result _ _ (λ next once. (
      c.in-Ok-read.uploads,
      taken,
      subst (λ (s : Sight). IsServedOnce c.in-Ok-read.uploads c.args.served (g.D.Disk.seen c.args.disk.now) (g.D.Disk.moments c.args.disk.now) s next (g.D.Disk.seen c.serve_taken.new.disk) (g.D.Disk.moments c.serve_taken.new.disk) (ticker_sight c.serve_taken.new.ticker))
          (sight_same c.take_uploads.new.ticker c.args.ticker.now c.take_uploads.ensures.ticker.1) once,
    )) c.serve_taken.ensures.once

pub returns-clause-stopped : goal.returns-clause-stopped
returns-clause-stopped g c =
    let kept = c.args.served.kept in
    let same = read_back c.stream_is_judged_once.ensures.one _ _ _ _ kept.hosted.world.tick _ _ c.in-Ok-read.ensures.list c.deref-2.ensures.value c.in-Ok-stream_of.ensures c.deref.ensures.value (c.tick.ensures ∙ ap (λ (w : Rattle.object_store.specs.Stored.Stored). w.tick) c.world.ensures) in
    let taken : IsTaken kept c.in-Ok-read.uploads (ticker_hand_of c.args.ticker.now) (ticker_hand_of c.serve_taken.new.ticker) =
    subst (λ (l : List Upload). IsTaken kept l (ticker_hand_of c.args.ticker.now) (ticker_hand_of c.serve_taken.new.ticker)) (sym same)
    (subst (λ (h : Hand). IsTaken kept (sent_at kept.hosted.world.tick c.in-Ok.taken.items) (ticker_hand_of c.args.ticker.now) h) (sym c.serve_taken.ensures.ticker.1) (taken_at kept _ _ c.in-Ok.taken.items c.in-Ok.ensures.taken)) in
    if_err c.serve_taken.result _ _ (λ status stopped. (
      c.in-Ok-read.uploads,
      taken,
      subst (λ (s : Sight). IsStopped c.in-Ok-read.uploads kept (g.D.Disk.seen c.args.disk.now) (g.D.Disk.moments c.args.disk.now) s (g.D.Disk.seen c.serve_taken.new.disk) (g.D.Disk.moments c.serve_taken.new.disk) (ticker_sight c.serve_taken.new.ticker) status)
          (sight_same c.take_uploads.new.ticker c.args.ticker.now c.take_uploads.ensures.ticker.1) stopped,
    )) c.serve_taken.ensures.stopped

-- No memory for uploads: none is taken.
pub returns-in_default-clause-stopped : goal.returns-in_default-clause-stopped
returns-in_default-clause-stopped g c =
    let same = c.in_default.ensures.none in (
      [],
      record { are = tt; marked = []; taken = ap (λ (t : Rattle.world_hub.specs.declared.hub.Ticker.Ticker). (ticker_hand_of t).taken) same ∙ sym (append-nil _); same = refl },
      record { told = ap (λ (t : Rattle.world_hub.specs.declared.hub.Ticker.Ticker). (ticker_sight t).published) same; fate = inr (nothing_made [] c.args.served.kept (g.D.Disk.seen c.args.disk.now) (g.D.Disk.moments c.args.disk.now)) },
    )

-- No memory for their stream.
pub returns-in_default-stream_of-clause-stopped : goal.returns-in_default-stream_of-clause-stopped
returns-in_default-stream_of-clause-stopped g c =
    let kept = c.args.served.kept in
    let given = sent_at kept.hosted.world.tick c.in-Ok.taken.items in (
      given,
      taken_at kept _ _ c.in-Ok.taken.items c.in-Ok.ensures.taken,
      record { told = ap (λ (s : Sight). s.published) (sight_same c.take_uploads.new.ticker c.args.ticker.now c.take_uploads.ensures.ticker.1); fate = inr (nothing_made given kept (g.D.Disk.seen c.args.disk.now) (g.D.Disk.moments c.args.disk.now)) },
    )
