use Rattle.std.proofs.Common.{inl, inr, ◌≡◌, ◌+◌, ℕ, List, Option, ◌<◌, ◌≤◌, arith, ap, refl, subst, sym, ◌∙◌}
use Rattle.hosted_tick.specs.Hosting.{Held, IsHosted}
use Rattle.world_replay.specs.Serials.{HasRunOut}
use Rattle.world_run.specs.inner.Stages.{Continues, Grows}
use Rattle.upload_stream.specs.Streams.{uploads_at}
use Rattle.world_run.proofs.Left.{later_left, step_same}
use Rattle.world_run.proofs.RunsLists.{Further, along_more, along_none, along_part, continues, lasts_cut, lasts_so_far, tick_rises}
use Rattle.world_run.proofs.ticks.run_ticks.Goals as goal

pub loop-turn-init : goal.loop-turn-init
loop-turn-init g c = record {
  along = along_none _ _ _ _ c.args.first c.requires.hosted;
  hosted = c.requires.hosted;
  few = c.requires.few;
  recorder = c.requires.recorder;
  tick = omega arith;
  left = λ tick from. refl;
  is_open = c.requires.is_open;
  log = c.requires.log;
  out_steady = refl;
  disk_steady = refl;
}

pub returns-in-Err-clause-write_stopped : goal.returns-in-Err-clause-write_stopped
returns-in-Err-clause-write_stopped g c = λ stopped.
    let part = c.in-Err.ensures.write_stopped stopped in
    let of_stream = step_same c.loop-turn.left c.args.stream c.loop-turn.kept.hosted part.0 (c.loop-turn.invariant.left c.loop-turn.kept.hosted.world.tick (omega arith)) part.1 in
    let further : Further c.args.stream c.loop-turn.kept.hosted part.0 = record { serials = part.2; step_is = of_stream; hosted = part.3 } in
    let more = along_part _ _ _ _ _ _ _ _ _ _ _ part.0 c.loop-turn.invariant.along further _ part.4 part.5 in
    (more.0, omega (arith, more.1), more.2, more.3)

pub returns-in-Err-clause-exhausted : goal.returns-in-Err-clause-exhausted
returns-in-Err-clause-exhausted g c = λ index is.
    let end = c.in-Err.ensures.exhausted index is in
    let along = c.loop-turn.invariant.along in
    let grows = subst (λ (sink : Option (List ℕ)). Grows (g.O.Sink.written c.args.out.now) sink c.args.stream c.args.first.hosted along.steps) (sym end.2) along.grows in
    let more = continues _ _ _ _ c.args.first c.loop-turn.kept along.steps along.keeps in
    let kept = subst (λ (seen : Option (List ℕ)). Continues c.args.first (g.D.Disk.seen c.args.disk.now) (g.D.Disk.moments c.args.disk.now) seen along.steps) (sym end.1) more in
    (along.steps, omega (arith, along.counted), grows, kept, subst (λ (held : Held). HasRunOut held.world index) (sym along.ended) end.0)

pub returns-in-Err-clause-memory : goal.returns-in-Err-clause-memory
returns-in-Err-clause-memory g c = λ is.
    let end = c.in-Err.ensures.memory is in
    let along = c.loop-turn.invariant.along in
    let grows = subst (λ (sink : Option (List ℕ)). Grows (g.O.Sink.written c.args.out.now) sink c.args.stream c.args.first.hosted along.steps) (sym end.1) along.grows in
    let more = continues _ _ _ _ c.args.first c.loop-turn.kept along.steps along.keeps in
    let kept = subst (λ (seen : Option (List ℕ)). Continues c.args.first (g.D.Disk.seen c.args.disk.now) (g.D.Disk.moments c.args.disk.now) seen along.steps) (sym end.0) more in
    (along.steps, omega (arith, along.counted), grows, kept)

pub returns-clause-done : goal.returns-clause-done
returns-clause-done g c = λ done.
    let along = c.loop-turn.invariant.along in
    (along.steps, omega (arith, along.counted), along.grows, continues _ _ _ _ c.args.first c.loop-turn.kept along.steps along.keeps)

pub returns-in-Err-clause-disk_stopped : goal.returns-in-Err-clause-disk_stopped
returns-in-Err-clause-disk_stopped g c = λ is.
    let along = c.loop-turn.invariant.along in
    let grows = subst (λ (sink : Option (List ℕ)). Grows (g.O.Sink.written c.args.out.now) sink c.args.stream c.args.first.hosted along.steps) (sym (c.in-Err.ensures.disk_stopped is)) along.grows in
    (along.steps, omega (arith, along.counted), grows)

pub loop-turn-preserved : goal.loop-turn-preserved
loop-turn-preserved g c =
    let made = c.in-Ok.ensures.step in
    let of_stream = step_same c.loop-turn.left c.args.stream c.loop-turn.kept.hosted made.0 (c.loop-turn.invariant.left c.loop-turn.kept.hosted.world.tick (omega arith)) made.2 in
    let further : Further c.args.stream c.loop-turn.kept.hosted made.0 =
    record { serials = made.3; step_is = of_stream; hosted = subst (λ (held : Held). IsHosted held.world) (sym made.1) c.in-Ok.ensures.hosted } in
    let along = along_more _ _ _ _ _ _ _ _ _ _ _ made.0 c.loop-turn.invariant.along further _ _ c.in-Ok.next made.1 made.4 made.5 made.6 made.7 in
    let risen : c.in-Ok.next.hosted.world.tick ≡ c.loop-turn.kept.hosted.world.tick + 1 = ap (λ (held : Held). held.world.tick) (sym made.1) ∙ tick_rises c.args.stream c.loop-turn.kept.hosted made.0 of_stream in
    record {
      along = along;
      hosted = c.in-Ok.ensures.hosted;
      few = c.in-Ok.ensures.few;
      recorder = c.in-Ok.ensures.recorder;
      tick = omega (arith, risen, c.loop-turn.invariant.tick);
      left = λ tick from. ap (uploads_at tick) c.in-Ok.ensures.left ∙ (later_left c.loop-turn.kept.hosted.world.tick tick c.loop-turn.left (omega (arith, from, risen)) ∙ c.loop-turn.invariant.left tick (omega (arith, from, risen)));
      is_open = c.in-Ok.ensures.is_open;
      log = c.in-Ok.ensures.log;
      out_steady = c.in-Ok.ensures.steady.0 ∙ c.loop-turn.invariant.out_steady;
      disk_steady = c.in-Ok.ensures.steady.1 ∙ c.loop-turn.invariant.disk_steady;
    }

pub returns-clause-lasts : goal.returns-clause-lasts
returns-clause-lasts g c =
    let le : c.loop-turn._turn ≤ c.args.ticks = omega arith in
    lasts_so_far _ _ _ _ _ _ _ _ _ _ c.loop-turn.invariant.along c.args.ticks le _ _ refl refl

pub returns-in-Err-clause-lasts : goal.returns-in-Err-clause-lasts
returns-in-Err-clause-lasts g c =
    let lt : c.loop-turn._turn < c.args.ticks = omega arith in
    elim c.in-Err.ensures.cut [
      | inl same ↦ lasts_so_far _ _ _ _ _ _ _ _ _ _ c.loop-turn.invariant.along c.args.ticks (omega arith) _ _ same.0 same.1
      | inr cut ↦ (
          let of_stream = step_same c.loop-turn.left c.args.stream c.loop-turn.kept.hosted cut.step (c.loop-turn.invariant.left c.loop-turn.kept.hosted.world.tick (omega arith)) cut.is in
          let further : Further c.args.stream c.loop-turn.kept.hosted cut.step = record { serials = cut.serials; step_is = of_stream; hosted = cut.hosted } in
          lasts_cut _ _ _ _ _ _ _ _ _ _ _ cut.step c.loop-turn.invariant.along further c.args.ticks lt _ _ cut refl)
    ]
