use Rattle.std.proofs.Common.{◌≡◌, ◌++◌, [], ◌∷◌, ◌+◌, ℕ, List, length, map, refl, sym, ap, subst, ◌∙◌, append_assoc, length-append, arith}
use Rattle.std.proofs.lemmas.List.{append-nil, length_push, map-append}
use Rattle.world_hub.specs.declared.queue.Marked.{Marked}
use Rattle.world_hub.specs.declared.summary.Summary.{Summary}
use Rattle.world_run.proofs.RunsLists.{tick_rises}
use Rattle.served_ticks.specs.Given.{sender, told_sender}
use Rattle.served_ticks.proofs.Ending.{all_served, stopped}
use Rattle.served_ticks.proofs.Steps.{given_now, none_so_far, so_further}
use Rattle.served_ticks.proofs.ticks.serve_all.Goals as goal

pub loop-turn-init : goal.loop-turn-init
loop-turn-init g c = record {
  ticker = c.requires.ticker;
  goes_on = c.requires.served;
  tick = omega arith;
  summaries = [];
  published = sym (append-nil _);
  many = refl;
  stream = [];
  marked = [];
  taken = sym (append-nil _);
  same = refl;
  so_far = none_so_far _ _ c.args.first c.requires.served.hosted;
  steady = refl;
}

pub serve_one-requires-clause-published : goal.serve_one-requires-clause-published
serve_one-requires-clause-published g c =
    let now = c.loop-turn.invariant in
    let many : length now.summaries ≡ c.loop-turn._turn = now.many in
    let before = c.requires.published in
    let is = ap length now.published ∙ length-append _ now.summaries in
    omega (arith, is, many, before)

pub loop-turn-preserved : goal.loop-turn-preserved
loop-turn-preserved g c =
    let now = c.loop-turn.invariant in
    let once = c.in-Ok.ensures.once in
    let given = once.0 in
    let taken = once.1 in
    let served = once.2 in
    let own = given_now _ _ _ _ c.args.first c.loop-turn._turn c.loop-turn.served now.summaries now.stream given now.so_far now.goes_on.hosted now.tick taken.are in
    let risen = ap (λ (h : Rattle.hosted_tick.specs.Hosting.Held). h.world.tick) (sym served.added.after) ∙ tick_rises (now.stream ++ given) c.loop-turn.served.kept.hosted served.added.step (served.added.is (now.stream ++ given) own) in
    record {
      ticker = c.serve_one.ensures.ticker;
      goes_on = c.in-Ok.ensures.goes_on;
      tick = let before = now.tick in omega (arith, risen, before);
      summaries = now.summaries ++ served.summary ∷ [];
      published = served.told ∙ (ap (λ (l : List Summary). l ++ served.summary ∷ []) now.published ∙ append_assoc _ now.summaries (served.summary ∷ []));
      many = length_push now.summaries served.summary ∙ ap (λ n. n + 1) now.many;
      stream = now.stream ++ given;
      marked = now.marked ++ taken.marked;
      taken = taken.taken ∙ (ap (λ (l : List Marked). l ++ taken.marked) now.taken ∙ append_assoc _ now.marked taken.marked);
      same = map-append (λ (m : Marked). sender m.upload) now.marked taken.marked ∙ (ap (λ (l : List (ℕ × List ℕ)). l ++ map (λ (m : Marked). sender m.upload) taken.marked) now.same
          ∙ (ap (λ (l : List (ℕ × List ℕ)). map told_sender now.stream ++ l) taken.same ∙ sym (map-append told_sender now.stream given)));
      so_far = so_further _ _ _ _ c.args.first c.loop-turn._turn c.loop-turn.served now.summaries now.stream given now.so_far now.goes_on.hosted now.tick taken.are c.in-Ok.next _ _ _ _ served c.in-Ok.ensures.goes_on.hosted;
      steady = c.in-Ok.ensures.steady ∙ now.steady;
    }

pub returns-clause-serves : goal.returns-clause-serves
returns-clause-serves g c = λ base entries at has.
    let now = c.loop-turn.invariant in
    let many : c.loop-turn._turn ≡ c.args.ticks = omega arith in
    all_served base entries c.args.ticks _ c.args.first c.loop-turn._turn c.loop-turn.served _ _ now.summaries now.stream now.so_far at has _ refl refl now.steady many now.goes_on.log
    (record { marked = now.marked; taken = now.taken; same = now.same }) now.published

pub returns-in-Err-clause-serves : goal.returns-in-Err-clause-serves
returns-in-Err-clause-serves g c = λ base entries at has.
    let now = c.loop-turn.invariant in
    let stop = c.in-Err.ensures.stopped in
    let given = stop.0 in
    let taken = stop.1 in
    let is = stop.2 in
    let steady = now.steady in
    let later = c.serve_one.ensures.later in
    stopped base entries c.args.ticks _ c.args.first c.loop-turn._turn c.loop-turn.served _ _ now.summaries now.stream now.so_far at has _ given c.in-Err.status now.goes_on now.tick taken.are (omega arith)
    (record {
      marked = now.marked ++ taken.marked;
      taken = taken.taken ∙ (ap (λ (l : List Marked). l ++ taken.marked) now.taken ∙ append_assoc _ now.marked taken.marked);
      same = map-append (λ (m : Marked). sender m.upload) now.marked taken.marked ∙ (ap (λ (l : List (ℕ × List ℕ)). l ++ map (λ (m : Marked). sender m.upload) taken.marked) now.same
          ∙ (ap (λ (l : List (ℕ × List ℕ)). map told_sender now.stream ++ l) taken.same ∙ sym (map-append told_sender now.stream given)));
    })
    (is.told ∙ now.published) c.in-Err.ensures.only (λ f. subst (λ n. Rattle.world_io.specs.Causes.Rose n (g.D.Disk.faults c.serve_one.new.disk)) now.steady (c.in-Err.ensures.disk_fault f)) (λ other. c.in-Err.ensures.steady_else other ∙ now.steady) (omega (arith, steady, later)) _ is
