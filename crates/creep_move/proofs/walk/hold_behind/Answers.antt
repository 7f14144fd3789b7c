use Rattle.std.proofs.Common.{◌≡◌, ◌<◌, length, get_or, true, arith, ap, sym, subst, inl, inr, refl, length-set}
use Rattle.std.proofs.lemmas.Bool.{cases_eq}
use Rattle.creep_move.specs.inner.Walk.{Stuck, here, behind}
use Rattle.creep_move.proofs.Held.{free_falls, hold_kept, hold_cases, closed_more}
use Rattle.creep_move.proofs.walk.hold_behind.Goals as goal

pub loop-from-init : goal.loop-from-init
loop-from-init c = record {
  next = λ low. behind (here c.requires.held) refl low;
  kept = λ t h. h;
  stuck = λ t h. here h;
  closed = λ t h. elim (cases_eq t c.args.tile) [
    | inl e ↦ inr (inl (ap (λ j. get_or c.args.comes.now j 0) e))
    | inr other ↦ inr (inr (h, other))
  ];
}

pub loop-from-preserved : goal.loop-from-preserved
loop-from-preserved c =
    let s = c.loop-from in
    let within : s.from < length s.held = c.loop-from-test.true in
    let same : length s.held ≡ length c.args.held.now = s.auto.held in
    let stuck = s.invariant.next within in
    record {
      next = λ low. behind stuck refl (omega (arith, low, same, length-set s.held s.from true));
      kept = λ t h. hold_kept s.held s.from t within (s.invariant.kept t h);
      stuck = λ t h. elim (hold_cases s.held s.from t h) [
        | inl e ↦ subst (λ j. Stuck c.args.comes.now c.args.held.now j) (sym e) stuck
        | inr old ↦ s.invariant.stuck t old
      ];
      closed = λ t h. closed_more c.args.comes.now c.args.held.now s.held s.from c.args.tile within t (s.invariant.closed t) h;
    }

pub loop-from-smaller : goal.loop-from-smaller
loop-from-smaller c = free_falls c.loop-from.held c.loop-from.from c.loop-from-test.true c.if-held-from.false
