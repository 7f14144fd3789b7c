use Rattle.std.proofs.Common.{◌≡◌, get_or, List, subst, sym, arith}
use Rattle.std.proofs.lemmas.List.{get_or_default}
use Rattle.wasm_link.specs.declared.image.Interval.{Interval}
use Rattle.wasm_link.specs.declared.image.Stretch.{Stretch}
use Rattle.wasm_link.proofs.Joins.{AreJoined, joined_none, joined_grown, joined_next, apart_end, held_end}
use Rattle.wasm_link.proofs.stretches.joined.Goals.{then-interval-last, else-interval-last+in_ok-push}
use Rattle.wasm_link.proofs.stretches.joined.Goals as goal

pub loop-at-init : goal.loop-at-init
loop-at-init c =
    let first = c.in-Some.first.now in
    subst (λ (z : List Stretch). AreJoined c.args.intervals.now 0 z (record { start = first.start; len = 0; base = 0 })) (sym c.new-stretches.ensures.items)
    (joined_none c.args.intervals.now first c.requires.rising (sym c.in-Some.ensures.value))

pub loop-at-preserved : goal.loop-at-preserved
loop-at-preserved c =
    let all = c.args.intervals.now in
    let at = c.loop-at.at in
    let last = c.loop-at.last in
    let x : Interval = get_or all at (record { start = 0; len = 0 }) in
    let is : x ≡ get_or all at x = get_or_default all at (record { start = 0; len = 0 }) x c.loop-at-test.true in
    elim c.if-interval-last.branch [
      | then-interval-last w ↦ rw (w.stretches-is, w.last-is) (joined_grown all at c.loop-at.stretches.items last c.loop-at.invariant x c.loop-at-test.true is w.max.result (omega (arith, w.max.ensures)) (omega (arith, w.max.ensures)) (λ size a b. omega (arith, w.max.ensures, a, b)))
      | else-interval-last+in_ok-push w ↦ rw (w.stretches-is, w.last-is, w.in_ok-push.ensures.items) (joined_next all at c.loop-at.stretches.items last c.loop-at.invariant x c.loop-at-test.true is c.requires.rising (omega (arith, w.if-interval-last.false)))
    ]

pub returns-clause-apart : goal.returns-clause-apart
returns-clause-apart c = rw c.in_ok-push-2.ensures.items (apart_end c.args.intervals.now c.loop-at.at c.loop-at.stretches.items c.loop-at.last c.loop-at.invariant)

pub returns-clause-held : goal.returns-clause-held
returns-clause-held c = rw c.in_ok-push-2.ensures.items (held_end c.args.intervals.now c.loop-at.at c.loop-at.stretches.items c.loop-at.last c.loop-at.invariant (omega (arith, c.loop-at-test.false)))
