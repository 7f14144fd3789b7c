use Rattle.std.proofs.Common.{ℕ, subst, arith, All}
use Rattle.std.proofs.lemmas.List.{take_all}
use Rattle.std.proofs.lemmas.List.Elements.{All-push}
use Rattle.wasm_link.specs.inner.Images.{EndsIn}
use Rattle.wasm_link.proofs.Joins.{HasInterval, ends_more, each_pushed, each_empty}
use Rattle.wasm_link.proofs.segments.intervals_of.Goals.{then-interval-gt0+in_ok-push, else-interval-gt0}
use Rattle.wasm_link.proofs.segments.intervals_of.Goals as goal

pub loop-at-preserved : goal.loop-at-preserved
loop-at-preserved g c =
    let segments = c.args.segments.now in
    let at = c.loop-at.at in
    let s = c.index-segments-at.result in
    let x = c.interval-interval.result in
    let old = c.loop-at.intervals.items in
    let below = c.loop-at-test.true in
    let is = c.interval-interval.ensures.is in
    elim c.if-interval-gt0.branch [
      | then-interval-gt0+in_ok-push w ↦ rw (w.intervals-is, w.in_ok-push.ensures.items) (record {
        within = omega (arith, below);
        ends = λ size fit. All-push (EndsIn size) old x (c.loop-at.invariant.ends size fit) (ends_more g.S.Placed.span segments at s x old below c.index-segments-at.is is c.loop-at.invariant.each size (c.interval-interval.ensures.sized size) fit);
        each = each_pushed g.S.Placed.span segments at s x old below c.index-segments-at.is is c.loop-at.invariant.each;
      })
      | else-interval-gt0 w ↦ rw w.intervals-is (record {
        within = omega (arith, below);
        ends = c.loop-at.invariant.ends;
        each = each_empty g.S.Placed.span segments at s x old below c.index-segments-at.is is c.loop-at.invariant.each (omega (arith, w.if-interval-gt0.false));
      })
    ]

pub returns-clause-each : goal.returns-clause-each
returns-clause-each g c =
    let segments = c.args.segments.now in
    subst (λ z. All (λ segment. (size : ℕ) → HasInterval c.loop-at.intervals.items (g.S.Placed.span size segment)) z) (take_all c.loop-at.at segments (omega (arith, c.loop-at-test.false))) c.loop-at.invariant.each
