use Rattle.std.proofs.Common.{◌∙◌, ap, sym, slice_get, arith}
use Rattle.intent_book.proofs.Numbers.{nth-past, nth-found, next-below, length-next}
use Rattle.intent_book.proofs.recorded.Recorded.nth.Goals as goal

pub returns-in-None : goal.returns-in-None
returns-in-None c =
    sym (ap (λ r. slice_get r.entries c.args.i) (sym c.self.view_is) ∙ nth-past c.self.inside.next c.loop-done.from c.args.i c.self.inside.entries.entries c.loop-done.invariant.0 c.in-None.ensures (omega (arith, c.loop-done.invariant.1, c.loop-done-test.true)))

pub returns-in-None-next_kept : goal.returns-in-None-next_kept
returns-in-None-next_kept c =
    sym (ap (λ r. slice_get r.entries c.args.i) (sym c.self.view_is) ∙ nth-past c.self.inside.next c.loop-done.from c.args.i c.self.inside.entries.entries c.loop-done.invariant.0 c.in-None-next_kept.ensures (omega (arith, c.loop-done.invariant.1, c.loop-done.auto._done-end)))

pub returns-in-Some-get_index : goal.returns-in-Some-get_index
returns-in-Some-get_index c =
    let n = c.self.inside.next in
    let es = c.self.inside.entries.entries in
    sym (ap (λ r. slice_get r.entries c.args.i) (sym c.self.view_is)
    ∙ nth-found n c.loop-done.from c.args.i c.in-Some-next_kept.at es c.in-Some-next_kept.field-0-1 (c.in-Some-get_index.field-0-0.now, c.in-Some-get_index.kept.now) c.self.invariant.kept c.in-Some-next_kept.ensures
    (omega (arith, c.loop-done.invariant.1, c.loop-done.auto._done-end, c.loop-done-test.false)) (sym c.in-Some-get_index.ensures.entry))

pub loop-done-preserved : goal.loop-done-preserved
loop-done-preserved c =
    let n = c.self.inside.next in
    let es = c.self.inside.entries.entries in
    let below = next-below n c.loop-done.from _ es c.in-Some.kept c.self.invariant.kept c.in-Some.ensures in
    (omega (arith, below), length-next n c.loop-done.from c.loop-done._done _ es c.in-Some.kept c.self.invariant.kept c.in-Some.ensures c.loop-done.invariant.1)

pub overflow_add-from : goal.overflow_add-from
overflow_add-from c =
    omega (arith, next-below c.self.inside.next c.loop-done.from _ c.self.inside.entries.entries c.in-Some.kept c.self.invariant.kept c.in-Some.ensures, c.self.invariant.below)
