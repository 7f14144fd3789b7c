use Rattle.std.proofs.Common.{◌+◌, take, subst, sym, ◌∙◌, arith}
use Rattle.std.proofs.lemmas.Bool.{true≢false}
use Rattle.intent_book.specs.inner.Numbered.{Finds}
use Rattle.intent_book.proofs.Numbers.{finds-skip, finds-more, take-snoc}
use Rattle.intent_book.proofs.entries.next_kept.Goals as goal
use Rattle.intent_book.proofs.entries.next_kept.Goals.{in-Some+then-kept-from, in-Some+else-kept-from, in_default}

pub loop-at-preserved : goal.loop-at-preserved
loop-at-preserved c =
    let es = c.args.entries.now.entries in
    let i = c.loop-at.at in
    elim c.match-get_index.branch [
      | in-Some+then-kept-from w ↦
          let there = sym w.in-Some.ensures.entry in
          subst (λ o. Finds es c.args.from o (take (i + 1) es)) (sym (w.least-is ∙ w.lower-least.ensures))
          (subst (Finds es c.args.from _) (sym (take-snoc es i (w.in-Some.field-0-0.now, w.in-Some.kept.now) there)) (finds-more es (take i es) c.args.from i c.loop-at.least _ _ there w.if-kept-from.true c.loop-at.invariant))
      | in-Some+else-kept-from w ↦
          let there = sym w.in-Some.ensures.entry in
          subst (λ o. Finds es c.args.from o (take (i + 1) es)) (sym w.least-is)
          (subst (Finds es c.args.from _) (sym (take-snoc es i (w.in-Some.field-0-0.now, w.in-Some.kept.now) there)) (finds-skip es (take i es) c.args.from c.loop-at.least w.in-Some.field-0-0.now w.in-Some.kept.now w.if-kept-from.false c.loop-at.invariant))
      | in_default w ↦ absurd (true≢false (sym (w.in_default.ensures.found.1 (omega (arith, c.loop-at-test.true, c.len-at-end.ensures.len)))))
    ]
