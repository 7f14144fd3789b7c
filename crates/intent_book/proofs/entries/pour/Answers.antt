use Rattle.std.proofs.Common.{◌≤◌, ◌++◌, ◌∷◌, [], subst, sym, ap, ◌∙◌, arith, vec_capacity}
use Rattle.std.proofs.lemmas.Bool.{true≢false}
use Rattle.indexmap.specs.IndexMap.{index_map_len}
use Rattle.intent_book.proofs.Numbers.{intents-more}
use Rattle.intent_book.proofs.entries.pour.Goals as goal
use Rattle.intent_book.proofs.entries.pour.Goals.{in-Some, in_default}

pub loop-at-preserved : goal.loop-at-preserved
loop-at-preserved c =
    elim c.match-get_index.branch [
      | in-Some w ↦ (
        ap (λ v. v.items) w.list-is
            ∙ w.push_reserved.ensures.items
            ∙ ap (λ l. l ++ w.in-Some.kept.now.intent ∷ []) c.loop-at.invariant.0
            ∙ sym (intents-more c.args.entries.now.entries c.loop-at.at (w.in-Some.field-0-0.now, w.in-Some.kept.now) (sym w.in-Some.ensures.entry)),
        subst (λ v. index_map_len c.args.entries.now ≤ vec_capacity v) (sym w.list-is) (subst (λ n. index_map_len c.args.entries.now ≤ n) (sym w.push_reserved.ensures.capacity) c.loop-at.invariant.1),
      )
      | in_default w ↦ absurd (true≢false (sym (w.in_default.ensures.found.1 (omega (arith, c.loop-at-test.true, c.len-at-end.ensures.len)))))
    ]
