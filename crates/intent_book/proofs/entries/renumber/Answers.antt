use Rattle.std.proofs.Common.{◌+◌, ◌∙◌, ap, sym, subst, refl, arith}
use Rattle.indexmap.specs.IndexMap.{index_map_len, spare}
use Rattle.indexmap.proofs.CallerLemmas.{index_map_len-with_value_at}
use Rattle.intent_book.proofs.Numbers.{Renumbered, renumbered-write, renumbered-all}
use Rattle.intent_book.proofs.entries.renumber.Goals as goal

pub loop-at-preserved : goal.loop-at-preserved
loop-at-preserved c = (
  subst (λ l. Renumbered c.args.next c.args.entries.now.entries l (c.loop-at.free + 1) (c.in-Some.kept.order + 1)) (sym (ap (λ m. m.entries) c.write_at.ensures))
      (renumbered-write c.args.next c.args.entries.now.entries c.loop-at.entries.entries c.loop-at.free c.loop-at.from c.in-Some.at c.in-Some.kept _ c.loop-at.invariant.0 c.in-Some.ensures refl refl),
  ap index_map_len c.write_at.ensures ∙ index_map_len-with_value_at c.loop-at.entries c.in-Some.at _ ∙ c.loop-at.invariant.1,
  ap spare c.write_at.ensures ∙ c.loop-at.invariant.2,
)

pub returns-clause-list : goal.returns-clause-list
returns-clause-list c = (renumbered-all c.args.next c.args.entries.now.entries c.loop-at.entries.entries c.loop-at.free c.loop-at.from c.loop-at.invariant.0 c.in_default.ensures).0

pub returns-clause-kept : goal.returns-clause-kept
returns-clause-kept c = (renumbered-all c.args.next c.args.entries.now.entries c.loop-at.entries.entries c.loop-at.free c.loop-at.from c.loop-at.invariant.0 c.in_default.ensures).1

pub returns-clause-free : goal.returns-clause-free
returns-clause-free c =
    omega (arith, (renumbered-all c.args.next c.args.entries.now.entries c.loop-at.entries.entries c.loop-at.free c.loop-at.from c.loop-at.invariant.0 c.in_default.ensures).2, c.loop-at.invariant.1, c.requires.most)
