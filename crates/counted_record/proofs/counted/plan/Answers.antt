use Rattle.std.proofs.Common.{[], ◌∷◌, ◌++◌, ◌∙◌, ap, length, arith, rules}
use Rattle.std.proofs.lemmas.Fn.{filter_same}
use Rattle.counted_record.specs.inner.Planned.{is_apart}
use Rattle.counted_record.proofs.counted.plan.Goals as goal

pub push_reserved-requires : goal.push_reserved-requires
push_reserved-requires c =
    let kept = filter_same _ (is_apart c.args.site.tile) _ (λ x b f k. search rules) _ _ c.retain.ensures.filtered in
    omega (arith, ap length kept, c.retain.ensures.capacity)

pub returns-clause-items : goal.returns-clause-items
returns-clause-items c =
    c.push_reserved.ensures.items
    ∙ ap (λ l. l ++ c.args.site ∷ []) (filter_same _ (is_apart c.args.site.tile) _ (λ x b f k. search rules) _ _ c.retain.ensures.filtered)
