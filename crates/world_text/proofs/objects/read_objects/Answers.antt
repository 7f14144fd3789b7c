use Rattle.std.proofs.Common.{rules}
use Rattle.std.proofs.lemmas.Result.{err_from_is_err_and}
use Rattle.std.proofs.lemmas.List.Sorted.{IsNonDecreasingBy-from_sort_by_key}
use Rattle.serde_json.specs.View.{view, items_view}
use Rattle.world_form.specs.declared.field.Field.TheVariants as fields
use Rattle.world_form.specs.FirstFaults.{object_checks}
use Rattle.world_text.proofs.Turns.{list_fault}
use Rattle.world_text.proofs.objects.read_objects.Goals as goal

pub returns-in_err-objects-clause-err : goal.returns-in_err-objects-clause-err
returns-in_err-objects-clause-err c =
    let p = err_from_is_err_and c.from_residual-in_err-objects.result c.from_residual-in_err-objects.ensures.1 in
    rw (p.1, p.2) (λ other. list_fault fields.Objects object_checks c.args.place (view c.args.part.now) (items_view c.in_ok-values.values.now) _ c.in_ok-values.ensures.ok (c.in_err-objects.ensures.err other))

pub returns-clause-ok : goal.returns-clause-ok
returns-clause-ok c =
    let there = c.in_ok-values.ensures.ok in
    let sorted = c.sort_unstable_by_key.new.self.items in (
      c.in_ok-objects.objects.items,
      (there.0, there.1, (items_view c.in_ok-values.values.now, there.2, c.in_ok-objects.ensures.ok)),
      record { moved = c.sort_unstable_by_key.ensures.permutation; order = IsNonDecreasingBy-from_sort_by_key (λ object. object.id) sorted c.sort_unstable_by_key.ensures.sorted (λ a r q k. search rules) },
    )
