use Rattle.std.proofs.Common.{subst, sym}
use Rattle.std.proofs.lemmas.Result.{err_from_is_err_and}
use Rattle.wasm_module.specs.Sections.{module_view}
use Rattle.wasm_module.specs.declared.module.Module.{Module}
use Rattle.wasm_link.specs.Kept.{link_of}
use Rattle.wasm_link.specs.inner.Beginnings.{IsReady}
use Rattle.wasm_link.specs.Linking.{IsFault, IsLinked}
use Rattle.wasm_link.specs.Made.{IsCounted}
use Rattle.wasm_link.proofs.Counts.{are_counted}
use Rattle.wasm_link.proofs.Links.{linkable_memory}
use Rattle.wasm_link.proofs.linked.link.Goals as goal

pub made_of-requires-clause-counted : goal.made_of-requires-clause-counted
made_of-requires-clause-counted c =
    subst (λ (z : Module). IsCounted (module_view z)) (sym c.module-whole.ensures.same) (are_counted c.requires.spelled.0 (module_view c.args.valid) c.requires.spelled.1 c.requires.spelled.2)

pub returns-in_err-made-clause-fault : goal.returns-in_err-made-clause-fault
returns-in_err-made-clause-fault c =
    let p = err_from_is_err_and c.from_residual.result c.from_residual.ensures.1 in
    rw (p.1, p.2) (subst (λ (z : Module). IsFault c.args.sigs.now (module_view z) c.in_err-made.field-0.0) c.module-whole.ensures.same c.in_err-made.ensures.fault)

pub returns-in_err-made-clause-complete : goal.returns-in_err-made-clause-complete
returns-in_err-made-clause-complete c =
    let p = err_from_is_err_and c.from_residual.result c.from_residual.ensures.1 in
    λ linkable. rw (p.1, p.2) (linkable_memory c.args.sigs.now (module_view c.args.valid) c.in_err-made.field-0.0 linkable (subst (λ (z : Module). IsFault c.args.sigs.now (module_view z) c.in_err-made.field-0.0) c.module-whole.ensures.same c.in_err-made.ensures.fault))

pub returns-clause-linked : goal.returns-clause-linked
returns-clause-linked c =
    let parts = c.in_ok-made.made.parts in
    subst (λ (z : Module). IsLinked c.args.sigs.now (module_view z) (link_of (module_view z) parts.functions.items parts.main)) c.module-whole.ensures.same c.in_ok-made.ensures.linked

pub invariant_of-result : goal.invariant_of-result
invariant_of-result c =
    let made = c.in_ok-made.made in
    subst (λ (z : Module). IsReady (module_view z) made.parts.functions.items made.parts.classes.items made.parts.most made.parts.main made.beginning) c.module-whole.ensures.same c.in_ok-made.ensures.ready
