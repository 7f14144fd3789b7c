use Rattle.std.proofs.Common.{subst, sym, ap, IfSome, Option, ℕ}
use Rattle.wasm_module.specs.Sections.{module_view}
use Rattle.wasm_module.specs.declared.module.Module.{Module}
use Rattle.wasm_link.specs.Callee.{IsEntry}
use Rattle.wasm_link.specs.Kept.{Kept, link_view}
use Rattle.wasm_link.specs.Made.{program_of}
use Rattle.wasm_link.proofs.Uses.{kept_start}
use Rattle.wasm_link.proofs.linked.Linked.start.Goals as goal

pub returns-clause-entry : goal.returns-clause-entry
returns-clause-entry c =
    let i = c.self.inside in
    let base = kept_start (module_view i.valid) i.functions.items i.classes.items i.most i.main c.module.ensures.valid c.self.invariant.kept in
    subst (λ (z : Kept). IfSome c.module.result.now.start (IsEntry (link_view z).program)) c.self.view_is
    (subst (λ (o : Option ℕ). IfSome o (IsEntry (program_of (module_view i.valid) i.functions.items))) (sym (ap (λ (z : Module). z.start) c.module.ensures.same)) base)
