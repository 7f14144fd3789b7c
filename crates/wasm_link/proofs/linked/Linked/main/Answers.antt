use Rattle.std.proofs.Common.{subst}
use Rattle.wasm_module.specs.Sections.{module_view}
use Rattle.wasm_typing.specs.Context.{module_context}
use Rattle.wasm_soundness.specs.Typed.{IsTypedProgram}
use Rattle.wasm_link.specs.Callee.{IsEntry}
use Rattle.wasm_link.specs.Kept.{Kept, link_view}
use Rattle.wasm_link.proofs.Uses.{kept_main, kept_typed}
use Rattle.wasm_link.proofs.linked.Linked.main.Goals as goal

pub returns-clause-entry : goal.returns-clause-entry
returns-clause-entry c =
    let i = c.self.inside in
    subst (λ (z : Kept). IsEntry (link_view z).program (link_view z).main) c.self.view_is (kept_main (module_view i.valid) i.functions.items i.classes.items i.most i.main c.module-valid.ensures.valid c.self.invariant.kept)

pub returns-clause-typed : goal.returns-clause-typed
returns-clause-typed c =
    let i = c.self.inside in
    subst (λ (z : Kept). IsTypedProgram (module_context (link_view z).whole) (link_view z).program) c.self.view_is (kept_typed (module_view i.valid) i.functions.items i.classes.items i.most i.main c.module-valid.ensures.valid c.self.invariant.kept)
