use Rattle.std.proofs.Common.{List, Bool, true, false, All}
use Rattle.std.proofs.lemmas.List.Elements.{All-map}
use Rattle.wasm_module.specs.Sections.{module_view}
use Rattle.wasm_module.specs.Entries.{Global, Elements, Data, global_view, element_view, segment_view}
use Rattle.wasm_values.specs.Syntax.{Ops}
use Rattle.wasm_module.specs.declared.module.Module.{Module}
use Rattle.wasm_values.specs.declared.types.GlobalType.{GlobalType}
use Rattle.wasm_typing.specs.Context.{Context}
use Rattle.wasm_validate.specs.inner.Groups.{AreMade}
use Rattle.wasm_validate.specs.Modules.{IsGlobal, IsElements, IsData, IsStart, Exists}
use Rattle.wasm_typing.specs.inner.Stands.{Exactly}
use Rattle.wasm_typing.specs.Views.{context_view}
use Rattle.wasm_typing.proofs.Imported.{unmapped}
use Rattle.wasm_validate.proofs.rules.are_made.Goals as goal

last : (cx : Context) (imported : List GlobalType) (m : Module) (b : Bool) → All (λ entry. IsGlobal imported (global_view entry)) m.globals
    → All (λ entry. IsElements cx imported (element_view entry)) m.elements → All (λ entry. IsData cx imported (segment_view entry)) m.segments → IsStart cx m.start
    → Exactly (All (λ entry. Exists cx entry.desc) m.exports) b → Exactly (AreMade cx imported (module_view m)) b
last cx imported m true globals elements segments start exports = record {
  globals = All-map (IsGlobal imported) global_view m.globals globals;
  elements = All-map (IsElements cx imported) element_view m.elements elements;
  segments = All-map (IsData cx imported) segment_view m.segments segments;
  start = start;
  exports = exports;
}
last cx imported m false globals elements segments start exports = λ h. exports h.exports

pub returns-then-not-all_hold : goal.returns-then-not-all_hold
returns-then-not-all_hold c = λ h. c.if-not-all_hold.ensures (unmapped (λ (global : Global Ops). IsGlobal c.args.imported.now global) global_view c.args.whole.now.globals h.globals)

pub returns-then-not-all_hold-2 : goal.returns-then-not-all_hold-2
returns-then-not-all_hold-2 c = λ h. c.if-not-all_hold-2.ensures (unmapped (λ (segment : Elements Ops). IsElements (context_view c.args.context.now) c.args.imported.now segment) element_view c.args.whole.now.elements h.elements)

pub returns-then-not-all_hold-3 : goal.returns-then-not-all_hold-3
returns-then-not-all_hold-3 c = λ h. c.if-not-all_hold-3.ensures (unmapped (λ (segment : Data Ops). IsData (context_view c.args.context.now) c.args.imported.now segment) segment_view c.args.whole.now.segments h.segments)

pub returns : goal.returns
returns c = last (context_view c.args.context.now) c.args.imported.now c.args.whole.now c.all_hold-4.result c.if-not-all_hold.ensures c.if-not-all_hold-2.ensures c.if-not-all_hold-3.ensures c.if-not-is_start.ensures c.all_hold-4.ensures
