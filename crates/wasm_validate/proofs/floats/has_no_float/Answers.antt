use Rattle.std.proofs.Common.{Bool, true, false, All}
use Rattle.std.proofs.lemmas.List.Elements.{All-map}
use Rattle.wasm_module.specs.Sections.{module_view}
use Rattle.wasm_module.specs.Entries.{Global, Elements, Function, Data, global_view, element_view, code_view, segment_view}
use Rattle.wasm_values.specs.Syntax.{Ops}
use Rattle.wasm_module.specs.declared.module.Module.{Module}
use Rattle.wasm_validate.specs.Floats.{HasNoFloat, TypeHasNoFloat, ImportHasNoFloat, IsInteger, OpsHaveNoFloat}
use Rattle.wasm_typing.specs.inner.Stands.{Exactly}
use Rattle.wasm_typing.proofs.Imported.{unmapped}
use Rattle.wasm_validate.proofs.floats.has_no_float.Goals as goal

last : (m : Module) (b : Bool) → All TypeHasNoFloat m.types → All (λ entry. ImportHasNoFloat entry.desc) m.imports
    → All (λ entry. IsInteger (global_view entry).0.value × OpsHaveNoFloat (global_view entry).1) m.globals → All (λ entry. OpsHaveNoFloat (element_view entry).1.0) m.elements
    → All (λ entry. All (λ run. IsInteger run.value) (code_view entry).0) m.codes → All (λ entry. OpsHaveNoFloat (code_view entry).1) m.codes
    → Exactly (All (λ entry. OpsHaveNoFloat (segment_view entry).1.0) m.segments) b → Exactly (HasNoFloat (module_view m)) b
last m true types imports globals elements locals bodies segments = record {
  types = types;
  imports = imports;
  globals = All-map (λ global. IsInteger global.0.value × OpsHaveNoFloat global.1) global_view m.globals globals;
  elements = All-map (λ segment. OpsHaveNoFloat segment.1.0) element_view m.elements elements;
  locals = All-map (λ function. All (λ run. IsInteger run.value) function.0) code_view m.codes locals;
  bodies = All-map (λ function. OpsHaveNoFloat function.1) code_view m.codes bodies;
  segments = All-map (λ segment. OpsHaveNoFloat segment.1.0) segment_view m.segments segments;
}
last m false types imports globals elements locals bodies segments = λ h. segments (unmapped (λ (segment : Data Ops). OpsHaveNoFloat segment.1.0) segment_view m.segments h.segments)

pub returns-then-not-all_hold-3 : goal.returns-then-not-all_hold-3
returns-then-not-all_hold-3 c = λ h. c.if-not-all_hold-3.ensures (unmapped (λ (global : Global Ops). IsInteger global.0.value × OpsHaveNoFloat global.1) global_view c.args.whole.now.globals h.globals)

pub returns-then-not-all_hold-4 : goal.returns-then-not-all_hold-4
returns-then-not-all_hold-4 c = λ h. c.if-not-all_hold-4.ensures (unmapped (λ (segment : Elements Ops). OpsHaveNoFloat segment.1.0) element_view c.args.whole.now.elements h.elements)

pub returns-then-not-all_hold-5 : goal.returns-then-not-all_hold-5
returns-then-not-all_hold-5 c = λ h. c.if-not-all_hold-5.ensures (unmapped (λ (function : Function Ops). All (λ run. IsInteger run.value) function.0) code_view c.args.whole.now.codes h.locals)

pub returns-then-not-all_hold-6 : goal.returns-then-not-all_hold-6
returns-then-not-all_hold-6 c = λ h. c.if-not-all_hold-6.ensures (unmapped (λ (function : Function Ops). OpsHaveNoFloat function.1) code_view c.args.whole.now.codes h.bodies)

pub returns : goal.returns
returns c = last c.args.whole.now c.all_hold-7.result c.if-not-all_hold.ensures c.if-not-all_hold-2.ensures c.if-not-all_hold-3.ensures c.if-not-all_hold-4.ensures c.if-not-all_hold-5.ensures c.if-not-all_hold-6.ensures c.all_hold-7.ensures
