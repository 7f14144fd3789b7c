use Rattle.std.proofs.Common.{◌<◌, ◌∙◌, subst, sym, ap, length, map, arith}
use Rattle.std.proofs.lemmas.List.{length-map}
use Rattle.wasm_module.specs.Sections.{module_view}
use Rattle.wasm_module.specs.declared.module.Module.{Module}
use Rattle.wasm_link.specs.Kept.{Kept, link_view}
use Rattle.wasm_link.specs.Made.{function_of}
use Rattle.wasm_link.proofs.Each.{read_at}
use Rattle.wasm_link.proofs.Uses.{IsDefinedAt, defined_call}
use Rattle.wasm_link.proofs.linked.Linked.callee.Goals as goal

pub returns-in-Defined : goal.returns-in-Defined
returns-in-Defined c =
    let i = c.self.inside in
    let m = module_view i.valid in
    let functions = i.functions.items in
    let e = c.index.result.now in
    let d = c.in-Defined in
    let few : c.args.func < length (map (function_of m) functions) = subst (λ (z : Kept). c.args.func < length (link_view z).program.functions) (sym c.self.view_is) c.requires in
    let size = length-map functions (function_of m) in
    let is = read_at functions c.args.func e (omega (arith, few, size)) c.index.ensures in
    subst (λ (z : Kept). IsDefinedAt (link_view z).program c.args.func d.params d.more d.results c.as_slice-in-Defined-2.result.now) c.self.view_is
    (defined_call i.valid functions c.args.func e d.kind d.place d.params d.more d.results c.as_slice-in-Defined.result.now c.index-as_slice-place.result c.as_slice-in-Defined-2.result.now is c.self.invariant.kept.entries d.is
    (c.as_slice-in-Defined.ensures ∙ ap (λ (z : Module). z.codes) c.module-whole.ensures.same) c.as_slice-in-Defined-2.ensures)
