use Rattle.std.proofs.Common.{◌≡◌, ◌<◌, ◌∙◌, subst, sym, ap, Some, slice_get, length, map, arith}
use Rattle.std.proofs.lemmas.List.{length-map}
use Rattle.wasm_module.specs.Sections.{module_view}
use Rattle.wasm_link.specs.Kept.{Kept, link_view}
use Rattle.wasm_link.specs.Made.{function_of, kind_of}
use Rattle.wasm_link.proofs.Each.{read_at}
use Rattle.wasm_link.proofs.Uses.{HasTypeAt, has_type_by, kind_below}
use Rattle.wasm_link.proofs.linked.Linked.has_type.Goals as goal

pub returns : goal.returns
returns c =
    let i = c.self.inside in
    let m = module_view i.valid in
    let functions = i.functions.items in
    let classes = i.classes.items in
    let e = c.index.result.now in
    let few : c.args.func < length (map (function_of m) functions) = subst (λ (z : Kept). c.args.func < length (link_view z).program.functions) (sym c.self.view_is) c.requires.func in
    let within : c.args.index < length m.types = subst (λ (z : Kept). c.args.index < length (link_view z).program.types) (sym c.self.view_is) c.requires.index in
    let size = length-map functions (function_of m) in
    let is = read_at functions c.args.func e (omega (arith, few, size)) c.index.ensures in
    let below = kind_below m functions classes c.self.invariant.kept.entries c.self.invariant.kept.classes c.args.func c.args.index e is in
    let first : slice_get classes (kind_of e) ≡ Some c.index-2.result.now =
    ap (slice_get classes) (sym c.kind-kind.ensures) ∙ read_at classes c.kind-kind.result c.index-2.result.now (omega (arith, below, c.kind-kind.ensures)) c.index-2.ensures in
    let second : slice_get classes c.args.index ≡ Some c.index-3.result.now = read_at classes c.args.index c.index-3.result.now (omega (arith, within, c.self.invariant.kept.classes.count)) c.index-3.ensures in
    subst (λ (z : Kept). HasTypeAt (link_view z).program c.args.func c.args.index c.index-2.result.now c.index-3.result.now) c.self.view_is
    (has_type_by m functions classes c.self.invariant.kept.entries c.self.invariant.kept.classes c.args.func c.args.index e is within c.index-2.result.now c.index-3.result.now first second)
