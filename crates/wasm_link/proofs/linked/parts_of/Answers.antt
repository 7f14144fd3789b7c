use Rattle.std.proofs.Common.{◌∙◌, ap, sym, subst, List, ℕ, map}
use Rattle.std.proofs.lemmas.Result.{err_from_is_err_and}
use Rattle.wasm_module.specs.Sections.{module_view}
use Rattle.wasm_values.specs.declared.types.FuncType.{FuncType}
use Rattle.wasm_link.specs.declared.entries.Entry.{Entry}
use Rattle.wasm_link.specs.Made.{AreOwn, AreNamed, AreClasses, kind_of}
use Rattle.wasm_link.proofs.Links.{named_whole, imported_whole, other_fault, no_loop_by, has_loop_by, kinds_hold, linked_by, kept_by, joined_kinds}
use Rattle.wasm_link.proofs.Names.{all_known}
use Rattle.wasm_link.proofs.linked.parts_of.Goals as goal

pub returns-in_err-functions-clause-fault : goal.returns-in_err-functions-clause-fault
returns-in_err-functions-clause-fault c =
    let m = module_view c.args.whole.now in
    let p = err_from_is_err_and c.from_residual-in_err-functions.result c.from_residual-in_err-functions.ensures.1 in
    rw (p.1, p.2) (other_fault m c.args.sigs.now c.as_slice-types.result.now c.as_slice-imports.result.now c.as_slice-types.ensures c.as_slice-imports.ensures _ (all_known c.args.sigs.now c.as_slice-imports.result.now c.in_ok-calls.calls.items c.in_ok-calls.ensures.named) c.in_err-functions.ensures.fault)

pub returns-in_default-clause-fault : goal.returns-in_default-clause-fault
returns-in_default-clause-fault c =
    let m = module_view c.args.whole.now in
    let sigs = c.args.sigs.now in
    let types = c.as_slice-types.result.now in
    let imports = c.as_slice-imports.result.now in
    let first = c.in_ok-functions.functions.items in
    let own = c.as_slice-3.result.now in
    let functions = c.extend_from_slice.new.self.items in
    let owned : AreOwn m own = subst (λ (z : List Entry). AreOwn m z) (sym c.as_slice-3.ensures.value) c.in_ok-own.ensures.own in
    let are_imported = imported_whole m sigs types imports c.as_slice-types.ensures c.as_slice-imports.ensures first c.in_ok-functions.ensures.imported in
    let kinds = joined_kinds m imports first own functions c.as_slice-4.result.now c.as_slice-imports.ensures c.as_slice-4.ensures.value c.in_ok-extend_from_slice.ensures.items c.in_ok-functions.ensures.kinds (ap (map kind_of) c.as_slice-3.ensures.value ∙ c.in_ok-own.ensures.kinds) in
    (kinds_hold m sigs first own functions are_imported owned c.in_ok-extend_from_slice.ensures.items, no_loop_by m types _ c.as_slice-5.result.now c.as_slice-types.ensures kinds c.as_slice-5.ensures c.in_default.ensures)

pub returns-in-Some-first_misfit-clause-fault : goal.returns-in-Some-first_misfit-clause-fault
returns-in-Some-first_misfit-clause-fault c =
    let m = module_view c.args.whole.now in
    let sigs = c.args.sigs.now in
    let types = c.as_slice-types.result.now in
    let imports = c.as_slice-imports.result.now in
    let first = c.in_ok-functions.functions.items in
    let own = c.as_slice-3.result.now in
    let functions = c.extend_from_slice.new.self.items in
    let owned : AreOwn m own = subst (λ (z : List Entry). AreOwn m z) (sym c.as_slice-3.ensures.value) c.in_ok-own.ensures.own in
    let are_imported = imported_whole m sigs types imports c.as_slice-types.ensures c.as_slice-imports.ensures first c.in_ok-functions.ensures.imported in
    let kinds = joined_kinds m imports first own functions c.as_slice-4.result.now c.as_slice-imports.ensures c.as_slice-4.ensures.value c.in_ok-extend_from_slice.ensures.items c.in_ok-functions.ensures.kinds (ap (map kind_of) c.as_slice-3.ensures.value ∙ c.in_ok-own.ensures.kinds) in (
      kinds_hold m sigs first own functions are_imported owned c.in_ok-extend_from_slice.ensures.items,
      c.in-Some.main,
      has_loop_by m types _ c.as_slice-5.result.now c.as_slice-types.ensures kinds c.as_slice-5.ensures c.in-Some.main c.in-Some.ensures,
      c.in-Some-first_misfit.ensures,
    )

pub returns-clause-kept : goal.returns-clause-kept
returns-clause-kept c =
    let m = module_view c.args.whole.now in
    let sigs = c.args.sigs.now in
    let types = c.as_slice-types.result.now in
    let imports = c.as_slice-imports.result.now in
    let first = c.in_ok-functions.functions.items in
    let own = c.as_slice-3.result.now in
    let functions = c.extend_from_slice.new.self.items in
    let owned : AreOwn m own = subst (λ (z : List Entry). AreOwn m z) (sym c.as_slice-3.ensures.value) c.in_ok-own.ensures.own in
    let are_imported = imported_whole m sigs types imports c.as_slice-types.ensures c.as_slice-imports.ensures first c.in_ok-functions.ensures.imported in
    let kinds = joined_kinds m imports first own functions c.as_slice-4.result.now c.as_slice-imports.ensures c.as_slice-4.ensures.value c.in_ok-extend_from_slice.ensures.items c.in_ok-functions.ensures.kinds (ap (map kind_of) c.as_slice-3.ensures.value ∙ c.in_ok-own.ensures.kinds) in
    let has = has_loop_by m types _ c.as_slice-5.result.now c.as_slice-types.ensures kinds c.as_slice-5.ensures c.in-Some.main c.in-Some.ensures in
    let named : AreNamed sigs imports c.as_slice.result.now = subst (λ (z : List ℕ). AreNamed sigs imports z) (sym c.as_slice.ensures.value) c.in_ok-calls.ensures.named in
    let classes = subst (λ (z : List FuncType). AreClasses z c.in_ok-classes.classes.items) c.as_slice-types.ensures c.in_ok-classes.ensures in
    kept_by m sigs first own functions are_imported owned c.in_ok-extend_from_slice.ensures.items c.in-Some.main c.most_params-most.result c.in_ok-classes.classes.items c.as_slice.result.now has c.in_default-first_misfit.ensures c.requires.valid c.requires.within c.requires.counted c.requires.busy classes
    (named_whole m sigs types imports c.as_slice-types.ensures c.as_slice-imports.ensures c.as_slice.result.now named) c.most_params-most.ensures

pub returns-clause-linked : goal.returns-clause-linked
returns-clause-linked c =
    let m = module_view c.args.whole.now in
    let sigs = c.args.sigs.now in
    let types = c.as_slice-types.result.now in
    let imports = c.as_slice-imports.result.now in
    let first = c.in_ok-functions.functions.items in
    let own = c.as_slice-3.result.now in
    let functions = c.extend_from_slice.new.self.items in
    let owned : AreOwn m own = subst (λ (z : List Entry). AreOwn m z) (sym c.as_slice-3.ensures.value) c.in_ok-own.ensures.own in
    let are_imported = imported_whole m sigs types imports c.as_slice-types.ensures c.as_slice-imports.ensures first c.in_ok-functions.ensures.imported in
    let kinds = joined_kinds m imports first own functions c.as_slice-4.result.now c.as_slice-imports.ensures c.as_slice-4.ensures.value c.in_ok-extend_from_slice.ensures.items c.in_ok-functions.ensures.kinds (ap (map kind_of) c.as_slice-3.ensures.value ∙ c.in_ok-own.ensures.kinds) in
    let has = has_loop_by m types _ c.as_slice-5.result.now c.as_slice-types.ensures kinds c.as_slice-5.ensures c.in-Some.main c.in-Some.ensures in
    linked_by m sigs first own functions are_imported owned c.in_ok-extend_from_slice.ensures.items c.in-Some.main has c.in_default-first_misfit.ensures
