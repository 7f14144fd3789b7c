use Rattle.std.proofs.Common.{◌≡◌, ◌∙◌, ap, length}
use Rattle.wasm_module.specs.Sections.{module_view}
use Rattle.wasm_typing.specs.Context.{imported_globals}
use Rattle.wasm_typing.specs.Views.{context_view}
use Rattle.wasm_validate.proofs.Whole.{imported_part, all_checked, not_declared, not_made, not_named}
use Rattle.wasm_validate.proofs.valid.is_valid_in.Goals as goal

pub returns : goal.returns
returns c =
    let m = c.args.whole.now in
    let cx = context_view c.args.context.now in
    let is = c.requires in
    let imported = c.imported-imported.result.now in
    let is_imported : imported ≡ imported_globals (module_view m) = c.imported-imported.ensures ∙ imported_part m cx (length c.as_slice-own.result.now) is (ap length c.as_slice-own.ensures) in
    let names = rw c.if-not-branch.false at c.in_ok-names_differ.ensures in
    all_checked m cx is imported c.as_slice.result.now c.as_slice-2.result.now c.as_slice-3.result.now is_imported c.as_slice.ensures c.as_slice-2.ensures c.as_slice-3.ensures
    c.if-not-are_declared.ensures c.if-not-are_made.ensures names c.are_functions.result c.are_functions.ensures

pub returns-then-not-are_declared : goal.returns-then-not-are_declared
returns-then-not-are_declared c = not_declared c.args.whole.now (context_view c.args.context.now) c.requires c.if-not-are_declared.ensures

pub returns-then-not-are_made : goal.returns-then-not-are_made
returns-then-not-are_made c =
    let m = c.args.whole.now in
    let cx = context_view c.args.context.now in
    let imported = c.imported-imported.result.now in
    let is_imported : imported ≡ imported_globals (module_view m) = c.imported-imported.ensures ∙ imported_part m cx (length c.as_slice-own.result.now) c.requires (ap length c.as_slice-own.ensures) in
    not_made m cx c.requires imported is_imported c.if-not-are_made.ensures

pub returns-then-not-branch : goal.returns-then-not-branch
returns-then-not-branch c = not_named c.args.whole.now c.as_slice.result.now c.as_slice.ensures (rw c.if-not-branch.true at c.in_ok-names_differ.ensures)
