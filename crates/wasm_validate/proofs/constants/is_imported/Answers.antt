use Rattle.std.proofs.Common.{sym, slice_get}
use Rattle.wasm_typing.proofs.Instructions.{not_found}
use Rattle.wasm_validate.proofs.OneConstant.{of_global, imported_exactly, imported_mutable}
use Rattle.wasm_validate.proofs.constants.is_imported.Goals as goal

pub returns-in_default : goal.returns-in_default
returns-in_default c = λ k. not_found (slice_get c.args.imported.now c.args.index) (of_global k).1 (sym c.in_default.ensures)

pub returns-then-kind : goal.returns-then-kind
returns-then-kind c = imported_mutable c.args.imported.now c.args.index c.in-Some.kind c.args.value (sym c.in-Some.ensures) c.if-kind.true

pub returns : goal.returns
returns c = imported_exactly c.args.imported.now c.args.index c.in-Some.kind c.args.value c.is_same.result (sym c.in-Some.ensures) c.if-kind.false c.is_same.ensures
