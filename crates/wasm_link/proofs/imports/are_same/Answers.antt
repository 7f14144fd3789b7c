use Rattle.wasm_typing.proofs.Entries.{values_Decides}
use Rattle.wasm_validate.proofs.OneConstant.{exactly_from}
use Rattle.std.proofs.lemmas.Slice.Eq.{slice_eq-Decides}
use Rattle.wasm_link.proofs.imports.are_same.Goals as goal

pub returns : goal.returns
returns c = exactly_from _ (slice_eq-Decides values_Decides c.args.one.now c.args.other.now c.eq.result c.eq.ensures)
