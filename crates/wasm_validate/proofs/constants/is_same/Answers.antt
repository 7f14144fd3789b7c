use Rattle.wasm_typing.proofs.Entries.{values_Decides}
use Rattle.wasm_validate.proofs.OneConstant.{exactly_from}
use Rattle.wasm_validate.proofs.constants.is_same.Goals as goal

pub returns : goal.returns
returns c = rw c.eq.ensures (exactly_from _ (values_Decides c.args.one c.args.other))
