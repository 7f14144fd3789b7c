use Rattle.wasm_encode.proofs.Exists.{encodable_spelled}
use Rattle.wasm_encode.proofs.encodable.encodable_modules_are_spelled.Goals as goal

pub returns : goal.returns
returns c = encodable_spelled
