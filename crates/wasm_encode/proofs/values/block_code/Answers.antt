use Rattle.wasm_values.specs.Values.{spells_no_result, spells_one_result}
use Rattle.wasm_encode.proofs.values.block_code.Goals as goal

pub returns-in-None : goal.returns-in-None
returns-in-None c = rw c.in-None.is spells_no_result

pub returns-in-Some : goal.returns-in-Some
returns-in-Some c = rw c.in-Some.is (spells_one_result c.val_code.ensures)
