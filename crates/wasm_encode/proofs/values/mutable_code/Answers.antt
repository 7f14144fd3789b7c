use Rattle.wasm_values.specs.Values.{spells_constant, spells_variable}
use Rattle.wasm_encode.proofs.values.mutable_code.Goals as goal

pub returns-then-mutable : goal.returns-then-mutable
returns-then-mutable c = rw c.if-mutable.true spells_variable

pub returns-else-mutable : goal.returns-else-mutable
returns-else-mutable c = rw c.if-mutable.false spells_constant
