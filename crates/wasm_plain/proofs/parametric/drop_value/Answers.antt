use Rattle.wasm_stack.specs.Standing.{held}
use Rattle.wasm_plain.proofs.Operands.{drop_found, drop_done}
use Rattle.wasm_plain.proofs.parametric.drop_value.Goals as goal

pub discard-requires : goal.discard-requires
discard-requires c = drop_found c.requires.1

pub returns : goal.returns
returns c = λ store. drop_done c.requires.1 store (held c.discard.new.self) c.discard.ensures
