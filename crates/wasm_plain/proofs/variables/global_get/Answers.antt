use Rattle.wasm_stack.specs.Standing.{held}
use Rattle.wasm_plain.proofs.Globals.{get_found, get_done}
use Rattle.wasm_plain.proofs.variables.global_get.Goals as goal

pub get-value-requires : goal.get-value-requires
get-value-requires c = get_found c.args.globals.now c.requires.1 c.requires.2

pub returns : goal.returns
returns c = λ store is. get_done c.args.globals.now c.requires.1 c.requires.2 store is c.push.result (held c.push.new.stack) c.get-value.result c.get-value.ensures c.push.ensures
