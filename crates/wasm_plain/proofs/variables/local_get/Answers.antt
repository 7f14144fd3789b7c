use Rattle.wasm_stack.specs.Standing.{held}
use Rattle.wasm_plain.proofs.Locals.{get_found, get_done}
use Rattle.wasm_plain.proofs.variables.local_get.Goals as goal

pub local-value-requires : goal.local-value-requires
local-value-requires c = get_found c.requires.1

pub returns : goal.returns
returns c = λ store. get_done c.requires.1 store c.push.result (held c.push.new.stack) c.local-value.result c.local-value.ensures c.push.ensures
