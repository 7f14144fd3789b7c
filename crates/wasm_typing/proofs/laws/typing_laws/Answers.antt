use Rattle.wasm_typing.proofs.Parts.{are_cut, are_joined, stand_higher, begins_typed}
use Rattle.wasm_typing.proofs.laws.typing_laws.Goals as goal

pub returns-clause-cut : goal.returns-clause-cut
returns-clause-cut c = are_cut

pub returns-clause-joined : goal.returns-clause-joined
returns-clause-joined c = are_joined

pub returns-clause-higher : goal.returns-clause-higher
returns-clause-higher c = stand_higher

pub returns-clause-begins : goal.returns-clause-begins
returns-clause-begins c = begins_typed
