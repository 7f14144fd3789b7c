use Rattle.wasm_typing.specs.Typing.{return_typed}
use Rattle.wasm_typing.proofs.Images.{leaves_image, leaves_none}
use Rattle.wasm_typing.proofs.Instructions.{leaves_return}
use Rattle.wasm_typing.proofs.branches.leave_function.Goals as goal

pub returns-then-not-pop_kind : goal.returns-then-not-pop_kind
returns-then-not-pop_kind c = λ labels. leaves_none leaves_return c.if-not-pop_kind.ensures

pub returns : goal.returns
returns c = λ labels. leaves_image (λ from to. return_typed from) leaves_return c.pop_kind.new.self c.if-not-pop_kind.ensures c.set_open.ensures
