use Rattle.wasm_typing.proofs.Images.{drop_image, drop_none}
use Rattle.wasm_typing.proofs.operands.Operands.drop_one.Goals as goal

pub returns-in-Some : goal.returns-in-Some
returns-in-Some c = λ cx labels. drop_image c.in-Some.field-0 c.in-Some.ensures

pub returns-in-None : goal.returns-in-None
returns-in-None c = λ cx labels. drop_none c.in-None.ensures
