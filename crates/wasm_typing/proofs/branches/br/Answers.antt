use Rattle.std.proofs.Common.{sym}
use Rattle.wasm_typing.specs.Typing.{br_typed}
use Rattle.wasm_typing.proofs.Images.{leaves_image, leaves_none, never}
use Rattle.wasm_typing.proofs.Instructions.{leaves_br, no_br}
use Rattle.wasm_typing.proofs.branches.br.Goals as goal

pub returns-in_default : goal.returns-in_default
returns-in_default c = λ cx. never _ (no_br (sym c.in_default.ensures))

pub returns-then-not-pop_kind : goal.returns-then-not-pop_kind
returns-then-not-pop_kind c = λ cx. leaves_none (leaves_br (sym c.in-Some.ensures)) c.if-not-pop_kind.ensures

pub returns : goal.returns
returns c = λ cx. leaves_image (λ from to. br_typed from (sym c.in-Some.ensures)) (leaves_br (sym c.in-Some.ensures)) c.pop_kind.new.self c.if-not-pop_kind.ensures c.set_open.ensures
