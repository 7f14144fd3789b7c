use Rattle.std.proofs.Common.{sym}
use Rattle.wasm_typing.specs.Typing.{types_of, br_if_typed}
use Rattle.wasm_typing.proofs.Stacks.{popped_join, stop_first, stop_later}
use Rattle.wasm_typing.proofs.Images.{only_image, only_none, never}
use Rattle.wasm_typing.proofs.Instructions.{only_br_if, no_br_if}
use Rattle.wasm_typing.proofs.branches.br_if.Goals as goal

pub returns-in_default : goal.returns-in_default
returns-in_default c = λ cx. never _ (no_br_if (sym c.in_default.ensures))

pub returns-then-not-pop_types : goal.returns-then-not-pop_types
returns-then-not-pop_types c = λ cx. only_none (only_br_if (sym c.in-Some.ensures)) (stop_first (types_of c.in-Some.kind) c.if-not-pop_types.ensures)

pub returns-then-not-pop_kind : goal.returns-then-not-pop_kind
returns-then-not-pop_kind c = λ cx. only_none (only_br_if (sym c.in-Some.ensures)) (stop_later c.if-not-pop_types.ensures c.if-not-pop_kind.ensures)

pub returns : goal.returns
returns c = λ cx. only_image (br_if_typed (sym c.in-Some.ensures)) (only_br_if (sym c.in-Some.ensures)) c.pop_kind.new.self (popped_join c.if-not-pop_types.ensures c.if-not-pop_kind.ensures) c.in_ok-push_kind.ensures
