use Rattle.std.proofs.Common.{sym}
use Rattle.wasm_typing.specs.Typing.{types_of, br_table_typed}
use Rattle.wasm_typing.proofs.Stacks.{popped_join, stop_first, stop_later}
use Rattle.wasm_typing.proofs.Images.{leaves_image, leaves_none, never}
use Rattle.wasm_typing.proofs.Instructions.{leaves_br_table, no_br_table, other_br_table}
use Rattle.wasm_typing.proofs.branches.br_table.Goals as goal

pub returns-in_default : goal.returns-in_default
returns-in_default c = λ cx. never _ (no_br_table (sym c.in_default.ensures))

pub returns-then-not-all_take : goal.returns-then-not-all_take
returns-then-not-all_take c = λ cx. never _ (other_br_table (sym c.in-Some.ensures) c.if-not-all_take.ensures)

pub returns-then-not-pop_types : goal.returns-then-not-pop_types
returns-then-not-pop_types c = λ cx. leaves_none (leaves_br_table (sym c.in-Some.ensures)) (stop_first (types_of c.in-Some.kind) c.if-not-pop_types.ensures)

pub returns-then-not-pop_kind : goal.returns-then-not-pop_kind
returns-then-not-pop_kind c = λ cx. leaves_none (leaves_br_table (sym c.in-Some.ensures)) (stop_later c.if-not-pop_types.ensures c.if-not-pop_kind.ensures)

pub returns : goal.returns
returns c = λ cx. leaves_image (λ from to. br_table_typed from c.if-not-all_take.ensures (sym c.in-Some.ensures)) (leaves_br_table (sym c.in-Some.ensures)) c.pop_kind.new.self (popped_join c.if-not-pop_types.ensures c.if-not-pop_kind.ensures) c.set_open.ensures
