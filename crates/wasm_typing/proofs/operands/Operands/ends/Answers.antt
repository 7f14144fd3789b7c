use Rattle.std.proofs.Common.{[]}
use Rattle.std.proofs.lemmas.List.{append-nil}
use Rattle.wasm_typing.proofs.Stacks.{ends_checks}
use Rattle.wasm_typing.proofs.operands.Operands.ends.Goals as goal

pub returns-then-not-pop_kind : goal.returns-then-not-pop_kind
returns-then-not-pop_kind c = λ m. c.if-not-pop_kind.ensures.refused [] (rw append-nil m)

pub returns : goal.returns
returns c = ends_checks c.if-not-pop_kind.ensures c.is_bare.result c.is_bare.ensures
