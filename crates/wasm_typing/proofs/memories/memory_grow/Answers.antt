use Rattle.std.proofs.Common.{[], ◌∷◌}
use Rattle.wasm_values.specs.Syntax.{memory_grow}
use Rattle.wasm_values.specs.declared.types.ValType.TheVariants.{I32}
use Rattle.wasm_typing.specs.Typing.{memory_grow_typed}
use Rattle.wasm_typing.specs.inner.Scopes.{scope_view}
use Rattle.wasm_typing.proofs.Images.{never}
use Rattle.wasm_typing.proofs.Applied.{any_applied}
use Rattle.wasm_typing.proofs.Instructions.{only_memory_grow, no_memory_grow}
use Rattle.wasm_typing.proofs.memories.memory_grow.Goals as goal

pub returns-then-not-has_memory : goal.returns-then-not-has_memory
returns-then-not-has_memory c = λ labels. never _ (no_memory_grow c.if-not-has_memory.ensures)

pub returns : goal.returns
returns c = any_applied c.apply.result (scope_view c.args.scope.now) memory_grow (I32 ∷ []) (I32 ∷ []) c.args.operands.now c.apply.new.self (λ labels. memory_grow_typed c.if-not-has_memory.ensures) (λ labels. only_memory_grow) c.apply.ensures
