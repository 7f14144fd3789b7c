use Rattle.std.proofs.Common.{[], ◌∷◌}
use Rattle.wasm_values.specs.Syntax.{memory_size}
use Rattle.wasm_values.specs.declared.types.ValType.TheVariants.{I32}
use Rattle.wasm_typing.specs.Typing.{memory_size_typed}
use Rattle.wasm_typing.specs.inner.Scopes.{scope_view}
use Rattle.wasm_typing.proofs.Images.{never}
use Rattle.wasm_typing.proofs.Applied.{any_applied}
use Rattle.wasm_typing.proofs.Instructions.{only_memory_size, no_memory_size}
use Rattle.wasm_typing.proofs.memories.memory_size.Goals as goal

pub returns-then-not-has_memory : goal.returns-then-not-has_memory
returns-then-not-has_memory c = λ labels. never _ (no_memory_size c.if-not-has_memory.ensures)

pub returns : goal.returns
returns c = any_applied c.apply.result (scope_view c.args.scope.now) memory_size [] (I32 ∷ []) c.args.operands.now c.apply.new.self (λ labels. memory_size_typed c.if-not-has_memory.ensures) (λ labels. only_memory_size) c.apply.ensures
