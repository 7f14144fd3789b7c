-- The typing of a function.
use Rattle.std.specs.Prelude.{◌≡◌, ℕ, slice_get, Some}
use Rattle.wasm_values.specs.Syntax.{Ops}
use Rattle.wasm_values.specs.declared.types.FuncType.{FuncType}
use Rattle.wasm_module.specs.Entries.{Function}
use Rattle.wasm_typing.specs.Context.{Context, function_context}
use Rattle.wasm_typing.specs.Typing.{TypedBody}

-- 3.4.1: the body of a function is typed in the context of its type and its locals.
abbrev pub IsFunction : Context → ℕ → Function Ops → Type 0
IsFunction cx index function =
    (type : FuncType) × (slice_get cx.types index ≡ Some type) × TypedBody
    (function_context cx type function.0) function.1
