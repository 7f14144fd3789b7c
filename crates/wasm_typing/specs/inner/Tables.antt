-- What the values of the code's tables stand for.
use Rattle.std.specs.Prelude.{ℕ, ◌^◌, List, [], ◌∷◌, true, false, Bool, Option, Some, None}
use Rattle.wasm_values.specs.declared.types.ValType.{ValType}
use Rattle.wasm_typing.specs.Operations.{Signature, Access}
use Rattle.wasm_typing.specs.Context.{Context}
use Rattle.wasm_typing.specs.Typing.{HasType}
use Rattle.wasm_values.specs.declared.types.FuncType.{FuncType}
use Rattle.wasm_typing.specs.declared.numbers.Operation.{Operation}
use Rattle.wasm_typing.specs.declared.memories.Move.{Move}

abbrev pub operands_of : ValType → Bool → List ValType
operands_of operand true = operand ∷ operand ∷ []
operands_of operand false = operand ∷ []

abbrev pub signature_view : Operation → Signature
signature_view operation =
    record { operands = operands_of operation.operand operation.is_binary; result = operation.value }

-- The bytes that are moved are a power of two. The sign, which no type shows, is left out.
abbrev pub access_view : Move → Access
access_view access = record { value = access.value; bytes = 2 ^ access.power; signed = false }

-- What a look-up of the type of a function finds.
abbrev pub Finds : Context → ℕ → Option FuncType → Type 0
Finds cx func (Some type) = HasType cx func type
Finds cx func None = (type : FuncType) → HasType cx func type → ⊥
