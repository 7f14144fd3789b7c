-- The types of the operations that carry their opcode: WebAssembly Core 1.0, chapters 3.3.1 and 3.3.4, as the
-- rows of the opcodes give them.
use Rattle.std.specs.Prelude.{ℕ, List, [], ◌∷◌, Bool, false, Option, Some, None}
use Rattle.wasm_values.specs.declared.types.ValType.{ValType}
use Rattle.wasm_values.specs.Opcodes.{Meaning, meaning, loads, stores, unary, binary}

-- What an operation on numbers takes, the last operand first, and what it gives.
pub record Signature : Type 0 where
  pub operands : List ValType
  pub result : ValType

abbrev pub of_one : ValType → ValType → Signature
of_one operand result = record { operands = operand ∷ []; result = result }

abbrev pub of_two : ValType → ValType → Signature
of_two operand result = record { operands = operand ∷ operand ∷ []; result = result }

abbrev pub signature_in : Option Meaning → Option Signature
signature_in (Some (unary from to)) = Some (of_one from to)
signature_in (Some (binary from to)) = Some (of_two from to)
signature_in _ = None

unfoldable pub signature_of : ℕ → Option Signature
signature_of op = signature_in (meaning op)

-- The type of the value that a load gives or a store takes, how many bytes it moves, and whether their sign
-- is carried on, which no store does.
pub record Access : Type 0 where
  pub value : ValType
  pub bytes : ℕ
  pub signed : Bool

abbrev pub load_in : Option Meaning → Option Access
load_in (Some (loads value bytes signed)) = Some (record { value = value; bytes = bytes; signed = signed })
load_in _ = None

unfoldable pub load_of : ℕ → Option Access
load_of op = load_in (meaning op)

abbrev pub store_in : Option Meaning → Option Access
store_in (Some (stores value bytes)) = Some (record { value = value; bytes = bytes; signed = false })
store_in _ = None

unfoldable pub store_of : ℕ → Option Access
store_of op = store_in (meaning op)
