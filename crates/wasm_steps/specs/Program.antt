-- What is run: the functions of a linked module, and the store that its instructions change: WebAssembly Core
-- 1.0, chapter 4.2.
use Rattle.std.specs.Prelude.{ℕ, List, Option}
use Rattle.wasm_values.specs.Syntax.{Ops}
use Rattle.wasm_values.specs.declared.types.FuncType.{FuncType}
use Rattle.wasm_store.specs.Memory.{Memory}

-- A function: one of the host's by the number of its call, or one of the module's with so many locals beside
-- its parameters.
pub data Function : Type 0 where
  imported : FuncType → ℕ → Function
  defined : FuncType → ℕ → Ops → Function

abbrev pub type_of : Function → FuncType
type_of (imported type call) = type
type_of (defined type locals body) = type

-- The types that the module declares, and its functions, the imported ones first.
pub record Program : Type 0 where
  pub types : List FuncType
  pub functions : List Function

-- The memory, the values of the globals, and the functions in the table. A module without a memory has one of
-- no page that can't grow.
-- A value is a number: an i32 one below 2^32, an i64 one below 2^64.
pub record Store : Type 0 where
  pub memory : Memory
  pub globals : List ℕ
  pub table : List (Option ℕ)

-- At most so many frames, and so many locals and operands together.
abbrev pub most_frames : ℕ
most_frames = 1000

abbrev pub most_values : ℕ
most_values = 65536
