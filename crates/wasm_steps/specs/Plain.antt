-- What instructions do that neither branch nor call: WebAssembly Core 1.0, chapters 4.4.1 to 4.4.4. Operands
-- stand with the top first.
use Rattle.std.specs.Prelude.{◌≡◌, ◌≢◌, ℕ, ℤ, ◌+◌, ◌<◌, ◌≤◌, ◌==◌, ◌||◌, if◌then◌else◌, List, ◌∷◌, length}
use Rattle.std.specs.Prelude.{Some, None, slice_get, slice_set, true, cond}
use Rattle.std.specs.Int.{w8, w16, w32, w64, cast_signed, cast_unsigned}
use Rattle.wasm_values.specs.Syntax.{Op, nop, unreachable, drop_value, select, local_get, local_set}
use Rattle.wasm_values.specs.Syntax.{local_tee, global_get, global_set, load, store, memory_size}
use Rattle.wasm_values.specs.Syntax.{memory_grow, i32_const, i64_const, numeric}
use Rattle.wasm_values.specs.declared.types.ValType.{ValType}
use Rattle.wasm_values.specs.declared.types.ValType.TheVariants.{I32}
use Rattle.wasm_numeric.specs.Opcodes.{IsUnary, IsBinary, IsCompare, IsConvert, unary_value, binary_value}
use Rattle.wasm_numeric.specs.Opcodes.{compare_value, convert_value}
use Rattle.wasm_store.specs.Bytes.{le_bytes, le_number}
use Rattle.wasm_store.specs.Memory.{page_count, grown, span, written}
use Rattle.wasm_typing.specs.Operations.{Access, load_of, store_of}
use Rattle.wasm_steps.specs.Program.{Store}
use Rattle.wasm_steps.specs.declared.outcome.Trap.{Trap}
use Rattle.wasm_steps.specs.declared.outcome.Trap.TheVariants as traps

-- ---- numbers

-- a truth value, as a number
abbrev pub truth : ℕ → ℕ → ℕ → ℕ
truth op a b = cond (compare_value op a b) 1 0

-- The comparisons with 0, which take one operand.
abbrev pub IsTest : ℕ → Type 0
IsTest op = (op == 0x45 || op == 0x50) ≡ true

-- ---- memory

-- a number of 8, 16 or 32 bits with its sign carried on to an i32, and to an i64
abbrev pub signed_32 : ℕ → ℕ → ℕ
signed_32 bytes n =
    if bytes == 1 then cast_unsigned w32 (cast_signed w8 n) else cast_unsigned w32 (cast_signed w16 n)

abbrev pub signed_64 : ℕ → ℕ → ℕ
signed_64 bytes n =
    if bytes == 1 then cast_unsigned w64 (cast_signed w8 n) else if bytes == 2
    then cast_unsigned w64 (cast_signed w16 n) else cast_unsigned w64 (cast_signed w32 n)

-- the same to the width of a type of integers
abbrev pub carried_on : ValType → ℕ → ℕ → ℕ
carried_on I32 bytes n = signed_32 bytes n
carried_on _ bytes n = signed_64 bytes n

-- what a load makes of the number in its bytes: a signed one carries the sign on to the width of its type
abbrev pub loaded : Access → ℕ → ℕ
loaded access n = if access.signed then carried_on access.value access.bytes n else n

-- -1 as an i32: the answer of a growth that is refused
abbrev pub refused : ℕ
refused = 0xffff_ffff

-- ---- what is done

-- The locals, the operands and the store, before and after.
pub record Data : Type 0 where
  pub locals : List ℕ
  pub operands : List ℕ
  pub store : Store

-- What a plain instruction does. Whether there is room for what it pushes is looked at behind it.
pub data Does : Op → Data → Data → Type 0 where
  does_nop : {held : Data} → Does nop held held
  does_i32_const : {held : Data} {number : ℤ}
      → Does (i32_const number) held (record held { operands = cast_unsigned w32 number ∷ held.operands })
  does_i64_const : {held : Data} {number : ℤ}
      → Does (i64_const number) held (record held { operands = cast_unsigned w64 number ∷ held.operands })
  does_unary : {held : Data} {op a : ℕ} {below : List ℕ}
      → IsUnary op → held.operands ≡ a ∷ below
      → Does (numeric op) held (record held { operands = unary_value op a ∷ below })
  does_binary : {held : Data} {op a b c : ℕ} {below : List ℕ}
      → IsBinary op → held.operands ≡ b ∷ a ∷ below → binary_value op a b ≡ Some c
      → Does (numeric op) held (record held { operands = c ∷ below })
  does_test : {held : Data} {op a : ℕ} {below : List ℕ}
      → IsCompare op → IsTest op → held.operands ≡ a ∷ below
      → Does (numeric op) held (record held { operands = truth op a 0 ∷ below })
  does_compare : {held : Data} {op a b : ℕ} {below : List ℕ}
      → IsCompare op → (IsTest op → ⊥) → held.operands ≡ b ∷ a ∷ below
      → Does (numeric op) held (record held { operands = truth op a b ∷ below })
  does_convert : {held : Data} {op a : ℕ} {below : List ℕ}
      → IsConvert op → held.operands ≡ a ∷ below
      → Does (numeric op) held (record held { operands = convert_value op a ∷ below })
  does_drop : {held : Data} {a : ℕ} {below : List ℕ} → held.operands ≡ a ∷ below
      → Does drop_value held (record held { operands = below })
  does_select : {held : Data} {a b c : ℕ} {below : List ℕ}
      → held.operands ≡ c ∷ b ∷ a ∷ below
      → Does select held (record held { operands = (if c == 0 then b else a) ∷ below })
  does_local_get : {held : Data} {local a : ℕ}
      → slice_get held.locals local ≡ Some a
      → Does (local_get local) held (record held { operands = a ∷ held.operands })
  does_local_set : {held : Data} {local a : ℕ} {below : List ℕ}
      → local < length held.locals → held.operands ≡ a ∷ below
      → Does (local_set local) held (record held { locals = slice_set held.locals local a; operands = below })
  does_local_tee : {held : Data} {local a : ℕ} {below : List ℕ}
      → local < length held.locals → held.operands ≡ a ∷ below
      → Does (local_tee local) held (record held { locals = slice_set held.locals local a })
  does_global_get : {held : Data} {global a : ℕ}
      → slice_get held.store.globals global ≡ Some a
      → Does (global_get global) held (record held { operands = a ∷ held.operands })
  does_global_set : {held : Data} {global a : ℕ} {below : List ℕ}
      → global < length held.store.globals → held.operands ≡ a ∷ below
      → Does (global_set global) held (record held {
        operands = below;
        store = record held.store { globals = slice_set held.store.globals global a };
      })
  does_load : {held : Data} {op align offset a : ℕ} {below : List ℕ} (access : Access)
      → load_of op ≡ Some access → held.operands ≡ a ∷ below
      → a + offset + access.bytes ≤ length held.store.memory.bytes
      → Does (load op align offset) held (record held {
        operands =
            loaded access (le_number (span held.store.memory (a + offset) access.bytes)) ∷ below;
      })
  does_store : {held : Data} {op align offset a b : ℕ} {below : List ℕ} (access : Access)
      → store_of op ≡ Some access → held.operands ≡ b ∷ a ∷ below
      → a + offset + access.bytes ≤ length held.store.memory.bytes
      → Does (store op align offset) held (record held {
        operands = below;
        store = record held.store {
          memory = written held.store.memory (a + offset)
              (le_bytes access.bytes b);
        };
      })
  does_memory_size : {held : Data}
      → Does memory_size held (record held { operands = page_count held.store.memory ∷ held.operands })
  does_memory_grow : {held : Data} {by : ℕ} {below : List ℕ}
      → held.operands ≡ by ∷ below → page_count held.store.memory + by ≤ held.store.memory.limit
      → Does memory_grow held (record held {
        operands = page_count held.store.memory ∷ below;
        store = record held.store { memory = grown held.store.memory by };
      })
  does_not_grow : {held : Data} {by : ℕ} {below : List ℕ}
      → held.operands ≡ by ∷ below → held.store.memory.limit < page_count held.store.memory + by
      → Does memory_grow held (record held { operands = refused ∷ below })

-- Where a plain instruction traps.
pub data Fails : Op → Data → Trap → Type 0 where
  fails_unreachable : {held : Data} → Fails unreachable held traps.Unreachable
  fails_by_zero : {held : Data} {op a : ℕ} {below : List ℕ}
      → IsBinary op → held.operands ≡ 0 ∷ a ∷ below → binary_value op a 0 ≡ None
      → Fails (numeric op) held traps.DivideByZero
  fails_overflow : {held : Data} {op a b : ℕ} {below : List ℕ}
      → IsBinary op → held.operands ≡ b ∷ a ∷ below → b ≢ 0 → binary_value op a b ≡ None
      → Fails (numeric op) held traps.Overflow
  fails_load : {held : Data} {op align offset a : ℕ} {below : List ℕ} (access : Access)
      → load_of op ≡ Some access → held.operands ≡ a ∷ below
      → length held.store.memory.bytes < a + offset + access.bytes
      → Fails (load op align offset) held traps.MemoryBounds
  fails_store : {held : Data} {op align offset a b : ℕ} {below : List ℕ} (access : Access)
      → store_of op ≡ Some access → held.operands ≡ b ∷ a ∷ below
      → length held.store.memory.bytes < a + offset + access.bytes
      → Fails (store op align offset) held traps.MemoryBounds
