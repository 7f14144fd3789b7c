-- What a typed thread finds at each instruction, and that it is typed behind it. `base` is the context of the
-- module, `pending op thread` the
-- thread with the instruction before what it has left.
use Rattle.std.specs.Prelude.{◌≡◌, ℕ, ℤ, ◌*◌, ◌<◌, ◌≤◌, List, [], ◌∷◌, length, drop, get_or, Option, None}
use Rattle.std.specs.Prelude.{Some, slice_get, slice_set}
use Rattle.wasm_values.specs.Syntax.{Ops, no_ops, next, nop, block, loop, if_else, br, br_if, br_table}
use Rattle.wasm_values.specs.Syntax.{return, call, call_indirect, drop_value, select, local_get}
use Rattle.wasm_values.specs.Syntax.{local_set, local_tee, global_get, global_set, load, store}
use Rattle.wasm_values.specs.Syntax.{memory_size, memory_grow, i32_const, i64_const, numeric}
use Rattle.wasm_values.specs.Syntax.{float_memory, float_const, float_plain}
use Rattle.wasm_values.specs.declared.instr.FloatBytes.{FloatBytes}
use Rattle.wasm_values.specs.declared.types.ValType.{ValType}
use Rattle.wasm_values.specs.declared.types.ValType.TheVariants.{I32, I64}
use Rattle.wasm_typing.specs.Context.{Context}
use Rattle.wasm_typing.specs.Operations.{Signature, signature_of, Access, load_of, store_of}
use Rattle.wasm_steps.specs.Program.{Function, type_of, Program, Store}
use Rattle.wasm_steps.specs.Threads.{Level, frame, Thread, arity, frame_count, Leaves, Returns}
use Rattle.wasm_steps.specs.Steps.{entered, target_of}
use Rattle.wasm_steps.specs.Runs.{IsInvoked}
use Rattle.wasm_soundness.specs.Typed.{IsValue, most_labels, IsTyped, IsTypedProgram, IsTypedStore}
use Rattle.wasm_soundness.specs.Ready.{pending, given, Offers, CanBranch, MayBranch, open_labels, CanCall}

-- ---- the beginning and the ends

-- A function that takes and gives nothing begins as a typed thread.
abbrev pub InvokedFunctionsAreTyped : Type 0
InvokedFunctionsAreTyped =
    (base : Context) (program : Program) (func : ℕ) (thread : Thread) → IsTypedProgram base program
    → (invoked : IsInvoked program func thread) → invoked.type.params ≡ [] → invoked.type.result ≡ None
    → IsTyped base thread

-- Behind the end of a block or of a frame a thread is typed.
abbrev pub LeavingKeepsTypes : Type 0
LeavingKeepsTypes =
    (base : Context) (thread after : Thread) → IsTyped base thread → Leaves thread after → IsTyped base after

-- At the end of a frame there are exactly its results, one at most.
abbrev pub FramesEndInResults : Type 0
FramesEndInResults =
    (base : Context) (thread : Thread) (results : ℕ) (held below : List ℕ) (rest : Ops) (levels : List Level)
    → IsTyped base thread
    → thread.code ≡ no_ops → thread.levels ≡ frame results held below rest ∷ levels
    → (length thread.operands ≡ results) × (results ≤ 1)

-- There are no more levels than the frames can have.
abbrev pub LevelsAreFew : Type 0
LevelsAreFew =
    (base : Context) (thread : Thread) → IsTyped base thread
    → length thread.levels ≤ most_labels * frame_count thread.levels

-- ---- branches

-- A branch finds its label and the results that it takes along, and keeps a thread typed.
abbrev pub BranchingKeepsTypes : Type 0
BranchingKeepsTypes =
    (base : Context) (thread : Thread) (to : ℕ) → IsTyped base (pending (br to) thread)
    → MayBranch base to thread

-- `br_if` finds its condition, and below it what the branch takes along; the thread is typed where it
-- branches and where it goes on.
abbrev pub ConditionsKeepTypes : Type 0
ConditionsKeepTypes = (base : Context) (thread : Thread) (to : ℕ) → IsTyped base (pending (br_if to) thread)
    → (1 ≤ length thread.operands) × IsValue I32 (get_or thread.operands 0 0)
    × IsTyped base (given 1 [] thread) × MayBranch base to (given 1 [] thread)

-- `br_table` finds its index, and may branch wherever any index leads.
abbrev pub TablesKeepTypes : Type 0
TablesKeepTypes =
    (base : Context) (thread : Thread) (several : List ℕ) (last : ℕ)
    → IsTyped base (pending (br_table several last) thread)
    → (1 ≤ length thread.operands) × IsValue I32 (get_or thread.operands 0 0)
    × ((index : ℕ) → MayBranch base (target_of several last index) (given 1 [] thread))

-- A return is a branch to the label of the function, and keeps a thread typed.
abbrev pub ReturningKeepsTypes : Type 0
ReturningKeepsTypes = (base : Context) (thread : Thread) → IsTyped base (pending return thread)
    → CanBranch (open_labels thread.levels) thread × ((after : Thread) → Returns thread after
    → IsTyped base after)

-- ---- blocks

-- In the body of a block a thread is typed.
abbrev pub BlocksKeepTypes : Type 0
BlocksKeepTypes =
    (base : Context) (thread : Thread) (result : Option ValType) (body : Ops)
    → IsTyped base (pending (block result body) thread)
    → IsTyped base (entered (arity result) thread.code body thread.operands thread thread.code)

-- In the body of a loop a thread is typed; a branch to its label takes nothing along, and begins it again.
abbrev pub LoopsKeepTypes : Type 0
LoopsKeepTypes =
    (base : Context) (thread : Thread) (result : Option ValType) (body : Ops)
    → IsTyped base (pending (loop result body) thread)
    → IsTyped base (entered 0 (next (loop result body) thread.code) body thread.operands thread thread.code)

-- An `if` finds its condition, and in both of its bodies a thread is typed.
abbrev pub ChoicesKeepTypes : Type 0
ChoicesKeepTypes =
    (base : Context) (thread : Thread) (result : Option ValType) (first second : Ops)
    → IsTyped base (pending (if_else result first second) thread)
    → (1 ≤ length thread.operands) × IsValue I32 (get_or thread.operands 0 0)
    × IsTyped base (entered (arity result) thread.code first (drop 1 thread.operands) thread thread.code)
    × IsTyped base (entered (arity result) thread.code second (drop 1 thread.operands) thread thread.code)

-- ---- calls

-- A call finds its function, which can be called.
abbrev pub CallsKeepTypes : Type 0
CallsKeepTypes =
    (base : Context) (thread : Thread) (program : Program) (func : ℕ) → IsTypedProgram base program
    → IsTyped base (pending (call func) thread)
    → (found : Function) × (slice_get program.functions func ≡ Some found) × CanCall base found thread

-- An indirect call finds the number of its entry and its type; a function of that type can be called.
abbrev pub IndirectCallsKeepTypes : Type 0
IndirectCallsKeepTypes =
    (base : Context) (thread : Thread) (program : Program) (held : Store) (index : ℕ)
    → IsTypedProgram base program → IsTypedStore base held
    → IsTyped base (pending (call_indirect index) thread)
    → (1 ≤ length thread.operands) × IsValue I32 (get_or thread.operands 0 0) × (index < length program.types)
    × ((entry func : ℕ) (found : Function) → slice_get held.table entry ≡ Some (Some func)
    → slice_get program.functions func ≡ Some found
    → slice_get program.types index ≡ Some (type_of found) → CanCall base found (given 1 [] thread))

-- The table names functions of the program.
abbrev pub EntriesAreFunctions : Type 0
EntriesAreFunctions =
    (base : Context) (program : Program) (held : Store) (entry func : ℕ) → IsTypedProgram base program
    → IsTypedStore base held
    → slice_get held.table entry ≡ Some (Some func) → (found : Function)
    × (slice_get program.functions func ≡ Some found)

-- ---- plain instructions

-- A constant needs no operand.
abbrev pub ConstantsAreOffered : Type 0
ConstantsAreOffered = (base : Context) (thread : Thread) (number : ℤ)
    → (IsTyped base (pending (i32_const number) thread) → Offers base [] (I32 ∷ []) thread)
    × (IsTyped base (pending (i64_const number) thread) → Offers base [] (I64 ∷ []) thread)

-- An operation on numbers finds operands of its types.
abbrev pub NumbersAreOffered : Type 0
NumbersAreOffered = (base : Context) (thread : Thread) (op : ℕ) → IsTyped base (pending (numeric op) thread)
    → (signature : Signature) × (signature_of op ≡ Some signature) × Offers base signature.operands
    (signature.result ∷ []) thread

-- `nop` changes nothing, `drop` finds a value, and `select` two of one type below its condition.
abbrev pub OperandsAreOffered : Type 0
OperandsAreOffered = (base : Context) (thread : Thread)
    → (IsTyped base (pending nop thread) → IsTyped base thread)
    × (IsTyped base (pending drop_value thread) → (type : ValType) × Offers base (type ∷ []) [] thread)
    × (IsTyped base (pending select thread)
    → (type : ValType) × Offers base (I32 ∷ type ∷ type ∷ []) (type ∷ []) thread)

-- A local is there and has a value of its type, and keeps its type when it is written.
abbrev pub LocalsKeepTypes : Type 0
LocalsKeepTypes = (base : Context) (thread : Thread) (local : ℕ)
    → (IsTyped base (pending (local_get local) thread)
    → (type : ValType) × (local < length thread.locals) × IsValue type (get_or thread.locals local 0)
    × Offers base [] (type ∷ []) thread)
    × (IsTyped base (pending (local_set local) thread)
    → (local < length thread.locals) × (1 ≤ length thread.operands)
    × IsTyped base (record thread {
      locals = slice_set thread.locals local (get_or thread.operands 0 0);
      operands = drop 1 thread.operands;
    }))
    × (IsTyped base (pending (local_tee local) thread)
    → (local < length thread.locals) × (1 ≤ length thread.operands)
    × IsTyped base (record thread { locals = slice_set thread.locals local (get_or thread.operands 0 0) }))

-- A global is there and has a value of its type, and the store stays typed when it is written.
abbrev pub GlobalsKeepTypes : Type 0
GlobalsKeepTypes = (base : Context) (thread : Thread) (global : ℕ) (held : Store) → IsTypedStore base held
    → (IsTyped base (pending (global_get global) thread)
    → (type : ValType) × (global < length held.globals) × IsValue type (get_or held.globals global 0)
    × Offers base [] (type ∷ []) thread)
    × (IsTyped base (pending (global_set global) thread)
    → (type : ValType) × (global < length held.globals) × Offers base (type ∷ []) [] thread
    × ((value : ℕ) → IsValue type value
    → IsTypedStore base (record held { globals = slice_set held.globals global value })))

-- Loads and stores find an address, and a store a value of its type above it.
abbrev pub AddressesAreOffered : Type 0
AddressesAreOffered = (base : Context) (thread : Thread) (op align offset : ℕ)
    → (IsTyped base (pending (load op align offset) thread) → (access : Access) × (load_of op ≡ Some access)
    × Offers base (I32 ∷ []) (access.value ∷ []) thread)
    × (IsTyped base (pending (store op align offset) thread) → (access : Access) × (store_of op ≡ Some access)
    × Offers base (access.value ∷ I32 ∷ []) [] thread)

-- A growth finds by how much.
abbrev pub GrowthsAreOffered : Type 0
GrowthsAreOffered = (base : Context) (thread : Thread)
    → (IsTyped base (pending memory_size thread) → Offers base [] (I32 ∷ []) thread)
    × (IsTyped base (pending memory_grow thread) → Offers base (I32 ∷ []) (I32 ∷ []) thread)

-- A typed thread never comes to an instruction on floats.
abbrev pub FloatsAreNotRun : Type 0
FloatsAreNotRun = (base : Context) (thread : Thread) (op align offset : ℕ) (bytes : FloatBytes)
    → (IsTyped base (pending (float_memory op align offset) thread) → ⊥)
    × (IsTyped base (pending (float_const bytes) thread) → ⊥)
    × (IsTyped base (pending (float_plain op) thread) → ⊥)
