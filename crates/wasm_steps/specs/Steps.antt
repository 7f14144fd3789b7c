-- The steps of a run, each with its cost: WebAssembly Core 1.0, chapter 4.4. Each instruction costs 1, one
-- that traps and a host call included.
-- Leaving a block or a frame costs nothing.
use Rattle.std.specs.Prelude.{◌≡◌, ◌≢◌, ℕ, ℤ, ◌+◌, ◌-◌, ◌%◌, ◌^◌, ◌<◌, ◌≤◌, List, [], ◌∷◌, ◌++◌, length, map}
use Rattle.std.specs.Prelude.{reverse, replicate, take, drop, Option, Some, None, slice_get, zip}
use Rattle.std.specs.Option.{unwrap_or}
use Rattle.std.specs.Int.{w32, w64, cast_signed, cast_unsigned}
use Rattle.wasm_values.specs.Syntax.{Op, Ops, next, block, loop, if_else, br, br_if, br_table, return}
use Rattle.wasm_values.specs.Syntax.{call, call_indirect}
use Rattle.wasm_values.specs.declared.types.ValType.{ValType}
use Rattle.wasm_values.specs.declared.types.ValType.TheVariants.{I32, I64, F32, F64}
use Rattle.wasm_values.specs.declared.types.FuncType.{FuncType}
use Rattle.wasm_store.specs.Memory.{Memory}
use Rattle.wasm_steps.specs.Program.{Function, imported, defined, type_of, Program, Store, most_frames}
use Rattle.wasm_steps.specs.Program.{most_values}
use Rattle.wasm_steps.specs.Plain.{Data, Does, Fails}
use Rattle.wasm_steps.specs.Threads.{label, frame, Thread, arity, frame_count, size, Leaves, Branches}
use Rattle.wasm_steps.specs.Threads.{Returns}
use Rattle.wasm_steps.specs.declared.outcome.Trap.{Trap}
use Rattle.wasm_steps.specs.declared.outcome.Trap.TheVariants as traps

-- The meaning of a host, whose states are of a type: in this state the call of a number with these arguments
-- on this memory is answered so, and
-- the memory and the host are then these.
abbrev pub Meaning : Type 0 → Type 1
Meaning S = S → ℕ → List ℤ → Memory → ℤ → Memory → S → Type 0

-- an operand as a host gets it: an i32 with its sign carried on
abbrev pub argument : ValType → ℕ → ℤ
argument I32 n = cast_signed w32 n
argument I64 n = cast_signed w64 n
argument F32 n = cast_signed w32 n
argument F64 n = cast_signed w64 n

-- the low 32 bits of a host's answer, and all of them
abbrev pub low : ℤ → ℕ
low answer = cast_unsigned w64 answer % 2 ^ 32

abbrev pub whole : ℤ → ℕ
whole answer = cast_unsigned w64 answer

-- a host's answer as an operand: of an i32 the low 32 bits
abbrev pub answered : Option ValType → ℤ → List ℕ
answered None answer = []
answered (Some I32) answer = low answer ∷ []
answered (Some I64) answer = whole answer ∷ []
answered (Some F32) answer = low answer ∷ []
answered (Some F64) answer = whole answer ∷ []

-- A thread, the store and the host.
pub record State (S : Type 0) : Type 0 where
  pub thread : Thread
  pub store : Store
  pub host : S

abbrev pub data_of : {S : Type 0} → State S → Data
data_of state = record { locals = state.thread.locals; operands = state.thread.operands; store = state.store }

-- the state after a plain instruction, with this left to run
abbrev pub plainly : {S : Type 0} → State S → Ops → Data → State S
plainly state rest held =
    record state {
      thread = record state.thread {
        code = rest;
        operands = held.operands;
        locals = held.locals;
      };
      store = held.store;
    }

-- the thread inside of a block, of a loop
abbrev pub entered : ℕ → Ops → Ops → List ℕ → Thread → Ops → Thread
entered results again body below thread rest =
    record thread { code = body; operands = []; levels = label results again below rest ∷ thread.levels }

-- the thread inside of a function: the arguments are its first locals, the others 0
abbrev pub called : FuncType → ℕ → Ops → Thread → Ops → Thread
called type more body thread rest = record {
  code = body;
  operands = [];
  locals = reverse (take (length type.params) thread.operands) ++ replicate more 0;
  levels =
      frame (arity type.result) thread.locals (drop (length type.params) thread.operands) rest
      ∷ thread.levels;
}

-- the label of an index, and for any other index the last
abbrev pub target_of : List ℕ → ℕ → ℕ → ℕ
target_of several last index = unwrap_or (slice_get several index) last

-- Calling a function of the module or of the host.
pub data Calls {S : Type 0} (H : Meaning S) : Function → Ops → State S → State S → Type 0 where
  calls_own : {state : State S} {rest body : Ops} {type : FuncType} {more : ℕ}
      → frame_count state.thread.levels < most_frames
      → size state.thread + more ≤ most_values
      → Calls H (defined type more body) rest state (record state {
        thread = called type more body state.thread rest;
      })
  calls_host : {state : State S} {rest : Ops} {type : FuncType} {number : ℕ} {answer : ℤ} {memory : Memory}
      {host : S}
      → size state.thread - length type.params + arity type.result ≤ most_values
      → H state.host number
      (map (λ pair. argument pair.0 pair.1)
      (zip type.params
      (reverse (take (length type.params) state.thread.operands)))) state.store.memory answer memory host
      → Calls H (imported type number) rest state (record {
        thread =
            record state.thread {
              code = rest;
              operands = answered type.result answer
                  ++ drop (length type.params) state.thread.operands;
            };
        store = record state.store { memory = memory };
        host = host;
      })

-- Where a call traps: first for the frames, then for the room.
pub data CallFails {S : Type 0} : Function → State S → Trap → Type 0 where
  fails_depth : {state : State S} {body : Ops} {type : FuncType} {more : ℕ}
      → most_frames ≤ frame_count state.thread.levels
      → CallFails (defined type more body) state traps.CallDepth
  fails_room : {state : State S} {body : Ops} {type : FuncType} {more : ℕ}
      → frame_count state.thread.levels < most_frames
      → most_values < size state.thread + more
      → CallFails (defined type more body) state traps.StackFull
  fails_answer : {state : State S} {type : FuncType} {number : ℕ}
      → most_values < size state.thread - length type.params + arity type.result
      → CallFails (imported type number) state traps.StackFull

-- The function that an indirect call finds in the table, where it has the type.
pub record Finds (program : Program) (store : Store) (index entry : ℕ) (found : Function) : Type 0 where
  pub func : ℕ
  pub held : slice_get store.table entry ≡ Some (Some func)
  pub known : slice_get program.functions func ≡ Some found
  pub typed : slice_get program.types index ≡ Some (type_of found)

-- Where an indirect call finds none: past the end, in an empty entry, of another type, in this order.
pub data FindsNone (program : Program) (store : Store) (index entry : ℕ) : Trap → Type 0 where
  finds_end : slice_get store.table entry ≡ None → FindsNone program store index entry traps.TableBounds
  finds_empty : slice_get store.table entry ≡ Some None → FindsNone program store index entry traps.EmptyEntry
  finds_other : {func : ℕ} {found : Function}
      → slice_get store.table entry ≡ Some (Some func) → slice_get program.functions func ≡ Some found
      → slice_get program.types index ≢ Some (type_of found)
      → FindsNone program store index entry traps.WrongType

-- One step, and what it costs.
pub data Step (program : Program) {S : Type 0} (H : Meaning S) : State S → ℕ → State S → Type 0 where
  step_leaves : {state : State S} {thread : Thread}
      → Leaves state.thread thread → Step program H state 0 (record state { thread = thread })
  step_plain : {state : State S} {op : Op} {rest : Ops} {held : Data}
      → state.thread.code ≡ next op rest → Does op (data_of state) held
      → size (plainly state rest held).thread ≤ most_values
      → Step program H state 1 (plainly state rest held)
  step_block : {state : State S} {result : Option ValType} {body rest : Ops}
      → state.thread.code ≡ next (block result body) rest
      → Step program H state 1 (record state {
        thread = entered (arity result) rest body state.thread.operands state.thread rest;
      })
  step_loop : {state : State S} {result : Option ValType} {body rest : Ops}
      → state.thread.code ≡ next (loop result body) rest
      → Step program H state 1 (record state {
        thread = entered 0 state.thread.code body state.thread.operands state.thread rest;
      })
  step_then : {state : State S} {result : Option ValType} {first second rest : Ops} {a : ℕ} {below : List ℕ}
      → state.thread.code ≡ next (if_else result first second) rest → state.thread.operands ≡ a ∷ below
      → a ≢ 0
      → Step program H state 1 (record state {
        thread = entered (arity result) rest first below state.thread rest;
      })
  step_else : {state : State S} {result : Option ValType} {first second rest : Ops} {below : List ℕ}
      → state.thread.code ≡ next (if_else result first second) rest → state.thread.operands ≡ 0 ∷ below
      → Step program H state 1 (record state {
        thread = entered (arity result) rest second below state.thread rest;
      })
  step_br : {state : State S} {target : ℕ} {rest : Ops} {thread : Thread}
      → state.thread.code ≡ next (br target) rest → Branches target state.thread thread
      → Step program H state 1 (record state { thread = thread })
  step_br_if : {state : State S} {target a : ℕ} {rest : Ops} {below : List ℕ} {thread : Thread}
      → state.thread.code ≡ next (br_if target) rest → state.thread.operands ≡ a ∷ below → a ≢ 0
      → Branches target (record state.thread { operands = below }) thread
      → Step program H state 1 (record state { thread = thread })
  step_no_br_if : {state : State S} {target : ℕ} {rest : Ops} {below : List ℕ}
      → state.thread.code ≡ next (br_if target) rest → state.thread.operands ≡ 0 ∷ below
      → Step program H state 1 (record state {
        thread = record state.thread { code = rest; operands = below };
      })
  step_br_table : {state : State S} {several : List ℕ} {last target a : ℕ} {rest : Ops} {below : List ℕ}
      {thread : Thread}
      → state.thread.code ≡ next (br_table several last) rest → state.thread.operands ≡ a ∷ below
      → target_of several last a ≡ target
      → Branches target (record state.thread { operands = below }) thread
      → Step program H state 1 (record state { thread = thread })
  step_return : {state : State S} {rest : Ops} {thread : Thread}
      → state.thread.code ≡ next return rest → Returns state.thread thread
      → Step program H state 1 (record state { thread = thread })
  step_call : {state after : State S} {func : ℕ} {rest : Ops} {found : Function}
      → state.thread.code ≡ next (call func) rest → slice_get program.functions func ≡ Some found
      → Calls H found rest state after
      → Step program H state 1 after
  step_call_indirect : {state after : State S} {index entry : ℕ} {rest : Ops} {below : List ℕ}
      {found : Function}
      → state.thread.code ≡ next (call_indirect index) rest → state.thread.operands ≡ entry ∷ below
      → Finds program state.store index entry found
      → Calls H found rest (record state { thread = record state.thread { operands = below } }) after
      → Step program H state 1 after

-- A trap, which costs 1 as its instruction does.
pub data Stops (program : Program) {S : Type 0} : State S → Trap → Type 0 where
  stops_plain : {state : State S} {op : Op} {rest : Ops} {trap : Trap}
      → state.thread.code ≡ next op rest → Fails op (data_of state) trap → Stops program state trap
  stops_full : {state : State S} {op : Op} {rest : Ops} {held : Data}
      → state.thread.code ≡ next op rest → Does op (data_of state) held
      → most_values < size (plainly state rest held).thread
      → Stops program state traps.StackFull
  stops_call : {state : State S} {func : ℕ} {rest : Ops} {found : Function} {trap : Trap}
      → state.thread.code ≡ next (call func) rest → slice_get program.functions func ≡ Some found
      → CallFails found state trap → Stops program state trap
  stops_unfound : {state : State S} {index entry : ℕ} {rest : Ops} {below : List ℕ} {trap : Trap}
      → state.thread.code ≡ next (call_indirect index) rest → state.thread.operands ≡ entry ∷ below
      → FindsNone program state.store index entry trap → Stops program state trap
  stops_call_indirect : {state : State S} {index entry : ℕ} {rest : Ops} {below : List ℕ} {found : Function}
      {trap : Trap}
      → state.thread.code ≡ next (call_indirect index) rest → state.thread.operands ≡ entry ∷ below
      → Finds program state.store index entry found
      → CallFails found (record state { thread = record state.thread { operands = below } }) trap
      → Stops program state trap
