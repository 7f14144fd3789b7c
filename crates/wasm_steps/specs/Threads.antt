-- What is left to run: instructions within blocks within frames, WebAssembly Core 1.0, chapters 4.2.13 and
-- 4.4.5.
use Rattle.std.specs.Prelude.{ℕ, suc, ◌+◌, List, [], ◌∷◌, ◌++◌, length, take, Option, Some, None}
use Rattle.std.specs.List.{sum_by}
use Rattle.wasm_values.specs.Syntax.{Ops, no_ops}
use Rattle.wasm_values.specs.declared.types.ValType.{ValType}

-- What stands around the instructions that run.
-- A block that is open: how many operands a branch to it takes along, what runs behind such a branch, the
-- operands below it and what runs
-- behind its end. A frame: how many results it gives, and of its caller the locals, the operands and what
-- runs behind the call.
pub data Level : Type 0 where
  label : ℕ → Ops → List ℕ → Ops → Level
  frame : ℕ → List ℕ → List ℕ → Ops → Level

-- The instructions that are left in the innermost block, its operands with the top first, the locals of the
-- frame, and what stands around, the
-- innermost first.
pub record Thread : Type 0 where
  pub code : Ops
  pub operands : List ℕ
  pub locals : List ℕ
  pub levels : List Level

abbrev pub arity : Option ValType → ℕ
arity None = 0
arity (Some value) = 1

-- how many frames there are
abbrev pub frame_count : List Level → ℕ
frame_count [] = 0
frame_count (label results again below rest ∷ levels) = frame_count levels
frame_count (frame results locals below rest ∷ levels) = suc (frame_count levels)

-- how many locals and operands a level keeps, and a thread in all
abbrev pub kept : Level → ℕ
kept (label results again below rest) = length below
kept (frame results locals below rest) = length locals + length below

abbrev pub size : Thread → ℕ
size thread = length thread.operands + length thread.locals + sum_by kept thread.levels

-- ---- ends, branches and returns

-- The innermost block or frame has come to its end: its operands go on top of those below it.
pub data Leaves : Thread → Thread → Type 0 where
  leaves_label : {results : ℕ} {again rest : Ops} {operands locals below : List ℕ} {levels : List Level}
      → Leaves (record {
        code = no_ops;
        operands = operands;
        locals = locals;
        levels = label results again below rest ∷ levels;
      })
      (record { code = rest; operands = operands ++ below; locals = locals; levels = levels })
  leaves_frame : {results : ℕ} {rest : Ops} {operands locals caller below : List ℕ} {levels : List Level}
      → Leaves (record {
        code = no_ops;
        operands = operands;
        locals = locals;
        levels = frame results caller below rest ∷ levels;
      })
      (record { code = rest; operands = operands ++ below; locals = caller; levels = levels })

-- A branch to the block of a label takes its results along, and drops what else stands above. The outermost
-- label of a frame is the frame itself,
-- so a branch there returns.
pub data Branches : ℕ → Thread → Thread → Type 0 where
  branches_here : {results : ℕ} {code again rest : Ops} {operands locals below : List ℕ} {levels : List Level}
      → Branches 0 (record {
        code = code;
        operands = operands;
        locals = locals;
        levels = label results again below rest ∷ levels;
      })
      (record { code = again; operands = take results operands ++ below; locals = locals; levels = levels })
  branches_out : {results : ℕ} {code rest : Ops} {operands locals caller below : List ℕ} {levels : List Level}
      → Branches 0 (record {
        code = code;
        operands = operands;
        locals = locals;
        levels = frame results caller below rest ∷ levels;
      })
      (record { code = rest; operands = take results operands ++ below; locals = caller; levels = levels })
  branches_further : {target results : ℕ} {code again rest : Ops} {operands locals below : List ℕ}
      {levels : List Level} {thread : Thread}
      → Branches target (record { code = code; operands = operands; locals = locals; levels = levels }) thread
      → Branches (suc target) (record {
        code = code;
        operands = operands;
        locals = locals;
        levels = label results again below rest
            ∷ levels;
      }) thread

-- A return leaves all blocks of the frame.
pub data Returns : Thread → Thread → Type 0 where
  returns_here : {results : ℕ} {code rest : Ops} {operands locals caller below : List ℕ} {levels : List Level}
      → Returns (record {
        code = code;
        operands = operands;
        locals = locals;
        levels = frame results caller below rest ∷ levels;
      })
      (record { code = rest; operands = take results operands ++ below; locals = caller; levels = levels })
  returns_further : {results : ℕ} {code again rest : Ops} {operands locals below : List ℕ}
      {levels : List Level} {thread : Thread}
      → Returns (record { code = code; operands = operands; locals = locals; levels = levels }) thread
      → Returns (record {
        code = code;
        operands = operands;
        locals = locals;
        levels = label results again below rest
            ∷ levels;
      }) thread
