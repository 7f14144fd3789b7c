-- How the vectors of a stack stand for what it holds.
use Rattle.std.specs.Prelude.{ℕ, ◌+◌, ◌-◌, ◌≤◌, Bool, true, false, List, [], ◌∷◌, length, drop, take}
use Rattle.wasm_values.specs.Syntax.{Ops}
use Rattle.wasm_values.specs.View.{items_view}
use Rattle.wasm_steps.specs.Threads.{Level, label, frame}
use Rattle.call_frames.specs.Stack.{Stack, Waiting}
use Rattle.wasm_stack.specs.Held.{Held}
use Rattle.wasm_stack.specs.declared.place.Place.{Place}
use Rattle.wasm_stack.specs.declared.control.Control.{Control}
use Rattle.wasm_stack.specs.declared.control.Control.TheVariants as control

-- the instructions that are left at a place
abbrev pub ops_at : Place → Ops
ops_at place = items_view place.code.now

-- what is behind the end of a block, where a branch to it leads here: of a loop, what is behind its
-- instruction
abbrev pub rest_of : Bool → Place → Ops
rest_of true again = items_view (drop 1 again.code.now)
rest_of false again = ops_at again

-- how many results there are, where there may be one
abbrev pub count : Bool → ℕ
count true = 1
count false = 0

-- how many operands of the function stand below the innermost block, where these are its blocks, the
-- innermost first
abbrev pub floor_of : List Control → ℕ
floor_of [] = 0
floor_of (control.Label again loops result height ∷ outer) = height
floor_of (control.Frame rest result depth ∷ outer) = 0

-- The first operands, those above a floor, and the others below it.
abbrev pub above : ℕ → List ℕ → List ℕ
above floor operands = take (length operands - floor) operands

abbrev pub below : ℕ → List ℕ → List ℕ
below floor operands = drop (length operands - floor) operands

-- the levels that the blocks and frames stand for, where the function has these operands below the innermost
-- block, and these frames wait
abbrev pub levels_of : List Control → List ℕ → List Waiting → List Level
levels_of [] operands waiting = []
levels_of (control.Label again loops result height ∷ outer) operands waiting =
    label (count result) (ops_at again) (above (floor_of outer) operands) (rest_of loops again)
    ∷ levels_of outer (below (floor_of outer) operands) waiting
levels_of (control.Frame rest result depth ∷ outer) operands [] = []
levels_of (control.Frame rest result depth ∷ outer) operands (caller ∷ waiting) =
    frame (count result) caller.locals (above (floor_of outer) caller.operands) (ops_at rest)
    ∷ levels_of outer (below (floor_of outer) caller.operands) waiting

-- what is held, by the blocks and frames with the innermost first
abbrev pub held_of : List Control → Stack → Held
held_of controls values = record {
  operands = above (floor_of controls) values.operands;
  locals = values.locals;
  levels = levels_of controls (below (floor_of controls) values.operands) values.waiting;
}

-- The blocks and frames, the innermost first, where the function has so many operands, these frames wait, and
-- so many blocks of the function are open.
pub data AreControls : List Control → ℕ → List Waiting → ℕ → Type 0 where
  no_controls : {held : ℕ} → AreControls [] held [] 0
  one_label : {again : Place} {loops result : Bool} {height held depth : ℕ} {outer : List Control}
      {waiting : List Waiting}
      → height ≤ held → AreControls outer height waiting depth
      → AreControls (control.Label again loops result height ∷ outer) held waiting (depth + 1)
  one_frame : {rest : Place} {result : Bool} {held depth : ℕ} {outer : List Control} {caller : Waiting}
      {waiting : List Waiting}
      → AreControls outer (length caller.operands) waiting depth
      → AreControls (control.Frame rest result depth ∷ outer) held (caller ∷ waiting) 0
