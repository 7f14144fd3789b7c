-- What contracts see of a stack: what a thread holds beside the instructions that it runs.
use Rattle.std.specs.Prelude.{◌≡◌, ℕ, ◌*◌, ◌≤◌, List, [], ◌∷◌, ◌++◌, length, drop, take, reverse, replicate}
use Rattle.std.specs.Prelude.{slice_set}
use Rattle.wasm_values.specs.Syntax.{Ops}
use Rattle.wasm_steps.specs.Program.{most_frames}
use Rattle.wasm_steps.specs.Threads.{Level, label, frame, Thread}
use Rattle.wasm_soundness.specs.Typed.{most_labels}

-- how many blocks and frames stand at most
abbrev pub most_controls : ℕ
most_controls = most_frames * most_labels

-- The operands of the innermost block with the top first, the locals of the function, and the blocks and
-- frames around, the innermost first.
pub record Held : Type 0 where
  pub operands : List ℕ
  pub locals : List ℕ
  pub levels : List Level

-- the thread that runs these instructions
abbrev pub running : Ops → Held → Thread
running code held =
    record { code = code; operands = held.operands; locals = held.locals; levels = held.levels }

-- nothing
abbrev pub nothing : Held
nothing = record { operands = []; locals = []; levels = [] }

abbrev pub pushed : ℕ → Held → Held
pushed value held = record held { operands = value ∷ held.operands }

-- without so many operands
abbrev pub without : ℕ → Held → Held
without count held = record held { operands = drop count held.operands }

-- with one operand in the place of so many
abbrev pub replaced : ℕ → ℕ → Held → Held
replaced count value held = record held { operands = value ∷ drop count held.operands }

abbrev pub with_local : ℕ → ℕ → Held → Held
with_local index value held = record held { locals = slice_set held.locals index value }

-- inside of a block that a branch leaves with so many results to these instructions, and its end to those
abbrev pub opened : ℕ → Ops → Ops → Held → Held
opened results again rest held =
    record held { operands = []; levels = label results again held.operands rest ∷ held.levels }

-- inside of a function with so many parameters, so many locals more and so many results, whose end leads to
-- these instructions
abbrev pub called : ℕ → ℕ → ℕ → Ops → Held → Held
called params more results rest held = record {
  operands = [];
  locals = reverse (take params held.operands) ++ replicate more 0;
  levels = frame results held.locals (drop params held.operands) rest ∷ held.levels;
}

-- Where the innermost level is a frame, its results are all that stands on its operands: at most one.
abbrev pub IsAtEnd : Held → Type 0
IsAtEnd held =
    (results : ℕ) (locals below : List ℕ) (rest : Ops) (levels : List Level)
    → held.levels ≡ frame results locals below rest ∷ levels → (length held.operands ≡ results)
    × (results ≤ 1)
