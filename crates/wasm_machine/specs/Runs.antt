-- Runs of the code, and instances.
use Rattle.std.specs.Prelude.{◌≡◌, ◌⊎◌, ℕ}
use Rattle.wasm_steps.specs.Program.{Program, Store}
use Rattle.wasm_steps.specs.Steps.{Meaning, State}
use Rattle.wasm_steps.specs.Runs.{EndsFrom, Ends}
use Rattle.wasm_steps.specs.declared.outcome.Outcome.{Outcome}
use Rattle.wasm_steps.specs.declared.outcome.Outcome.TheVariants.{Finished, Trapped, Spent}
use Rattle.wasm_link.specs.Kept.{IsMost, Kept, link_view}
use Rattle.wasm_link.specs.Linking.{first_store}
use Rattle.wasm_machine.specs.Machine.{program_of}

-- The run from this state ends so, with the host and the store as they are then.
abbrev pub EndsSo : Program → {S : Type 0} → Meaning S → State S → ℕ → Outcome → Store → S → Type 0
EndsSo program {S} H first fuel outcome kept later =
    (last : State S) × EndsFrom program H first fuel outcome last × (last.host ≡ later)
    × (last.store ≡ kept)

-- The run of a fresh instance of the module: its start function first, where it has one, and then `loop`. The
-- host is then in this state.
abbrev pub Runs : Kept → {S : Type 0} → Meaning S → S → ℕ → Outcome → S → Type 0
Runs linked {S} H host fuel outcome later =
    (last : State S) × Ends (program_of linked) H (link_view linked).main (link_view linked).whole.start
    (first_store (link_view linked).whole) host fuel outcome last × (last.host ≡ later)

-- The room for arguments is as it was, or just what the calls of the program need.
abbrev pub IsRoomFor : Program → ℕ → ℕ → Type 0
IsRoomFor program before room = (room ≡ before) ⊎ IsMost program room

-- how many instructions were executed
abbrev pub used_of : Outcome → ℕ
used_of (Finished used) = used
used_of (Trapped used trap) = used
used_of (Spent used) = used
