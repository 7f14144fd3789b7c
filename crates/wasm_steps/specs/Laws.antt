-- Laws of runs.
use Rattle.std.specs.Prelude.{◌≡◌, ℕ, ℤ, List, Option}
use Rattle.wasm_store.specs.Memory.{Memory}
use Rattle.wasm_steps.specs.Program.{Program, Store}
use Rattle.wasm_steps.specs.Steps.{Meaning, State}
use Rattle.wasm_steps.specs.Runs.{Ends}
use Rattle.wasm_steps.specs.declared.outcome.Outcome.{Outcome}

-- A host that answers a call in one way.
abbrev pub IsFunction : {S : Type 0} → Meaning S → Type 0
IsFunction {S} H =
    (host : S) (call : ℕ) (arguments : List ℤ) (memory : Memory) (one other : ℤ) (after final : Memory)
    (next last : S)
    → H host call arguments memory one after next → H host call arguments memory other final last
    → (one ≡ other) × (after ≡ final) × (next ≡ last)

-- A run has one outcome at most, and ends in one state.
abbrev pub HasOneEnd : {S : Type 0} → Meaning S → Type 0
HasOneEnd {S} H =
    (program : Program) (main : ℕ) (start : Option ℕ) (store : Store) (host : S) (fuel : ℕ)
    (one other : Outcome) (last final : State S)
    → Ends program H main start store host fuel one last
    → Ends program H main start store host fuel other final
    → (one ≡ other) × (last ≡ final)
