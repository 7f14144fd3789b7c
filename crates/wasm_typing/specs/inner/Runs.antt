-- Where the runs of locals end.
use Rattle.std.specs.Prelude.{◌≡◌, ℕ, ◌+◌, ◌-◌, ◌^◌, ◌<◌, ◌≤◌, min, List, length, take, slice_get, Some}
use Rattle.wasm_module.specs.declared.codes.LocalRun.{LocalRun}
use Rattle.wasm_typing.specs.Context.{locals_of}

-- How many locals so many runs from the first on say.
abbrev pub reach : List LocalRun → ℕ → ℕ
reach runs count = length (locals_of (take count runs))

-- For each run, how many locals the runs up to it say, as far as 64 bits go.
pub record AreEnds (runs : List LocalRun) (ends : List ℕ) : Type 0 where
  pub count : length ends ≡ length runs
  pub each : (at : ℕ) → at < length runs → slice_get ends at ≡ Some (min (reach runs (at + 1)) (2 ^ 64 - 1))

-- The number of the first run that ends behind this local, or the number of runs where none does.
pub record IsRunOf (runs : List LocalRun) (index found : ℕ) : Type 0 where
  pub within : found ≤ length runs
  pub before : reach runs found ≤ index
  pub behind : found < length runs → index < reach runs (found + 1)
