-- A run of locals, of its parts.
use Rattle.std.proofs.Common.{ℕ}
use Rattle.wasm_values.specs.declared.types.ValType.{ValType}
use Rattle.wasm_module.specs.declared.codes.LocalRun.{LocalRun}

abbrev pub local_run_of : ℕ × ValType → LocalRun
local_run_of parts = record { count = parts.0; value = parts.1 }
