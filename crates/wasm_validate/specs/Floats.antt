-- Modules without floats: no float type and no instruction on floats stands in them.
use Rattle.std.specs.Prelude.{Option, Some, None, All}
use Rattle.wasm_values.specs.Syntax.{Op, Ops, block, loop, if_else, float_memory, float_const}
use Rattle.wasm_values.specs.Syntax.{float_plain, no_ops, next}
use Rattle.wasm_module.specs.Sections.{Syntax}
use Rattle.wasm_values.specs.declared.types.ValType.{ValType}
use Rattle.wasm_values.specs.declared.types.ValType.TheVariants.{I32, I64, F32, F64}
use Rattle.wasm_values.specs.declared.types.FuncType.{FuncType}
use Rattle.wasm_values.specs.declared.imports.ImportDesc.{ImportDesc}
use Rattle.wasm_values.specs.declared.imports.ImportDesc.TheVariants as import

abbrev pub IsInteger : ValType → Type 0
IsInteger I32 = Unit {0}
IsInteger I64 = Unit {0}
IsInteger F32 = ⊥
IsInteger F64 = ⊥

-- A result of no value, or of an integer.
abbrev pub IsIntegerResult : Option ValType → Type 0
IsIntegerResult None = Unit {0}
IsIntegerResult (Some value) = IsInteger value

abbrev mutual
  pub OpHasNoFloat : Op → Type 0
  OpHasNoFloat (block result body) = IsIntegerResult result × OpsHaveNoFloat body
  OpHasNoFloat (loop result body) = IsIntegerResult result × OpsHaveNoFloat body
  OpHasNoFloat (if_else result first second) =
      IsIntegerResult result × OpsHaveNoFloat first × OpsHaveNoFloat second
  OpHasNoFloat (float_memory op align offset) = ⊥
  OpHasNoFloat (float_const bytes) = ⊥
  OpHasNoFloat (float_plain op) = ⊥
  OpHasNoFloat _ = Unit {0}

  pub OpsHaveNoFloat : Ops → Type 0
  OpsHaveNoFloat no_ops = Unit {0}
  OpsHaveNoFloat (next op ops) = OpHasNoFloat op × OpsHaveNoFloat ops

abbrev pub TypeHasNoFloat : FuncType → Type 0
TypeHasNoFloat type = All IsInteger type.params × IsIntegerResult type.result

abbrev pub ImportHasNoFloat : ImportDesc → Type 0
ImportHasNoFloat (import.Global type) = IsInteger type.value
ImportHasNoFloat _ = Unit {0}

-- A run of locals counts also where it has no local.
pub record HasNoFloat (m : Syntax Ops) : Type 0 where
  pub types : All TypeHasNoFloat m.types
  pub imports : All (λ entry. ImportHasNoFloat entry.desc) m.imports
  pub globals : All (λ global. IsInteger global.0.value × OpsHaveNoFloat global.1) m.globals
  pub elements : All (λ segment. OpsHaveNoFloat segment.1.0) m.elements
  pub locals : All (λ function. All (λ run. IsInteger run.value) function.0) m.codes
  pub bodies : All (λ function. OpsHaveNoFloat function.1) m.codes
  pub segments : All (λ segment. OpsHaveNoFloat segment.1.0) m.segments
