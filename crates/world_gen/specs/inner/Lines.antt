-- The instructions that a list of them in the code stands for.
use Rattle.std.specs.Prelude.{List, map}
use Rattle.wasm_values.specs.Syntax.{Op}
use Rattle.wasm_values.specs.View.{instr_view}
use Rattle.wasm_values.specs.declared.instr.Instr.{Instr}

unfoldable pub lines : List Instr → List Op
lines = map instr_view
