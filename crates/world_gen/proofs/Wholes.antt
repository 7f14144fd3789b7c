-- The module is put together from its lists.
use Rattle.std.proofs.Common.{◌≡◌, List, [], ◌∷◌, None, map, ap, ap₂, ◌∙◌}
use Rattle.wasm_values.specs.Syntax.{Ops}
use Rattle.wasm_values.specs.View.{instrs_view, ops_of}
use Rattle.wasm_module.specs.Entries.{Function, code_view}
use Rattle.wasm_module.specs.Sections.{module_view}
use Rattle.wasm_module.specs.declared.codes.Code.{Code}
use Rattle.wasm_module.specs.declared.codes.LocalRun.{LocalRun}
use Rattle.wasm_values.specs.declared.instr.Instr.{Instr}
use Rattle.wasm_values.specs.declared.instr.Instrs.{Instrs}
use Rattle.wasm_module.specs.declared.module.Module.{Module}
use Rattle.wasm_values.specs.declared.types.ValType.TheVariants.{I32}
use Rattle.world_gen.specs.PlayerModule.{host_calls, host_types, loop_codes, loop_exports, player_module, turns}
use Rattle.world_gen.specs.inner.Lines.{lines}

pub code_whole : (instrs : List Instr) (body : Instrs) (locals runs : List LocalRun) (codes list : List Code)
    → lines instrs ≡ turns → instrs_view body ≡ ops_of (lines instrs)
    → runs ≡ record { count = 3; value = I32 } ∷ [] → locals ≡ runs
    → list ≡ record { locals = locals; body = body } ∷ [] → codes ≡ list
    → map code_view codes ≡ loop_codes
unfolding loop_codes
code_whole instrs body locals runs codes list made inner three same one kept =
    ap (map code_view) (kept ∙ one)
    ∙ ap₂ (λ (l : List LocalRun) (b : Ops). let f : Function Ops = (l, b) in f ∷ []) (same ∙ three) (inner ∙ ap ops_of made)

pub module_whole : (made : Module)
    → made.types ≡ host_types → made.imports ≡ host_calls → made.funcs ≡ 5 ∷ []
    → made.tables ≡ [] → made.memories ≡ [] → made.globals ≡ []
    → made.exports ≡ loop_exports → made.start ≡ None → made.elements ≡ []
    → map code_view made.codes ≡ loop_codes → made.segments ≡ []
    → module_view made ≡ player_module
unfolding player_module
module_whole made t i f tables memories globals e start elements c segments = simp (t, i, f, tables, memories, globals, e, start, elements, c, segments)
