-- How many instructions stand in one another: what a writer goes down.
use Rattle.std.proofs.Common.{◌≡◌, ℕ, zero, suc, ◌+◌, ◌<◌, List, [], ◌∷◌, length, get_or, ap, sym, ◌∙◌, arith}
use Rattle.wasm_values.specs.Syntax.{Op, Ops, no_ops, next, block, loop, if_else}
use Rattle.wasm_values.specs.View.{instr_view, instrs_view, items_view}
use Rattle.wasm_values.specs.declared.instr.Instr.{Instr}
use Rattle.wasm_values.specs.declared.instr.Instrs.{Instrs}
use Rattle.wasm_values.proofs.Views.{view_instrs}

abbrev mutual
  pub op_height : Op → ℕ
  op_height (block kind ops) = suc (ops_height ops)
  op_height (loop kind ops) = suc (ops_height ops)
  op_height (if_else kind first second) = suc (ops_height first + ops_height second)
  op_height _ = 0

  pub ops_height : Ops → ℕ
  ops_height no_ops = 0
  ops_height (next op ops) = suc (op_height op + ops_height ops)

entry_height : (list : List Instr) (i : ℕ) (d : Instr) → i < length list → op_height (instr_view (get_or list i d)) < ops_height (items_view list)
entry_height [] i d h = absurd (omega arith)
entry_height (instr ∷ list) zero d h = omega arith
entry_height (instr ∷ list) (suc i) d h = let rest = entry_height list i d (omega arith) in omega arith

-- an instruction in others
pub item_height : (instrs : Instrs) (list : List Instr) (i : ℕ) (item : Instr) → list ≡ instrs.list → i < length list → item ≡ get_or list i item → op_height (instr_view item) < ops_height (instrs_view instrs)
item_height instrs list i item same h is =
    let here : op_height (instr_view item) ≡ op_height (instr_view (get_or list i item)) = ap (λ z. op_height (instr_view z)) is in
    let all : ops_height (instrs_view instrs) ≡ ops_height (items_view list) = ap ops_height (view_instrs instrs) ∙ ap (λ z. ops_height (items_view z)) (sym same) in
    omega (arith, entry_height list i item h, here, all)
