use Rattle.std.proofs.Common.{map, take}
use Rattle.wasm_encode.proofs.Heights.{op_height, ops_height}
use Rattle.wasm_encode.specs.inner.Gains.{Gains}
use Rattle.wasm_values.specs.Instructions.{SpellsOp}
use Rattle.wasm_values.specs.Spelling.{SpellsEach}
use Rattle.wasm_values.specs.View.{instr_view, instrs_view}
use Rattle.wasm_encode.proofs.instrs.+put.Given as goal

abbrev pub invariant-put_instrs-loop-instr : goal.invariant-put_instrs-loop-instr
invariant-put_instrs-loop-instr l = Gains (SpellsEach SpellsOp) (map instr_view (take l.instr-index l.instr-items)) l.fn.out.items l.out.items

abbrev pub decreases-put_instr : goal.decreases-put_instr
decreases-put_instr l = op_height (instr_view l.instr.now)

abbrev pub decreases-put_instrs : goal.decreases-put_instrs
decreases-put_instrs l = ops_height (instrs_view l.instrs.now)
