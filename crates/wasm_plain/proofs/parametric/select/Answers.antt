use Rattle.std.proofs.Common.{◌≡◌, ◌==◌, if◌then◌else◌, arith}
use Rattle.wasm_stack.specs.Standing.{held}
use Rattle.wasm_plain.proofs.Operands.{select_found, chosen_second, chosen_first, select_done}
use Rattle.wasm_plain.proofs.parametric.select.Goals.{then-condition-eq0, else-condition-eq0}
use Rattle.wasm_plain.proofs.parametric.select.Goals as goal

pub operand-condition-requires : goal.operand-condition-requires
operand-condition-requires c = omega (arith, select_found c.requires.1)

pub operand-second-requires : goal.operand-second-requires
operand-second-requires c = omega (arith, select_found c.requires.1)

pub operand-first-requires : goal.operand-first-requires
operand-first-requires c = select_found c.requires.1

pub replace-requires-clause-within : goal.replace-requires-clause-within
replace-requires-clause-within c = select_found c.requires.1

pub returns : goal.returns
returns c = λ store.
    let value = c.if-condition-eq0.chosen in
    let condition = c.operand-condition.result in
    let second = c.operand-second.result in
    let first = c.operand-first.result in
    let said : value ≡ (if condition == 0 then second else first) = elim c.if-condition-eq0.branch [
      | then-condition-eq0 w ↦ chosen_second condition first second value (omega arith) w.chosen-is
      | else-condition-eq0 w ↦ chosen_first condition first second value (omega arith) w.chosen-is
    ] in
    select_done c.requires.1 store (held c.replace.new.self) condition second first value c.operand-condition.ensures c.operand-second.ensures c.operand-first.ensures said c.replace.ensures
