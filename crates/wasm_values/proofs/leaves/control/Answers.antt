use Rattle.std.proofs.lemmas.Result.{err_from_is_err_and}
use Rattle.wasm_values.specs.Spelling.{SpellsU32, SpellsMark, SpellsList}
use Rattle.wasm_values.proofs.Fronts.{then_begins, then_only, then_none_first, then_none_second}
use Rattle.wasm_values.proofs.Fixed.{nothing_begins, nothing_only}
use Rattle.wasm_values.proofs.Opcodes.{op_found, op_only, op_none, op_unreachable, op_nop, op_br, op_br_if, op_br_table, op_return, op_call, op_call_indirect, op_drop, op_select}
use Rattle.wasm_values.proofs.Views.{view_unreachable, view_nop, view_br, view_br_if, view_br_table, view_return, view_call, view_call_indirect, view_drop_value, view_select}
use Rattle.wasm_values.proofs.leaves.control.Goals as goal

pub returns-in-0-clause-found : goal.returns-in-0-clause-found
returns-in-0-clause-found c = op_found op_unreachable c.args.code c.args.cursor.now.0 c.args.cursor.now.0 tt _ c.in-0.is view_unreachable (nothing_begins c.args.cursor.now.0)

pub returns-in-0-clause-only : goal.returns-in-0-clause-only
returns-in-0-clause-only c = op_only op_unreachable c.args.code c.args.cursor.now.0 c.args.cursor.now.0 tt _ c.in-0.is view_unreachable (nothing_only c.args.cursor.now.0)

pub returns-in-1-clause-found : goal.returns-in-1-clause-found
returns-in-1-clause-found c = op_found op_nop c.args.code c.args.cursor.now.0 c.args.cursor.now.0 tt _ c.in-1.is view_nop (nothing_begins c.args.cursor.now.0)

pub returns-in-1-clause-only : goal.returns-in-1-clause-only
returns-in-1-clause-only c = op_only op_nop c.args.code c.args.cursor.now.0 c.args.cursor.now.0 tt _ c.in-1.is view_nop (nothing_only c.args.cursor.now.0)

pub returns-in-15-clause-found : goal.returns-in-15-clause-found
returns-in-15-clause-found c = op_found op_return c.args.code c.args.cursor.now.0 c.args.cursor.now.0 tt _ c.in-15.is view_return (nothing_begins c.args.cursor.now.0)

pub returns-in-15-clause-only : goal.returns-in-15-clause-only
returns-in-15-clause-only c = op_only op_return c.args.code c.args.cursor.now.0 c.args.cursor.now.0 tt _ c.in-15.is view_return (nothing_only c.args.cursor.now.0)

pub returns-in-26-clause-found : goal.returns-in-26-clause-found
returns-in-26-clause-found c = op_found op_drop c.args.code c.args.cursor.now.0 c.args.cursor.now.0 tt _ c.in-26.is view_drop_value (nothing_begins c.args.cursor.now.0)

pub returns-in-26-clause-only : goal.returns-in-26-clause-only
returns-in-26-clause-only c = op_only op_drop c.args.code c.args.cursor.now.0 c.args.cursor.now.0 tt _ c.in-26.is view_drop_value (nothing_only c.args.cursor.now.0)

pub returns-in-27-clause-found : goal.returns-in-27-clause-found
returns-in-27-clause-found c = op_found op_select c.args.code c.args.cursor.now.0 c.args.cursor.now.0 tt _ c.in-27.is view_select (nothing_begins c.args.cursor.now.0)

pub returns-in-27-clause-only : goal.returns-in-27-clause-only
returns-in-27-clause-only c = op_only op_select c.args.code c.args.cursor.now.0 c.args.cursor.now.0 tt _ c.in-27.is view_select (nothing_only c.args.cursor.now.0)

pub returns-in_err-label-in-12-clause-malformed : goal.returns-in_err-label-in-12-clause-malformed
returns-in_err-label-in-12-clause-malformed c = let p = err_from_is_err_and c.from_residual.result c.from_residual.ensures.1 in rw p.1 (λ _. op_none op_br c.args.code c.args.cursor.now.0 c.in-12.is c.in_err-label-in-12.ensures.bad)

pub returns-in_ok-label-in-12-clause-found : goal.returns-in_ok-label-in-12-clause-found
returns-in_ok-label-in-12-clause-found c = op_found op_br c.args.code c.args.cursor.now.0 c.leb_u32.new.self.0 c.in_ok-label-in-12.label _ c.in-12.is (view_br c.in_ok-label-in-12.label) c.in_ok-label-in-12.ensures.found

pub returns-in_ok-label-in-12-clause-only : goal.returns-in_ok-label-in-12-clause-only
returns-in_ok-label-in-12-clause-only c = op_only op_br c.args.code c.args.cursor.now.0 c.leb_u32.new.self.0 c.in_ok-label-in-12.label _ c.in-12.is (view_br c.in_ok-label-in-12.label) c.in_ok-label-in-12.ensures.only

pub returns-in_err-label-in-13-clause-malformed : goal.returns-in_err-label-in-13-clause-malformed
returns-in_err-label-in-13-clause-malformed c = let p = err_from_is_err_and c.from_residual-in_err-label-in-13.result c.from_residual-in_err-label-in-13.ensures.1 in rw p.1 (λ _. op_none op_br_if c.args.code c.args.cursor.now.0 c.in-13.is c.in_err-label-in-13.ensures.bad)

pub returns-in_ok-label-in-13-clause-found : goal.returns-in_ok-label-in-13-clause-found
returns-in_ok-label-in-13-clause-found c = op_found op_br_if c.args.code c.args.cursor.now.0 c.leb_u32-in-13.new.self.0 c.in_ok-label-in-13.label _ c.in-13.is (view_br_if c.in_ok-label-in-13.label) c.in_ok-label-in-13.ensures.found

pub returns-in_ok-label-in-13-clause-only : goal.returns-in_ok-label-in-13-clause-only
returns-in_ok-label-in-13-clause-only c = op_only op_br_if c.args.code c.args.cursor.now.0 c.leb_u32-in-13.new.self.0 c.in_ok-label-in-13.label _ c.in-13.is (view_br_if c.in_ok-label-in-13.label) c.in_ok-label-in-13.ensures.only

pub returns-in_err-func-in-16-clause-malformed : goal.returns-in_err-func-in-16-clause-malformed
returns-in_err-func-in-16-clause-malformed c = let p = err_from_is_err_and c.from_residual-in_err-func-in-16.result c.from_residual-in_err-func-in-16.ensures.1 in rw p.1 (λ _. op_none op_call c.args.code c.args.cursor.now.0 c.in-16.is c.in_err-func-in-16.ensures.bad)

pub returns-in_ok-func-in-16-clause-found : goal.returns-in_ok-func-in-16-clause-found
returns-in_ok-func-in-16-clause-found c = op_found op_call c.args.code c.args.cursor.now.0 c.leb_u32-in-16.new.self.0 c.in_ok-func-in-16.func _ c.in-16.is (view_call c.in_ok-func-in-16.func) c.in_ok-func-in-16.ensures.found

pub returns-in_ok-func-in-16-clause-only : goal.returns-in_ok-func-in-16-clause-only
returns-in_ok-func-in-16-clause-only c = op_only op_call c.args.code c.args.cursor.now.0 c.leb_u32-in-16.new.self.0 c.in_ok-func-in-16.func _ c.in-16.is (view_call c.in_ok-func-in-16.func) c.in_ok-func-in-16.ensures.only

pub returns-in_err-labels-in-14-clause-malformed : goal.returns-in_err-labels-in-14-clause-malformed
returns-in_err-labels-in-14-clause-malformed c = let p = err_from_is_err_and c.from_residual-in_err-labels-in-14.result c.from_residual-in_err-labels-in-14.ensures.1 in rw (p.1, p.2) (λ is. op_none op_br_table c.args.code c.args.cursor.now.0 c.in-14.is (then_none_first (SpellsList SpellsU32) SpellsU32 c.args.cursor.now.0 (c.in_err-labels-in-14.ensures.malformed is)))

pub returns-in_err-last-in-14-clause-malformed : goal.returns-in_err-last-in-14-clause-malformed
returns-in_err-last-in-14-clause-malformed c = let p = err_from_is_err_and c.from_residual-in_err-last-in-14.result c.from_residual-in_err-last-in-14.ensures.1 in rw p.1 (λ _. op_none op_br_table c.args.code c.args.cursor.now.0 c.in-14.is (then_none_second (SpellsList SpellsU32) SpellsU32 c.args.cursor.now.0 c.indices.new.cursor.0 c.in_ok-labels-in-14.labels c.in_ok-labels-in-14.ensures.only c.in_err-last-in-14.ensures.bad))

pub returns-in_ok-last-in-14-clause-found : goal.returns-in_ok-last-in-14-clause-found
returns-in_ok-last-in-14-clause-found c = op_found op_br_table c.args.code c.args.cursor.now.0 c.leb_u32-in-14.new.self.0 (c.in_ok-labels-in-14.labels, c.in_ok-last-in-14.last) _ c.in-14.is (view_br_table c.in_ok-labels-in-14.labels c.in_ok-last-in-14.last) (then_begins (SpellsList SpellsU32) SpellsU32 c.args.cursor.now.0 c.indices.new.cursor.0 c.leb_u32-in-14.new.self.0 c.in_ok-labels-in-14.labels c.in_ok-last-in-14.last c.in_ok-labels-in-14.ensures.found c.in_ok-last-in-14.ensures.found)

pub returns-in_ok-last-in-14-clause-only : goal.returns-in_ok-last-in-14-clause-only
returns-in_ok-last-in-14-clause-only c = op_only op_br_table c.args.code c.args.cursor.now.0 c.leb_u32-in-14.new.self.0 (c.in_ok-labels-in-14.labels, c.in_ok-last-in-14.last) _ c.in-14.is (view_br_table c.in_ok-labels-in-14.labels c.in_ok-last-in-14.last) (then_only (SpellsList SpellsU32) SpellsU32 c.args.cursor.now.0 c.indices.new.cursor.0 c.leb_u32-in-14.new.self.0 c.in_ok-labels-in-14.labels c.in_ok-last-in-14.last c.in_ok-labels-in-14.ensures.only c.in_ok-last-in-14.ensures.only)

pub returns-in_err-kind-in-17-clause-malformed : goal.returns-in_err-kind-in-17-clause-malformed
returns-in_err-kind-in-17-clause-malformed c = let p = err_from_is_err_and c.from_residual-in_err-kind-in-17.result c.from_residual-in_err-kind-in-17.ensures.1 in rw p.1 (λ _. op_none op_call_indirect c.args.code c.args.cursor.now.0 c.in-17.is (then_none_first SpellsU32 (SpellsMark 0x00) c.args.cursor.now.0 c.in_err-kind-in-17.ensures.bad))

pub returns-in_err-mark-in-17-clause-malformed : goal.returns-in_err-mark-in-17-clause-malformed
returns-in_err-mark-in-17-clause-malformed c = let p = err_from_is_err_and c.from_residual-in_err-mark-in-17.result c.from_residual-in_err-mark-in-17.ensures.1 in rw (p.1, p.2) (λ is. op_none op_call_indirect c.args.code c.args.cursor.now.0 c.in-17.is (then_none_second SpellsU32 (SpellsMark 0x00) c.args.cursor.now.0 c.leb_u32-in-17.new.self.0 c.in_ok-kind-in-17.kind c.in_ok-kind-in-17.ensures.only (c.in_err-mark-in-17.ensures.malformed is)))

pub returns-in_ok-mark-in-17-clause-found : goal.returns-in_ok-mark-in-17-clause-found
returns-in_ok-mark-in-17-clause-found c = op_found op_call_indirect c.args.code c.args.cursor.now.0 c.mark.new.cursor.0 (c.in_ok-kind-in-17.kind, tt) _ c.in-17.is (view_call_indirect c.in_ok-kind-in-17.kind) (then_begins SpellsU32 (SpellsMark 0x00) c.args.cursor.now.0 c.leb_u32-in-17.new.self.0 c.mark.new.cursor.0 c.in_ok-kind-in-17.kind tt c.in_ok-kind-in-17.ensures.found c.in_ok-mark-in-17.ensures.found)

pub returns-in_ok-mark-in-17-clause-only : goal.returns-in_ok-mark-in-17-clause-only
returns-in_ok-mark-in-17-clause-only c = op_only op_call_indirect c.args.code c.args.cursor.now.0 c.mark.new.cursor.0 (c.in_ok-kind-in-17.kind, tt) _ c.in-17.is (view_call_indirect c.in_ok-kind-in-17.kind) (then_only SpellsU32 (SpellsMark 0x00) c.args.cursor.now.0 c.leb_u32-in-17.new.self.0 c.mark.new.cursor.0 c.in_ok-kind-in-17.kind tt c.in_ok-kind-in-17.ensures.only c.in_ok-mark-in-17.ensures.only)
