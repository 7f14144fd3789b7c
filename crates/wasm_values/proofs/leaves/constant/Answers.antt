use Rattle.std.proofs.Common.{◌≡◌, arith, rules}
use Rattle.std.proofs.lemmas.Result.{err_from_is_err_and}
use Rattle.wasm_values.specs.declared.instr.FloatBytes.TheVariants.{Four, Eight}
use Rattle.wasm_values.proofs.Opcodes.{op_found, op_only, op_none, op_memory_size, op_memory_grow, op_i32_const, op_i64_const, op_f32_const, op_f64_const}
use Rattle.wasm_values.proofs.Fixed.{little_begins, little_only, little_none}
use Rattle.wasm_values.proofs.Views.{view_memory_size, view_memory_grow, view_signed_32, view_signed_64, view_float_const}
use Rattle.wasm_values.proofs.leaves.constant.Goals as goal

pub returns-in_err-mark-in-63-clause-malformed : goal.returns-in_err-mark-in-63-clause-malformed
returns-in_err-mark-in-63-clause-malformed c = let p = err_from_is_err_and c.from_residual.result c.from_residual.ensures.1 in rw (p.1, p.2) (λ is. op_none op_memory_size c.args.code c.args.cursor.now.0 c.in-63.is (c.in_err-mark-in-63.ensures.malformed is))

pub returns-in_ok-mark-in-63-clause-found : goal.returns-in_ok-mark-in-63-clause-found
returns-in_ok-mark-in-63-clause-found c = op_found op_memory_size c.args.code c.args.cursor.now.0 c.mark.new.cursor.0 tt _ c.in-63.is view_memory_size c.in_ok-mark-in-63.ensures.found

pub returns-in_ok-mark-in-63-clause-only : goal.returns-in_ok-mark-in-63-clause-only
returns-in_ok-mark-in-63-clause-only c = op_only op_memory_size c.args.code c.args.cursor.now.0 c.mark.new.cursor.0 tt _ c.in-63.is view_memory_size c.in_ok-mark-in-63.ensures.only

pub returns-in_err-mark-in-64-clause-malformed : goal.returns-in_err-mark-in-64-clause-malformed
returns-in_err-mark-in-64-clause-malformed c = let p = err_from_is_err_and c.from_residual-in_err-mark-in-64.result c.from_residual-in_err-mark-in-64.ensures.1 in rw (p.1, p.2) (λ is. op_none op_memory_grow c.args.code c.args.cursor.now.0 c.in-64.is (c.in_err-mark-in-64.ensures.malformed is))

pub returns-in_ok-mark-in-64-clause-found : goal.returns-in_ok-mark-in-64-clause-found
returns-in_ok-mark-in-64-clause-found c = op_found op_memory_grow c.args.code c.args.cursor.now.0 c.mark-in-64.new.cursor.0 tt _ c.in-64.is view_memory_grow c.in_ok-mark-in-64.ensures.found

pub returns-in_ok-mark-in-64-clause-only : goal.returns-in_ok-mark-in-64-clause-only
returns-in_ok-mark-in-64-clause-only c = op_only op_memory_grow c.args.code c.args.cursor.now.0 c.mark-in-64.new.cursor.0 tt _ c.in-64.is view_memory_grow c.in_ok-mark-in-64.ensures.only

pub returns-in_err-number-in-65-clause-malformed : goal.returns-in_err-number-in-65-clause-malformed
returns-in_err-number-in-65-clause-malformed c = let p = err_from_is_err_and c.from_residual-in_err-number-in-65.result c.from_residual-in_err-number-in-65.ensures.1 in rw p.1 (λ _. op_none op_i32_const c.args.code c.args.cursor.now.0 c.in-65.is c.in_err-number-in-65.ensures.bad)

pub returns-in_ok-number-in-65-clause-found : goal.returns-in_ok-number-in-65-clause-found
returns-in_ok-number-in-65-clause-found c = op_found op_i32_const c.args.code c.args.cursor.now.0 c.leb_s32.new.self.0 c.in_ok-number-in-65.number _ c.in-65.is (view_signed_32 c.in_ok-number-in-65.number (search rules)) c.in_ok-number-in-65.ensures.found

pub returns-in_ok-number-in-65-clause-only : goal.returns-in_ok-number-in-65-clause-only
returns-in_ok-number-in-65-clause-only c = op_only op_i32_const c.args.code c.args.cursor.now.0 c.leb_s32.new.self.0 c.in_ok-number-in-65.number _ c.in-65.is (view_signed_32 c.in_ok-number-in-65.number (search rules)) c.in_ok-number-in-65.ensures.only

pub returns-in_err-number-in-66-clause-malformed : goal.returns-in_err-number-in-66-clause-malformed
returns-in_err-number-in-66-clause-malformed c = let p = err_from_is_err_and c.from_residual-in_err-number-in-66.result c.from_residual-in_err-number-in-66.ensures.1 in rw p.1 (λ _. op_none op_i64_const c.args.code c.args.cursor.now.0 c.in-66.is c.in_err-number-in-66.ensures.bad)

pub returns-in_ok-number-in-66-clause-found : goal.returns-in_ok-number-in-66-clause-found
returns-in_ok-number-in-66-clause-found c = op_found op_i64_const c.args.code c.args.cursor.now.0 c.leb_s64.new.self.0 c.in_ok-number-in-66.number _ c.in-66.is (view_signed_64 c.in_ok-number-in-66.number (search rules)) c.in_ok-number-in-66.ensures.found

pub returns-in_ok-number-in-66-clause-only : goal.returns-in_ok-number-in-66-clause-only
returns-in_ok-number-in-66-clause-only c = op_only op_i64_const c.args.code c.args.cursor.now.0 c.leb_s64.new.self.0 c.in_ok-number-in-66.number _ c.in-66.is (view_signed_64 c.in_ok-number-in-66.number (search rules)) c.in_ok-number-in-66.ensures.only

pub returns-in_err-number-in-67-clause-malformed : goal.returns-in_err-number-in-67-clause-malformed
returns-in_err-number-in-67-clause-malformed c = let p = err_from_is_err_and c.from_residual-in_err-number-in-67.result c.from_residual-in_err-number-in-67.ensures.1 in rw p.1 (λ _. op_none op_f32_const c.args.code c.args.cursor.now.0 c.in-67.is (little_none 4 c.args.cursor.now.0 c.in_err-number-in-67.ensures.short))

pub returns-in_ok-number-in-67-clause-found : goal.returns-in_ok-number-in-67-clause-found
returns-in_ok-number-in-67-clause-found c = op_found op_f32_const c.args.code c.args.cursor.now.0 c.u32.new.self.0 c.in_ok-number-in-67.number _ c.in-67.is (view_float_const (Four c.in_ok-number-in-67.number)) (little_begins 4 c.args.cursor.now.0 c.u32.new.self.0 c.in_ok-number-in-67.number (omega arith) c.in_ok-number-in-67.ensures.found)

pub returns-in_ok-number-in-67-clause-only : goal.returns-in_ok-number-in-67-clause-only
returns-in_ok-number-in-67-clause-only c = op_only op_f32_const c.args.code c.args.cursor.now.0 c.u32.new.self.0 c.in_ok-number-in-67.number _ c.in-67.is (view_float_const (Four c.in_ok-number-in-67.number)) (little_only 4 c.args.cursor.now.0 c.u32.new.self.0 c.in_ok-number-in-67.number (omega arith) c.in_ok-number-in-67.ensures.found)

pub returns-in_err-number-in_default-clause-malformed : goal.returns-in_err-number-in_default-clause-malformed
returns-in_err-number-in_default-clause-malformed c = let same : c.args.code ≡ 0x44 = omega arith in let p = err_from_is_err_and c.from_residual-in_err-number-in_default.result c.from_residual-in_err-number-in_default.ensures.1 in rw p.1 (λ _. op_none op_f64_const c.args.code c.args.cursor.now.0 same (little_none 8 c.args.cursor.now.0 c.in_err-number-in_default.ensures.short))

pub returns-in_ok-number-in_default-clause-found : goal.returns-in_ok-number-in_default-clause-found
returns-in_ok-number-in_default-clause-found c = let same : c.args.code ≡ 0x44 = omega arith in op_found op_f64_const c.args.code c.args.cursor.now.0 c.u64.new.self.0 c.in_ok-number-in_default.number _ same (view_float_const (Eight c.in_ok-number-in_default.number)) (little_begins 8 c.args.cursor.now.0 c.u64.new.self.0 c.in_ok-number-in_default.number (omega arith) c.in_ok-number-in_default.ensures.found)

pub returns-in_ok-number-in_default-clause-only : goal.returns-in_ok-number-in_default-clause-only
returns-in_ok-number-in_default-clause-only c = let same : c.args.code ≡ 0x44 = omega arith in op_only op_f64_const c.args.code c.args.cursor.now.0 c.u64.new.self.0 c.in_ok-number-in_default.number _ same (view_float_const (Eight c.in_ok-number-in_default.number)) (little_only 8 c.args.cursor.now.0 c.u64.new.self.0 c.in_ok-number-in_default.number (omega arith) c.in_ok-number-in_default.ensures.found)
