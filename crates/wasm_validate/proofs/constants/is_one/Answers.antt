use Rattle.std.proofs.Common.{ap, ◌∙◌}
use Rattle.wasm_values.specs.View.{instr_view}
use Rattle.wasm_values.proofs.Views.{view_i32_const, view_i64_const, view_global_get}
use Rattle.wasm_validate.proofs.OneConstant.{one_i32, one_i64, one_global}
use Rattle.wasm_validate.proofs.constants.is_one.Goals as goal

pub returns-in-I32Const : goal.returns-in-I32Const
returns-in-I32Const c = one_i32 c.args.imported.now c.in-I32Const.field-0 (instr_view c.args.instr.now) c.args.value c.is_same.result (ap instr_view c.in-I32Const.is ∙ view_i32_const c.in-I32Const.field-0) c.is_same.ensures

pub returns-in-I64Const : goal.returns-in-I64Const
returns-in-I64Const c = one_i64 c.args.imported.now c.in-I64Const.field-0 (instr_view c.args.instr.now) c.args.value c.is_same-in-I64Const.result (ap instr_view c.in-I64Const.is ∙ view_i64_const c.in-I64Const.field-0) c.is_same-in-I64Const.ensures

pub returns-in-GlobalGet : goal.returns-in-GlobalGet
returns-in-GlobalGet c = one_global c.args.imported.now c.in-GlobalGet.index (instr_view c.args.instr.now) c.args.value c.is_imported.result (ap instr_view c.in-GlobalGet.is ∙ view_global_get c.in-GlobalGet.index) c.is_imported.ensures
