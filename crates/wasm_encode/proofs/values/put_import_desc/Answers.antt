use Rattle.std.proofs.lemmas.Result.{on_ok_weaker}
use Rattle.wasm_encode.proofs.Tagged.{gains_tagged}
use Rattle.wasm_encode.proofs.Types.{import_func_tagged, import_table_tagged, import_memory_tagged, import_global_tagged}
use Rattle.wasm_encode.proofs.values.put_import_desc.Goals as goal

pub returns-in_ok-push-in-Func : goal.returns-in_ok-push-in-Func
returns-in_ok-push-in-Func c = on_ok_weaker c.put_leb_u32.result (λ inner. gains_tagged import_func_tagged c.in-Func.index c.args.desc.now c.args.out.now.items c.push.new.self.items c.put_leb_u32.new.out.items c.in-Func.is c.in_ok-push-in-Func.ensures.items inner) c.put_leb_u32.ensures.written

pub returns-in_ok-push-in-Table : goal.returns-in_ok-push-in-Table
returns-in_ok-push-in-Table c = on_ok_weaker c.put_table_type.result (λ inner. gains_tagged import_table_tagged c.in-Table.bounds c.args.desc.now c.args.out.now.items c.push-in-Table.new.self.items c.put_table_type.new.out.items c.in-Table.is c.in_ok-push-in-Table.ensures.items inner) c.put_table_type.ensures

pub returns-in_ok-push-in-Memory : goal.returns-in_ok-push-in-Memory
returns-in_ok-push-in-Memory c = on_ok_weaker c.put_bounds.result (λ inner. gains_tagged import_memory_tagged c.in-Memory.bounds c.args.desc.now c.args.out.now.items c.push-in-Memory.new.self.items c.put_bounds.new.out.items c.in-Memory.is c.in_ok-push-in-Memory.ensures.items inner) c.put_bounds.ensures

pub returns-in_ok-push-in-Global : goal.returns-in_ok-push-in-Global
returns-in_ok-push-in-Global c = on_ok_weaker c.put_global_type.result (λ inner. gains_tagged import_global_tagged c.in-Global.kind c.args.desc.now c.args.out.now.items c.push-in-Global.new.self.items c.put_global_type.new.out.items c.in-Global.is c.in_ok-push-in-Global.ensures.items inner) c.put_global_type.ensures
