use Rattle.std.proofs.lemmas.Result.{on_ok_weaker}
use Rattle.wasm_encode.proofs.Tagged.{gains_tagged}
use Rattle.wasm_encode.proofs.Types.{export_func_tagged, export_table_tagged, export_memory_tagged, export_global_tagged}
use Rattle.wasm_encode.proofs.values.put_export_desc.Goals as goal

pub returns-in_ok-push-in-Func : goal.returns-in_ok-push-in-Func
returns-in_ok-push-in-Func c = on_ok_weaker c.put_leb_u32.result (λ index. gains_tagged export_func_tagged c.in-Func.index c.args.desc.now c.args.out.now.items c.push.new.self.items c.put_leb_u32.new.out.items c.in-Func.is c.in_ok-push-in-Func.ensures.items index) c.put_leb_u32.ensures.written

pub returns-in_ok-push-in-Table : goal.returns-in_ok-push-in-Table
returns-in_ok-push-in-Table c = on_ok_weaker c.put_leb_u32-in-Table.result (λ index. gains_tagged export_table_tagged c.in-Table.index c.args.desc.now c.args.out.now.items c.push-in-Table.new.self.items c.put_leb_u32-in-Table.new.out.items c.in-Table.is c.in_ok-push-in-Table.ensures.items index) c.put_leb_u32-in-Table.ensures.written

pub returns-in_ok-push-in-Memory : goal.returns-in_ok-push-in-Memory
returns-in_ok-push-in-Memory c = on_ok_weaker c.put_leb_u32-in-Memory.result (λ index. gains_tagged export_memory_tagged c.in-Memory.index c.args.desc.now c.args.out.now.items c.push-in-Memory.new.self.items c.put_leb_u32-in-Memory.new.out.items c.in-Memory.is c.in_ok-push-in-Memory.ensures.items index) c.put_leb_u32-in-Memory.ensures.written

pub returns-in_ok-push-in-Global : goal.returns-in_ok-push-in-Global
returns-in_ok-push-in-Global c = on_ok_weaker c.put_leb_u32-in-Global.result (λ index. gains_tagged export_global_tagged c.in-Global.index c.args.desc.now c.args.out.now.items c.push-in-Global.new.self.items c.put_leb_u32-in-Global.new.out.items c.in-Global.is c.in_ok-push-in-Global.ensures.items index) c.put_leb_u32-in-Global.ensures.written
