use Rattle.std.proofs.lemmas.Result.{on_ok_weaker}
use Rattle.std.proofs.Common.{ap, arith}
use Rattle.wasm_values.specs.Syntax.{float_const}
use Rattle.wasm_encode.proofs.Numbers.{gains_little}
use Rattle.wasm_encode.proofs.Tagged.{gains_tagged}
use Rattle.wasm_encode.proofs.Ops.{f32_const_tagged, f64_const_tagged}
use Rattle.wasm_encode.proofs.instrs.put_float.Goals as goal

pub returns-in_ok-put_plain-in-Four : goal.returns-in_ok-put_plain-in-Four
returns-in_ok-put_plain-in-Four c = on_ok_weaker c.put_u32.result (λ bytes. gains_tagged f32_const_tagged c.in-Four.number (float_const c.args.bytes.now) c.args.out.now.items c.put_plain.new.out.items c.put_u32.new.out.items (ap float_const c.in-Four.is) c.in_ok-put_plain-in-Four.ensures (gains_little 4 c.in-Four.number c.put_plain.new.out.items c.put_u32.new.out.items (omega arith) bytes)) c.put_u32.ensures.written

pub returns-in_ok-put_plain-in-Eight : goal.returns-in_ok-put_plain-in-Eight
returns-in_ok-put_plain-in-Eight c = on_ok_weaker c.put_u64.result (λ bytes. gains_tagged f64_const_tagged c.in-Eight.number (float_const c.args.bytes.now) c.args.out.now.items c.put_plain-in-Eight.new.out.items c.put_u64.new.out.items (ap float_const c.in-Eight.is) c.in_ok-put_plain-in-Eight.ensures (gains_little 8 c.in-Eight.number c.put_plain-in-Eight.new.out.items c.put_u64.new.out.items (omega arith) bytes)) c.put_u64.ensures.written
