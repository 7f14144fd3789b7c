use Rattle.std.proofs.lemmas.Result.{on_ok_weaker}
use Rattle.std.proofs.Common.{refl, w64}
use Rattle.std.proofs.lemmas.Int.{to_z-of_z}
use Rattle.wasm_values.specs.Syntax.{i64_const}
use Rattle.wasm_encode.proofs.Tagged.{gains_tagged}
use Rattle.wasm_encode.proofs.Ops.{i64_const_tagged}
use Rattle.wasm_encode.proofs.instrs.put_i64.Goals as goal

pub returns : goal.returns
returns c = on_ok_weaker c.put_leb_s64.result (λ number. gains_tagged i64_const_tagged c.args.number (i64_const c.args.number) c.args.out.now.items c.put_plain.new.out.items c.put_leb_s64.new.out.items refl c.in_ok-put_plain.ensures number) (rw (to_z-of_z w64 c.args.number c.ranges.number) at c.put_leb_s64.ensures.written)
