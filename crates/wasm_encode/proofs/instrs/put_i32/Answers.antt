use Rattle.std.proofs.lemmas.Result.{on_ok_weaker}
use Rattle.std.proofs.Common.{◌≡◌, refl, arith, w32, w64, to_z, of_z, ap, ◌∙◌, FitsSigned}
use Rattle.std.proofs.lemmas.Int.{to_z-of_z, ints}
use Rattle.wasm_values.specs.Syntax.{i32_const}
use Rattle.wasm_encode.proofs.Numbers.{gains_signed}
use Rattle.wasm_encode.proofs.Tagged.{gains_tagged, inner_spelled}
use Rattle.wasm_encode.proofs.Ops.{i32_const_tagged}
use Rattle.wasm_encode.proofs.instrs.put_i32.Goals as goal

pub returns : goal.returns
returns c =
    let number = c.args.number in
    let spelled = inner_spelled i32_const_tagged number (i32_const number) refl c.requires in
    let same : c.from.result ≡ number = c.from.ensures ∙ to_z-of_z w32 number c.ranges.number in
    let fits : FitsSigned w64 number = omega (arith, ints) in
    let kept : to_z w64 (of_z w64 c.from.result) ≡ number = ap (λ z. to_z w64 (of_z w64 z)) same ∙ to_z-of_z w64 number fits in
    on_ok_weaker c.put_leb_s64.result (λ written. gains_tagged i32_const_tagged number (i32_const number) c.args.out.now.items c.put_plain.new.out.items c.put_leb_s64.new.out.items refl c.in_ok-put_plain.ensures (gains_signed number c.put_plain.new.out.items c.put_leb_s64.new.out.items spelled written)) (rw kept at c.put_leb_s64.ensures.written)
