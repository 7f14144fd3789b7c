use Rattle.std.proofs.Common.{◌<◌, ◌++◌, get_or, string_bytes, ap, ◌∙◌, arith}
use Rattle.world_text.proofs.Passes.{hex_digit_small, hex_next}
use Rattle.world_text.proofs.write.hex_text.Goals as goal

pub loop-byte-preserved : goal.loop-byte-preserved
loop-byte-preserved c =
    let fits : get_or c.args.bytes.now c.loop-byte.byte-index 0 < 256 =
    omega (arith, c.type_inv.bytes c.loop-byte.byte-index) in
    let high : c.digit_of.result < 128 = rw c.digit_of.ensures (hex_digit_small _ (omega (arith, fits))) in
    let low : c.digit_of-in-loop-byte.result < 128 =
    rw c.digit_of-in-loop-byte.ensures (hex_digit_small _ (omega (arith, fits))) in
    hex_next c.args.bytes.now (string_bytes c.loop-byte.text) (string_bytes c.push.new.self)
    (string_bytes c.push-in-loop-byte.new.self) c.loop-byte.byte-index c.digit_of.result c.digit_of-in-loop-byte.result
    c.loop-byte-test.true c.loop-byte.invariant c.digit_of.ensures c.digit_of-in-loop-byte.ensures
    (c.in_ok-push.ensures.bytes ∙ ap (λ v. string_bytes c.loop-byte.text ++ v) (c.in_ok-push.ensures.ascii high))
    (c.in_ok-push-2.ensures.bytes ∙ ap (λ v. string_bytes c.push.new.self ++ v) (c.in_ok-push-2.ensures.ascii low))
