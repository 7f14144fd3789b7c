use Rattle.std.proofs.Common.{refl, arith, ◌-◌, ◌*◌, length, get_or, FitsSigned, to_z, w64}
use Rattle.byte_fields.proofs.Texts.{text_some, text_end, text_before, drop_last}
use Rattle.byte_fields.proofs.Signed.{signed_end, signed_step, spelled_fits, times_fits, read_sum}
use Rattle.std.proofs.lemmas.Int.{to_z-of_z}
use Rattle.byte_fields.proofs.leb.signed_value.Goals as goal

pub signed_last-requires-clause-last : goal.signed_last-requires-clause-last
signed_last-requires-clause-last c = text_end (length c.args.text.now - 1) c.requires.whole (omega (arith, text_some c.requires.whole))

pub returns-in_err-value-clause-none : goal.returns-in_err-value-clause-none
returns-in_err-value-clause-none c = rw c.from_residual.ensures (λ value s. let last = signed_end (length c.args.text.now - 1) (c.args.width - 7 * (length c.args.text.now - 1)) s (omega (arith, text_some c.requires.whole)) refl in c.in_err-value.ensures.none last.0 last.1)

pub loop-at-init : goal.loop-at-init
loop-at-init c =
    let some = text_some c.requires.whole in
    let spelled = c.in_ok-value.ensures.spelled in
    let fits : FitsSigned w64 c.in_ok-value.value = spelled_fits _ spelled (omega arith) (omega arith) in
    rw (drop_last c.args.text.now (length c.args.text.now - 1) (omega arith), to_z-of_z w64 c.in_ok-value.value fits) spelled

pub overflow_mul-value : goal.overflow_mul-value
overflow_mul-value c = times_fits _ c.loop-at.invariant (omega arith) (omega arith)

pub overflow_sub-value : goal.overflow_sub-value
overflow_sub-value c = text_before (c.loop-at.at - 1) c.requires.whole (omega arith)

pub overflow_add-value : goal.overflow_add-value
overflow_add-value c =
    let some = text_some c.requires.whole in
    let step = signed_step c.args.text.now c.args.width c.loop-at.at (to_z w64 c.loop-at.value-bits) _ c.loop-at-test.true (omega arith) (omega arith) refl c.requires.whole (omega (arith, c.type_inv.text (c.loop-at.at - 1))) c.loop-at.invariant in
    let times = times_fits _ c.loop-at.invariant (omega arith) (omega arith) in
    rw (read_sum (to_z w64 c.loop-at.value-bits) (get_or c.args.text.now (c.loop-at.at - 1) 0 - 128) times (omega (arith, c.type_inv.text (c.loop-at.at - 1)))) (spelled_fits _ step (omega arith) (omega arith))

pub loop-at-preserved : goal.loop-at-preserved
loop-at-preserved c =
    let some = text_some c.requires.whole in
    let step = signed_step c.args.text.now c.args.width c.loop-at.at (to_z w64 c.loop-at.value-bits) _ c.loop-at-test.true (omega arith) (omega arith) refl c.requires.whole (omega (arith, c.type_inv.text (c.loop-at.at - 1))) c.loop-at.invariant in
    let times = times_fits _ c.loop-at.invariant (omega arith) (omega arith) in
    let fits = spelled_fits _ step (omega arith) (omega arith) in
    rw (read_sum (to_z w64 c.loop-at.value-bits) (get_or c.args.text.now (c.loop-at.at - 1) 0 - 128) times (omega (arith, c.type_inv.text (c.loop-at.at - 1))), to_z-of_z w64 _ fits) step
