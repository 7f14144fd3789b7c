use Rattle.std.proofs.Common.{arith, ◌≡◌, ◌-◌, ◌*◌, ◌^◌, ◌<◌, length, refl, get_or}
use Rattle.byte_fields.proofs.Texts.{text_some, text_end, text_before}
use Rattle.byte_fields.proofs.Unsigned.{unsigned_end, unsigned_first, unsigned_step, unsigned_range, seven_bits, room_more}
use Rattle.byte_fields.proofs.leb.unsigned_value.Goals as goal
use Rattle.byte_fields.proofs.leb.unsigned_value.Goals.{else-last-eq4-via-then-last-eq4+else-text-last-ge16, else-last-eq4-via-else-last-eq4}

pub returns-then-text-last-ge16-clause-none : goal.returns-then-text-last-ge16-clause-none
returns-then-text-last-ge16-clause-none c = λ value s.
    let last = unsigned_end (length c.args.text.now - 1) 4 s (omega (arith, text_some c.requires.whole)) (omega arith) in
    omega arith

pub loop-at-init : goal.loop-at-init
loop-at-init c =
    let some = text_some c.requires.whole in
    let last = text_end (length c.args.text.now - 1) c.requires.whole (omega arith) in
    let first = unsigned_first c.args.text.now (length c.args.text.now - 1) (32 - 7 * (length c.args.text.now - 1)) (omega arith) c.requires.whole in
    elim c.else-last-eq4.branch [
      | else-last-eq4-via-then-last-eq4+else-text-last-ge16 w ↦
          let bits : 32 - 7 * (length c.args.text.now - 1) ≡ 4 = omega arith in
          let low : get_or c.args.text.now (length c.args.text.now - 1) 0 < 2 ^ 4 = omega arith in
          first (rw bits low)
      | else-last-eq4-via-else-last-eq4 w ↦ first (seven_bits _ _ last (omega arith))
    ]

pub overflow_mul-value : goal.overflow_mul-value
overflow_mul-value c =
    let room = room_more 32 c.loop-at.at c.loop-at.value c.loop-at-test.true (omega arith) (unsigned_range c.loop-at.invariant) in
    omega arith

pub overflow_sub-value : goal.overflow_sub-value
overflow_sub-value c = text_before (c.loop-at.at - 1) c.requires.whole (omega arith)

pub overflow_add-value : goal.overflow_add-value
overflow_add-value c =
    let room = room_more 32 c.loop-at.at c.loop-at.value c.loop-at-test.true (omega arith) (unsigned_range c.loop-at.invariant) in
    omega (arith, c.type_inv.text (c.loop-at.at - 1))

pub loop-at-preserved : goal.loop-at-preserved
loop-at-preserved c = unsigned_step c.args.text.now 32 c.loop-at.at c.loop-at.value _ c.loop-at-test.true (omega arith) (omega arith) refl c.requires.whole (omega (arith, c.type_inv.text (c.loop-at.at - 1))) c.loop-at.invariant
