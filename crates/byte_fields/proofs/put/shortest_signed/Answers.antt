use Rattle.std.proofs.Common.{arith, ◌≡◌, ◌+◌, ◌-◌, ◌*◌, ◌%◌, ◌^◌, ◌<◌, ◌≤◌, inl, inr, FitsSigned, to_z, of_z, w64, [], ◌∷◌, take, sym}
use Rattle.std.proofs.lemmas.List.{take_more_set}
use Rattle.std.proofs.lemmas.Int.{ints, to_z-of_z, of_z-to_z}
use Rattle.std.proofs.Math.Pow.{pow_mono}
use Rattle.std.specs.Int.{int_shr}
use Rattle.byte_fields.specs.Leb.{SpellsSigned}
use Rattle.byte_fields.proofs.Signed.{half_more, IsWithin, within_fits}
use Rattle.byte_fields.proofs.Written.{leads_more}
use Rattle.byte_fields.proofs.WrittenSigned.{IsOutside, outside_wide, split_low, low_is, within_less, signed_shortest_last, signed_shortest_more, signed_shortest_one}
use Rattle.byte_fields.proofs.put.shortest_signed.Goals as goal
use Rattle.byte_fields.proofs.put.shortest_signed.Goals.{then-high-ltminus64, else-high-ltminus64+then-high-ge64}

pub loop-high-preserved : goal.loop-high-preserved
loop-high-preserved c =
    let i = c.loop-high.invariant in
    let back : c.loop-high.high-bits ≡ of_z w64 (to_z w64 c.loop-high.high-bits) = sym (of_z-to_z w64 c.loop-high.high-bits (omega arith)) in
    let fits : FitsSigned w64 (to_z w64 c.loop-high.high-bits) = omega (arith, ints) in
    let out : IsOutside (to_z w64 c.loop-high.high-bits) =
    elim c.if-high-ltminus64.branch [ then-high-ltminus64 w ↦ inl (omega (arith, ints, w.if-high-ltminus64.true)) | else-high-ltminus64+then-high-ge64 w ↦ inr (omega (arith, ints, w.if-high-ge64.true)) ] in
    let bits = outside_wide (64 - 7 * c.loop-high.last) (to_z w64 c.loop-high.high-bits) out i.small in
    let next : 64 - 7 * c.loop-high.last - 7 ≡ 64 - 7 * (c.loop-high.last + 1) = omega arith in
    let whole = split_low (to_z w64 c.loop-high.high-bits) c.loop-high.high-bits fits back in
    let low : c.loop-high.high-bits % 128 < 128 = omega arith in
    let half = half_more (64 - 7 * c.loop-high.last) bits in
    let small : IsWithin (2 ^ (64 - 7 * (c.loop-high.last + 1) - 1)) (int_shr (to_z w64 c.loop-high.high-bits) 7) = rw next at (within_less (2 ^ (64 - 7 * c.loop-high.last - 7 - 1)) (to_z w64 c.loop-high.high-bits) (int_shr (to_z w64 c.loop-high.high-bits) 7) (c.loop-high.high-bits % 128) (rw half at i.small) whole low) in
    let grows : 2 ^ (64 - 7 * (c.loop-high.last + 1) - 1) ≤ 2 ^ 63 = pow_mono {j = 63} (omega arith) in
    let kept : to_z w64 (of_z w64 (int_shr (to_z w64 c.loop-high.high-bits) 7)) ≡ int_shr (to_z w64 c.loop-high.high-bits) 7 = to_z-of_z w64 _ (within_fits _ _ grows small) in
    let leads = leads_more (SpellsSigned 64) (SpellsSigned (64 - 7 * c.loop-high.last)) (SpellsSigned (64 - 7 * (c.loop-high.last + 1))) (take c.loop-high.last c.loop-high.text) _ (to_z w64 (of_z w64 c.args.value)) (to_z w64 c.loop-high.high-bits) (int_shr (to_z w64 c.loop-high.high-bits) 7) (c.loop-high.high-bits % 128 + 128) i.leads (take_more_set c.loop-high.text c.loop-high.last (c.loop-high.high-bits % 128 + 128) (omega arith)) (λ bytes s. signed_shortest_more (64 - 7 * c.loop-high.last) (to_z w64 c.loop-high.high-bits) (c.loop-high.high-bits % 128) (int_shr (to_z w64 c.loop-high.high-bits) 7) bytes low bits out whole (rw next s)) in
    record {
      room = omega arith;
      small = rw kept small;
      leads = rw (low_is c.loop-high.high-bits, kept) leads;
    }

pub returns-clause-shortest : goal.returns-clause-shortest
returns-clause-shortest c =
    let i = c.loop-high.invariant in
    let back : c.loop-high.high-bits ≡ of_z w64 (to_z w64 c.loop-high.high-bits) = sym (of_z-to_z w64 c.loop-high.high-bits (omega arith)) in
    let last = signed_shortest_last (64 - 7 * c.loop-high.last) (to_z w64 c.loop-high.high-bits) c.loop-high.high-bits back (omega (arith, ints, c.if-high-ltminus64.false)) (omega (arith, ints, c.if-high-ge64.false)) i.small in
    let all = rw (to_z-of_z w64 c.args.value c.ranges.value) at (i.leads (c.loop-high.high-bits % 128 ∷ []) last) in
    rw (low_is c.loop-high.high-bits, take_more_set c.loop-high.text c.loop-high.last (c.loop-high.high-bits % 128) (omega arith)) all

pub returns-clause-only : goal.returns-clause-only
returns-clause-only c = λ other s. signed_shortest_one 64 c.args.value other _ s (returns-clause-shortest c)
