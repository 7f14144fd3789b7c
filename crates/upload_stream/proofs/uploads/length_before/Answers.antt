use Rattle.std.proofs.Common.{◌≡◌, ◌+◌, ℕ, List, length, sym, subst, arith}
use Rattle.upload_stream.specs.Entries.{BeginsNone, BeginsWith, upload_of}
use Rattle.upload_stream.specs.inner.Reading.{IsSplitAt}
use Rattle.upload_stream.proofs.Entries.{begins_shorter}
use Rattle.upload_stream.proofs.Parts.{HasPassed, none_passed, passed_more, split_at_end, split_at_entry, split_at_none}
use Rattle.upload_stream.proofs.uploads.length_before.Goals as goal
use Rattle.upload_stream.proofs.uploads.length_before.Goals.{in_default-via-in-Ok+else-upload-tick, in_default-via-in_default}

pub each-init : goal.each-init
each-init c = record {
  passed = λ uploads list. subst (λ (p : List ℕ × ℕ). HasPassed c.args.tick p.0 p.1 uploads) (sym c.over-from.ensures) (none_passed c.args.tick c.args.bytes.now uploads list);
  place = subst (λ (p : List ℕ × ℕ). p.1 + length p.0 ≡ length c.args.bytes.now) (sym c.over-from.ensures) (omega arith);
}

pub each-smaller : goal.each-smaller
each-smaller c =
    let begins = subst (λ (p : List ℕ × ℕ). BeginsWith 0 p.0 (upload_of c.in-Ok.upload) c.entry_ahead.new.from.0) c.copy-behind.ensures c.in-Ok.ensures.found in
    omega (arith, begins_shorter 0 c.each.from.0 (upload_of c.in-Ok.upload) c.entry_ahead.new.from.0 begins)

pub each-preserved : goal.each-preserved
each-preserved c =
    let begins = subst (λ (p : List ℕ × ℕ). BeginsWith 0 p.0 (upload_of c.in-Ok.upload) c.entry_ahead.new.from.0) c.copy-behind.ensures c.in-Ok.ensures.found in
    let moved : c.entry_ahead.new.from.1 + length c.entry_ahead.new.from.0 ≡ c.each.from.1 + length c.each.from.0 = subst (λ (p : List ℕ × ℕ). c.entry_ahead.new.from.1 + length c.entry_ahead.new.from.0 ≡ p.1 + length p.0) c.copy-behind.ensures c.in-Ok.ensures.place in
    record {
      passed = λ uploads list. passed_more c.args.tick c.each.from.0 c.each.from.1 uploads (upload_of c.in-Ok.upload) c.entry_ahead.new.from.0 c.entry_ahead.new.from.1 (c.each.invariant.passed uploads list) begins c.if-upload-tick.true moved;
      place = omega (arith, moved, c.each.invariant.place);
    }

pub returns-in_default-clause-split : goal.returns-in_default-clause-split
returns-in_default-clause-split c = λ uploads list.
    subst (IsSplitAt c.args.tick uploads) (sym c.place.ensures)
    (elim c.in_default.branch [
      | in_default-via-in-Ok+else-upload-tick w ↦
          let begins = subst (λ (p : List ℕ × ℕ). BeginsWith 0 p.0 (upload_of w.in-Ok.upload) c.entry_ahead.new.from.0) c.copy-behind.ensures w.in-Ok.ensures.found in
          split_at_entry c.args.tick c.each.from.0 c.each.from.1 uploads (upload_of w.in-Ok.upload) c.entry_ahead.new.from.0 (c.each.invariant.passed uploads list) begins w.if-upload-tick.false
      | in_default-via-in_default w ↦
          let none = subst (λ (p : List ℕ × ℕ). BeginsNone 0 p.0) c.copy-behind.ensures w.in_default.ensures.none in
          split_at_none c.args.tick c.each.from.0 c.each.from.1 uploads (c.each.invariant.passed uploads list) none
    ])

pub returns-clause-split : goal.returns-clause-split
returns-clause-split c = λ uploads list.
    subst (IsSplitAt c.args.tick uploads) (sym c.place-2.ensures)
    (split_at_end c.args.tick c.each.from.0 c.each.from.1 uploads (c.each.invariant.passed uploads list) (omega (arith, c.left.ensures, c.each-test.false)))
