use Rattle.std.proofs.Common.{◌≡◌, ◌∙◌, ap, sym, refl, length, Bool, true, false, not, Some, slice_get, arith}
use Rattle.std.specs.BTreeSet.{contains}
use Rattle.std.proofs.lemmas.Option.{slice_get_read}
use Rattle.wasm_values.specs.declared.exports.Export.{Export}
use Rattle.wasm_validate.proofs.Named.{by_bytes, name_stands, named_more, names_end}
use Rattle.wasm_validate.proofs.names.names_differ.Goals as goal

turned : (stands added : Bool) → added ≡ not stands → added ≡ false → stands ≡ true
turned true added e f = refl
turned false added e f = absurd cc

kept : (stands added : Bool) → added ≡ not stands → added ≡ true → stands ≡ false
kept true added e f = absurd cc
kept false added e f = refl

pub returns-then-not-branch : goal.returns-then-not-branch
returns-then-not-branch c =
    let exports = c.args.exports.now in
    let at = c.loop-at.at in
    let x = c.index-exports-at.result in
    let key = c.as_slice.result in
    let is : slice_get exports at ≡ Some x = slice_get_read exports (length exports) at x refl (omega (arith, c.loop-at-test.true)) c.index-exports-at.is in
    let named : x.name ≡ key.now = ap (λ (z : Export). z.name) c.index-exports-at.is ∙ sym c.as_slice.ensures in
    let stands : contains by_bytes c.loop-at.names key ≡ true = turned (contains by_bytes c.loop-at.names key) c.in_ok-insert.field-0 c.in_ok-insert.ensures.added c.if-not-branch.true in
    name_stands exports at x key c.loop-at.names c.insert.new.self is named c.loop-at.invariant.named stands

pub loop-at-preserved : goal.loop-at-preserved
loop-at-preserved c =
    let exports = c.args.exports.now in
    let at = c.loop-at.at in
    let x = c.index-exports-at.result in
    let key = c.as_slice.result in
    let is : slice_get exports at ≡ Some x = slice_get_read exports (length exports) at x refl (omega (arith, c.loop-at-test.true)) c.index-exports-at.is in
    let named : x.name ≡ key.now = ap (λ (z : Export). z.name) c.index-exports-at.is ∙ sym c.as_slice.ensures in
    let new : contains by_bytes c.loop-at.names key ≡ false = kept (contains by_bytes c.loop-at.names key) c.in_ok-insert.field-0 c.in_ok-insert.ensures.added c.if-not-branch.false in
    record {
      within = omega (arith, c.loop-at-test.true);
      named = named_more exports at x key c.loop-at.names c.insert.new.self is named c.loop-at.invariant.named new c.in_ok-insert.ensures.updates.0;
    }

pub returns : goal.returns
returns c = names_end c.args.exports.now c.loop-at.at c.loop-at.names (omega (arith, c.loop-at-test.false)) c.loop-at.invariant.named
