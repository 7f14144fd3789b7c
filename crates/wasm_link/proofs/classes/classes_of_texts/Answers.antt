use Rattle.std.proofs.Common.{◌≡◌, ◌∙◌, ◌+◌, ℕ, sym, ap, subst, arith, map, List, Some, slice_get, Vec, Global}
use Rattle.std.proofs.lemmas.List.{length-map}
use Rattle.wasm_link.proofs.Each.{get_map, read_at}
use Rattle.wasm_link.proofs.Known.{Known, known_more, known_end}
use Rattle.wasm_link.proofs.classes.classes_of_texts.Goals as goal

pub loop-at-preserved : goal.loop-at-preserved
loop-at-preserved c =
    let texts = c.args.texts.now in
    let at = c.loop-at.at in
    let class = c.in_ok-class.class in
    let old = c.loop-at.classes.items in
    let items : Vec ℕ Global → List ℕ = λ text. text.items in
    let is : slice_get (map items texts) at ≡ Some c.as_slice.result.now =
    get_map items texts at c.index-texts-at.result (read_at texts at c.index-texts-at.result c.loop-at-test.true c.index-texts-at.is) ∙ ap Some (sym c.as_slice.ensures.value) in
    let more = known_more (map items texts) old at class c.as_slice.result.now c.loop-at.known c.class_of.new.known is c.loop-at.invariant.count c.loop-at.invariant.known c.in_ok-class.ensures in
    record {
      within = omega (arith, c.loop-at-test.true);
      count = grind (arith, c.in_ok-push.ensures.len, c.loop-at.invariant.count);
      known = subst (λ (z : List ℕ). Known (map items texts) z (at + 1) c.class_of.new.known) (sym c.in_ok-push.ensures.items) more;
    }

pub returns : goal.returns
returns c =
    let texts = c.args.texts.now in
    let items : Vec ℕ Global → List ℕ = λ text. text.items in
    let size = length-map texts items in
    known_end (map items texts) c.loop-at.classes.items c.loop-at.at c.loop-at.known c.loop-at.invariant.count (omega (arith, size, c.loop-at.invariant.within, c.loop-at-test.false)) c.loop-at.invariant.known
