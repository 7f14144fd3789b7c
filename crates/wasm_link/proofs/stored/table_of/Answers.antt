use Rattle.std.proofs.Common.{◌≡◌, ℕ, ◌+◌, ◌-◌, ◌≤◌, ◌∙◌, List, Option, None, length, get_or, take, drop, ap, sym, subst, arith, All}
use Rattle.std.proofs.lemmas.List.{get_or_default, take_all}
use Rattle.wasm_link.specs.Linking.{table_size}
use Rattle.wasm_link.specs.declared.image.Stretch.{Stretch}
use Rattle.wasm_link.specs.inner.Images.{Ends, Valued, Stands, IsLaid, put}
use Rattle.wasm_link.proofs.Images.{laid_step, laid_all, part_size, put_length}
use Rattle.wasm_link.proofs.stored.table_of.Goals as goal

pub loop-at-preserved : goal.loop-at-preserved
loop-at-preserved c =
    let stretches = c.as_slice-stretches.result.now in
    let values = c.as_slice-values.result.now in
    let at = c.loop-at.at in
    let old = c.loop-at.table in
    let s : Stretch = get_or stretches at (record { start = 0; len = 0; base = 0 }) in
    let is : s ≡ get_or stretches at s = get_or_default stretches at (record { start = 0; len = 0; base = 0 }) s c.loop-at-test.true in
    let part : List (Option ℕ) = take (s.base + s.len - s.base) (drop s.base values) in
    let less : s.base + s.len - s.base ≡ s.len = omega arith in
    let ends : s.start + s.len ≤ table_size c.args.tables.now = subst (λ (z : List Stretch). All (Ends (table_size c.args.tables.now)) z) (sym c.as_slice-stretches.ensures.value) c.requires.ends at (record { start = 0; len = 0; base = 0 }) c.loop-at-test.true in
    let valued : s.base + s.len ≤ length c.args.image.now.values.items = subst (λ (z : List Stretch). All (Valued (length c.args.image.now.values.items)) z) (sym c.as_slice-stretches.ensures.value) c.requires.valued at (record { start = 0; len = 0; base = 0 }) c.loop-at-test.true in
    let count : length part ≡ s.len = part_size values s.base s.len (omega (arith, valued, ap length c.as_slice-values.ensures.value)) less in
    let fits : s.start + length part ≤ length old = omega (arith, ends, count, c.loop-at.invariant.size) in
    let made : c.write_span.new.self ≡ put old s.start part = c.write_span.ensures.written (c.write_span.ensures.range.1 fits) in
    record {
      within = omega (arith, c.loop-at-test.true);
      size = ap length made ∙ put_length old part s.start fits ∙ c.loop-at.invariant.size;
      laid = λ content same stands.
          laid_step None stretches values content old c.write_span.new.self part at s c.loop-at-test.true is stands (c.loop-at.invariant.laid content same stands) (ap (λ z. take z (drop s.base values)) less) made;
    }

pub returns : goal.returns
returns c = λ content same stands.
    let stretches = c.as_slice-stretches.result.now in
    let values = c.as_slice-values.result.now in
    let here : Stands None stretches values content =
    subst (λ (z : List Stretch). Stands None z values content) (sym c.as_slice-stretches.ensures.value) (subst (λ (z : List (Option ℕ)). Stands None c.args.image.now.stretches.items z content) (sym c.as_slice-values.ensures.value) stands) in
    let laid = subst (λ (z : List Stretch). IsLaid None z content c.loop-at.table) (take_all c.loop-at.at stretches (omega (arith, c.loop-at-test.false))) (c.loop-at.invariant.laid content same here) in
    laid_all None stretches values content c.loop-at.table here laid
