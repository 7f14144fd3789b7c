use Rattle.std.proofs.Common.{◌≡◌, ℕ, ◌+◌, ◌-◌, ◌≤◌, ◌∙◌, List, length, get_or, take, drop, ap, ap₂, sym, subst, arith, All}
use Rattle.std.proofs.lemmas.List.{get_or_default, take_all}
use Rattle.wasm_store.specs.Memory.{Memory, written}
use Rattle.wasm_link.specs.Linking.{first_memory}
use Rattle.wasm_link.specs.declared.image.Stretch.{Stretch}
use Rattle.wasm_link.specs.inner.Images.{Ends, Valued, Stands, IsLaid}
use Rattle.wasm_link.proofs.Images.{laid_step, laid_all, part_size}
use Rattle.wasm_link.proofs.Begun.{written_size}
use Rattle.wasm_link.proofs.stored.memory_of.Goals as goal

memory_is : (a b : Memory) → a.bytes ≡ b.bytes → a.limit ≡ b.limit → a ≡ b
memory_is a b e f = ap₂ (λ (x : List ℕ) (y : ℕ). record { bytes = x; limit = y }) e f

pub loop-at-preserved : goal.loop-at-preserved
loop-at-preserved c =
    let stretches = c.as_slice-stretches.result.now in
    let values = c.as_slice-values.result.now in
    let at = c.loop-at.at in
    let old = c.loop-at.pages in
    let s : Stretch = get_or stretches at (record { start = 0; len = 0; base = 0 }) in
    let is : s ≡ get_or stretches at s = get_or_default stretches at (record { start = 0; len = 0; base = 0 }) s c.loop-at-test.true in
    let part : List ℕ = take (s.base + s.len - s.base) (drop s.base values) in
    let less : s.base + s.len - s.base ≡ s.len = omega arith in
    let ends : s.start + s.len ≤ length (first_memory c.args.memories.now).bytes = subst (λ (z : List Stretch). All (Ends (length (first_memory c.args.memories.now).bytes)) z) (sym c.as_slice-stretches.ensures.value) c.requires.ends at (record { start = 0; len = 0; base = 0 }) c.loop-at-test.true in
    let valued : s.base + s.len ≤ length c.args.image.now.values.items = subst (λ (z : List Stretch). All (Valued (length c.args.image.now.values.items)) z) (sym c.as_slice-stretches.ensures.value) c.requires.valued at (record { start = 0; len = 0; base = 0 }) c.loop-at-test.true in
    let count : length part ≡ s.len = part_size values s.base s.len (omega (arith, valued, ap length c.as_slice-values.ensures.value)) less in
    let fits : s.start + length part ≤ length old.bytes = omega (arith, ends, count, c.loop-at.invariant.size) in
    let made : c.write_span.new.self ≡ written old s.start part = c.write_span.ensures.written (c.write_span.ensures.range.1 fits) in
    record {
      within = omega (arith, c.loop-at-test.true);
      size = ap (λ (z : Memory). length z.bytes) made ∙ written_size old s.start part fits ∙ c.loop-at.invariant.size;
      limit = ap (λ (z : Memory). z.limit) made ∙ c.loop-at.invariant.limit;
      laid = λ memory same stands.
          laid_step 0 stretches values memory.bytes old.bytes c.write_span.new.self.bytes part at s c.loop-at-test.true is stands (c.loop-at.invariant.laid memory same stands) (ap (λ z. take z (drop s.base values)) less) (ap (λ (z : Memory). z.bytes) made);
    }

pub returns : goal.returns
returns c = λ memory same limit stands.
    let stretches = c.as_slice-stretches.result.now in
    let values = c.as_slice-values.result.now in
    let here : Stands 0 stretches values memory.bytes =
    subst (λ (z : List Stretch). Stands 0 z values memory.bytes) (sym c.as_slice-stretches.ensures.value) (subst (λ (z : List ℕ). Stands 0 c.args.image.now.stretches.items z memory.bytes) (sym c.as_slice-values.ensures.value) stands) in
    let laid = subst (λ (z : List Stretch). IsLaid 0 z memory.bytes c.loop-at.pages.bytes) (take_all c.loop-at.at stretches (omega (arith, c.loop-at-test.false))) (c.loop-at.invariant.laid memory same here) in
    memory_is c.loop-at.pages memory (laid_all 0 stretches values memory.bytes c.loop-at.pages.bytes here laid) (c.loop-at.invariant.limit ∙ sym limit)
