use Rattle.std.proofs.Common.{◌≡◌, None, length, rules, ◌∙◌}
use Rattle.std.specs.Prelude.{replicate}
use Rattle.wasm_link.proofs.Images.{resized, image_starts, image_ends}
use Rattle.wasm_link.proofs.beginning.table_image.Goals as goal

pub returns : goal.returns
returns c = λ table fit blank.
    let stretches = c.in_ok-stretches.stretches.items in
    let empty : c.as_mut_slice.result.now ≡ replicate c.count_of.result None = c.as_mut_slice.ensures.value ∙ resized c.new-values.result.items c.resize.new.self.items c.count_of.result c.new-values.result.len None c.new-values.ensures.items c.new-values.ensures.len c.in_ok-resize.ensures.items in
    let size : length c.write_elements.new.values ≡ c.resize.new.self.len = search rules in
    let start = image_starts None stretches c.as_slice.result.now c.as_slice-2.result.now c.count_of.result c.as_mut_slice.result.now table c.as_slice.ensures.value c.as_slice-2.ensures.value c.count_of.ensures (c.in_ok-stretches.ensures.ends (length table) fit) empty blank in
    image_ends None stretches c.as_slice-2.result.now c.write_elements.new.values _ _ c.resize.new.self.len c.as_slice-2.ensures.value size (c.write_elements.ensures.written table fit start)
