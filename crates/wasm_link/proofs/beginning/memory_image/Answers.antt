use Rattle.std.proofs.Common.{◌≡◌, length, rules, ◌∙◌}
use Rattle.std.specs.Prelude.{replicate}
use Rattle.wasm_link.proofs.Images.{resized, image_starts, image_ends}
use Rattle.wasm_link.proofs.beginning.memory_image.Goals as goal

pub returns : goal.returns
returns c = λ memory fit blank.
    let stretches = c.in_ok-stretches.stretches.items in
    let zeros : c.as_mut_slice.result.now ≡ replicate c.count_of.result 0 = c.as_mut_slice.ensures.value ∙ resized c.new-values.result.items c.resize.new.self.items c.count_of.result c.new-values.result.len 0 c.new-values.ensures.items c.new-values.ensures.len c.in_ok-resize.ensures.items in
    let size : length c.write_segments.new.values ≡ c.resize.new.self.len = search rules in
    let start = image_starts 0 stretches c.as_slice.result.now c.as_slice-2.result.now c.count_of.result c.as_mut_slice.result.now memory.bytes c.as_slice.ensures.value c.as_slice-2.ensures.value c.count_of.ensures (c.in_ok-stretches.ensures.ends (length memory.bytes) fit) zeros blank in
    image_ends 0 stretches c.as_slice-2.result.now c.write_segments.new.values _ _ c.resize.new.self.len c.as_slice-2.ensures.value size (c.write_segments.ensures.written memory fit start)
