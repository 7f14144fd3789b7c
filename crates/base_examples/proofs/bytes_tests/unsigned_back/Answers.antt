use Rattle.std.proofs.Common.{◌≡◌, ◌++◌, ap, ◌∙◌}
use Rattle.byte_fields.specs.Leb.{SpellsUnsigned}
use Rattle.byte_fields.proofs.Fronts.{reads_front}
use Rattle.base_examples.proofs.bytes_tests.unsigned_back.Goals as goal

pub returns : goal.returns
returns c =
    let written = c.in_ok-put_leb_u32.ensures.written in
    let bytes : c.over-cursor.result.0 ≡ written.0 ++ c.args.behind.now =
    ap (λ z. z.0) c.over-cursor.ensures ∙ c.deref.ensures.value ∙ c.in_ok-extend_from_slice.ensures.items
    ∙ ap (λ z. z ++ c.args.behind.now) (written.2 ∙ ap (λ z. z ++ written.0) c.new-out.ensures.items) in
    reads_front (SpellsUnsigned 32) c.over-cursor.result.0 c.leb_u32.new.self.0 c.args.behind.now c.args.value c.leb_u32.result c.leb_u32.ensures.only c.leb_u32.ensures.bad (written.0, written.1.0, bytes)
