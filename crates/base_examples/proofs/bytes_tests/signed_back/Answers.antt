use Rattle.std.proofs.Common.{◌≡◌, ◌++◌, ap, ◌∙◌, w64}
use Rattle.std.proofs.lemmas.Int.{to_z-of_z}
use Rattle.byte_fields.specs.Leb.{SpellsSigned}
use Rattle.byte_fields.proofs.Fronts.{reads_front}
use Rattle.base_examples.proofs.bytes_tests.signed_back.Goals as goal

pub returns : goal.returns
returns c =
    let written = rw (to_z-of_z w64 c.args.value c.ranges.value) at c.in_ok-put_leb_s64.ensures.written in
    let bytes : c.over-cursor.result.0 ≡ written.0 ++ c.args.behind.now =
    ap (λ z. z.0) c.over-cursor.ensures ∙ c.deref.ensures.value ∙ c.in_ok-extend_from_slice.ensures.items
    ∙ ap (λ z. z ++ c.args.behind.now) (written.2 ∙ ap (λ z. z ++ written.0) c.new-out.ensures.items) in
    reads_front (SpellsSigned 64) c.over-cursor.result.0 c.leb_s64.new.self.0 c.args.behind.now c.args.value c.leb_s64.result c.leb_s64.ensures.only c.leb_s64.ensures.bad (written.0, written.1.0, bytes)
