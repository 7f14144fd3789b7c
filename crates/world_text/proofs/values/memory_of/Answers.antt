use Rattle.std.proofs.Common.{◌≡◌, ◌*◌, ◌<◌, ◌^◌, ◌∙◌, ap, sym, length, arith}
use Rattle.std.specs.List.{AllByRecursion}
use Rattle.serde_json.specs.Data.{string}
use Rattle.serde_json.specs.View.{view}
use Rattle.world_form.specs.Digits.{hex}
use Rattle.world_form.specs.Facts.{IsMemoryText}
use Rattle.world_text.proofs.Passes.{text_is, one_text, hex_length, reads_ok}
use Rattle.world_text.proofs.values.memory_of.Goals.{then-text-ne0-via-then-text-ne0, then-text-ne0-via-else-text-ne0+then-text-most_memory}
use Rattle.world_text.proofs.values.memory_of.Goals as goal

pub returns-then-text-ne0 : goal.returns-then-text-ne0
returns-then-text-ne0 c = λ said e.
    let same = one_text c.in-Some.text.now (hex said) (sym (text_is (view c.args.value.now) c.in-Some.text.now c.in-Some.ensures) ∙ e.0) in
    let long : length c.in-Some.text.now ≡ 2 * length said = ap length same ∙ hex_length said in
    elim c.then-text-ne0.branch [
      | then-text-ne0-via-then-text-ne0 w ↦ omega (arith, w.if-text-ne0.true)
      | then-text-ne0-via-else-text-ne0+then-text-most_memory w ↦ omega (arith, e.1, w.if-text-most_memory.true)
    ]

pub returns : goal.returns
returns c =
    let text = c.in-Some.text.now in
    let value = text_is (view c.args.value.now) text c.in-Some.ensures in
    reads_ok (λ bytes. (c.as_bytes.result.now ≡ hex bytes) × AllByRecursion (λ byte. byte < 2 ^ 8) bytes) (IsMemoryText (view c.args.value.now))
    (λ bytes said.
    let same : text ≡ hex bytes = sym c.as_bytes.ensures.value ∙ said.0 in
    let long : length text ≡ 2 * length bytes = ap length same ∙ hex_length bytes in
    (value ∙ ap string same, omega arith, said.1))
    (λ bytes said. (c.as_bytes.ensures.value ∙ one_text text (hex bytes) (sym value ∙ said.0), said.2))
    c.bytes_of.result c.bytes_of.ensures
