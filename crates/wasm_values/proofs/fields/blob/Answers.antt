use Rattle.std.proofs.Common.{sym, ◌∙◌}
use Rattle.wasm_values.proofs.fields.blob.Goals as goal

pub returns-clause-only : goal.returns-clause-only
returns-clause-only c = λ other more b. let one = c.in_ok-content.ensures.only other more b in (one.0 ∙ sym (c.in_ok-kept.ensures ∙ c.in_ok-list.ensures.items), one.1)
