use Rattle.std.proofs.Common.{[], ◌∷◌, ap, sym, ◌∙◌}
use Rattle.wasm_values.specs.Values.{spells_no_result, spells_one_result}
use Rattle.wasm_values.proofs.Spelled.{block_only}
use Rattle.wasm_values.proofs.fields.block_type.Goals as goal

pub returns-then-byte-eq64-clause-found : goal.returns-then-byte-eq64-clause-found
returns-then-byte-eq64-clause-found c = (0x40 ∷ [], spells_no_result, c.in_ok-byte.ensures.found ∙ ap (λ z. z ∷ c.u8.new.self.0) c.if-byte-eq64.true)

pub returns-in-Some-clause-found : goal.returns-in-Some-clause-found
returns-in-Some-clause-found c = (c.in_ok-byte.byte ∷ [], spells_one_result c.in-Some.ensures.found, c.in_ok-byte.ensures.found)

pub returns-in-Some-clause-only : goal.returns-in-Some-clause-only
returns-in-Some-clause-only c = λ other more (text, s, e). block_only text more c.u8.new.self.0 c.in_ok-byte.byte c.in-Some.value other s c.in-Some.ensures.found (sym c.in_ok-byte.ensures.found ∙ e)
