use Rattle.std.proofs.Common.{[], ◌∷◌, ap, ◌∙◌}
use Rattle.wasm_values.specs.Values.{spells_constant, spells_variable}
use Rattle.wasm_values.proofs.fields.mutable.Goals as goal

pub returns-in-0-clause-found : goal.returns-in-0-clause-found
returns-in-0-clause-found c = (0x00 ∷ [], spells_constant, c.in_ok-byte.ensures.found ∙ ap (λ z. z ∷ c.u8.new.self.0) c.in-0.is)

pub returns-in-1-clause-found : goal.returns-in-1-clause-found
returns-in-1-clause-found c = (0x01 ∷ [], spells_variable, c.in_ok-byte.ensures.found ∙ ap (λ z. z ∷ c.u8.new.self.0) c.in-1.is)
