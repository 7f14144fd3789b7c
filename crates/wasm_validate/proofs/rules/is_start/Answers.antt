use Rattle.wasm_validate.proofs.rules.is_start.Goals as goal

pub returns-in_default-type_of : goal.returns-in_default-type_of
returns-in_default-type_of c = rw c.in-Some.is (λ h. c.in_default-type_of.ensures h.0 h.1)
