use Rattle.wasm_typing.proofs.operands.joined.Goals as goal

pub returns-in-None : goal.returns-in-None
returns-in-None c = λ t. rw c.in-None.is (λ f. (tt, f), λ _ f. f)
