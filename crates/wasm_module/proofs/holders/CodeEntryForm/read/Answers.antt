use Rattle.wasm_module.proofs.holders.CodeEntryForm.read.Goals as goal

pub returns-clause-only : goal.returns-clause-only
returns-clause-only g c = rw c.code.ensures c.in_ok-locals.ensures.only
