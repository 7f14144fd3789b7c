use Rattle.wasm_module.proofs.holders.GlobalEntryForm.read.Goals as goal

pub returns-clause-only : goal.returns-clause-only
returns-clause-only g c = rw c.global.ensures c.in_ok-kind.ensures.only
