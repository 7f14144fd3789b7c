use Rattle.wasm_module.proofs.holders.ElementEntryForm.read.Goals as goal

pub returns-clause-only : goal.returns-clause-only
returns-clause-only g c = rw c.element.ensures c.in_ok-table.ensures.only
