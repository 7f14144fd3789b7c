use Rattle.wasm_module.proofs.held.held.Goals as goal

pub returns-in-Some-clause-only : goal.returns-in-Some-clause-only
returns-in-Some-clause-only g c = rw c.in-Some.ensures c.whole_entries.ensures.only

pub returns-in-Some-clause-malformed : goal.returns-in-Some-clause-malformed
returns-in-Some-clause-malformed g c = rw c.in-Some.ensures c.whole_entries.ensures.malformed
