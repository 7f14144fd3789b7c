use Rattle.wasm_module.proofs.holders.SegmentEntryForm.read.Goals as goal

pub returns-clause-found : goal.returns-clause-found
returns-clause-found g c = rw c.segment.ensures c.in_ok-memory.ensures.found

pub returns-clause-only : goal.returns-clause-only
returns-clause-only g c = rw c.segment.ensures c.in_ok-memory.ensures.only
