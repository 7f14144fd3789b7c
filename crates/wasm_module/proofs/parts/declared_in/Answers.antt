use Rattle.std.proofs.lemmas.Result.{err_from_is_err_and}
use Rattle.wasm_module.proofs.parts.declared_in.Goals as goal

pub returns-in_err-types-clause-malformed : goal.returns-in_err-types-clause-malformed
returns-in_err-types-clause-malformed c = let p = err_from_is_err_and c.from_residual.result c.from_residual.ensures.1 in rw (p.1, p.2) (λ is m a. c.in_err-types.ensures.malformed is m.types a.types)

pub returns-in_err-imports-clause-malformed : goal.returns-in_err-imports-clause-malformed
returns-in_err-imports-clause-malformed c = let p = err_from_is_err_and c.from_residual-in_err-imports.result c.from_residual-in_err-imports.ensures.1 in rw (p.1, p.2) (λ is m a. c.in_err-imports.ensures.malformed is m.imports a.imports)

pub returns-in_err-funcs-clause-malformed : goal.returns-in_err-funcs-clause-malformed
returns-in_err-funcs-clause-malformed c = let p = err_from_is_err_and c.from_residual-in_err-funcs.result c.from_residual-in_err-funcs.ensures.1 in rw (p.1, p.2) (λ is m a. c.in_err-funcs.ensures.malformed is m.funcs a.funcs)

pub returns-in_err-tables-clause-malformed : goal.returns-in_err-tables-clause-malformed
returns-in_err-tables-clause-malformed c = let p = err_from_is_err_and c.from_residual-in_err-tables.result c.from_residual-in_err-tables.ensures.1 in rw (p.1, p.2) (λ is m a. c.in_err-tables.ensures.malformed is m.tables a.tables)

pub returns-in_err-memories-clause-malformed : goal.returns-in_err-memories-clause-malformed
returns-in_err-memories-clause-malformed c = let p = err_from_is_err_and c.from_residual-in_err-memories.result c.from_residual-in_err-memories.ensures.1 in rw (p.1, p.2) (λ is m a. c.in_err-memories.ensures.malformed is m.memories a.memories)
