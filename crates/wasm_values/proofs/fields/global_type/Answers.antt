use Rattle.std.proofs.lemmas.Result.{err_from_is_err_and}
use Rattle.wasm_values.proofs.Fronts.{then_begins, then_only, then_none_first, then_none_second}
use Rattle.std.proofs.Common.{ap}
use Rattle.wasm_values.specs.Values.{SpellsValType, SpellsMutable}
use Rattle.wasm_values.proofs.Spelled.{global_type_of}
use Rattle.wasm_values.proofs.fields.global_type.Goals as goal

pub returns-in_err-value-clause-malformed : goal.returns-in_err-value-clause-malformed
returns-in_err-value-clause-malformed c = let p = err_from_is_err_and c.from_residual.result c.from_residual.ensures.1 in rw (p.1, p.2) (λ is. λ type rest b. then_none_first SpellsValType SpellsMutable c.args.cursor.now.0 (c.in_err-value.ensures.malformed is) (type.value, type.mutable) rest b)

pub returns-in_err-mutable-clause-malformed : goal.returns-in_err-mutable-clause-malformed
returns-in_err-mutable-clause-malformed c = let p = err_from_is_err_and c.from_residual-in_err-mutable.result c.from_residual-in_err-mutable.ensures.1 in rw (p.1, p.2) (λ is. λ type rest b. then_none_second SpellsValType SpellsMutable c.args.cursor.now.0 c.val_type.new.cursor.0 c.in_ok-value.value c.in_ok-value.ensures.only (c.in_err-mutable.ensures.malformed is) (type.value, type.mutable) rest b)

pub returns-clause-found : goal.returns-clause-found
returns-clause-found c = then_begins SpellsValType SpellsMutable c.args.cursor.now.0 c.val_type.new.cursor.0 c.mutable.new.cursor.0 c.in_ok-value.value c.in_ok-mutable.mutable c.in_ok-value.ensures.found c.in_ok-mutable.ensures.found

pub returns-clause-only : goal.returns-clause-only
returns-clause-only c = λ other more b. let one = then_only SpellsValType SpellsMutable c.args.cursor.now.0 c.val_type.new.cursor.0 c.mutable.new.cursor.0 c.in_ok-value.value c.in_ok-mutable.mutable c.in_ok-value.ensures.only c.in_ok-mutable.ensures.only (other.value, other.mutable) more b in (ap global_type_of one.0, one.1)
