use Rattle.std.proofs.Common.{◌≡◌, Some, sym, ◌∙◌, arith}
use Rattle.std.proofs.lemmas.Bool.Decides.{nat_tests}
use Rattle.wasm_typing.specs.inner.Ranges.{store_by_bounds}
use Rattle.wasm_typing.proofs.Ranges.{store_is}
use Rattle.wasm_plain.proofs.memories.stored_width.Goals as goal

pub returns-in-58-clause-access : goal.returns-in-58-clause-access
unfolding store_by_bounds
returns-in-58-clause-access c = λ access known. let e : store_by_bounds c.args.op ≡ Some access = sym (store_is c.args.op) ∙ known in grind (arith, nat_tests)

pub returns-in-59-clause-access : goal.returns-in-59-clause-access
unfolding store_by_bounds
returns-in-59-clause-access c = λ access known. let e : store_by_bounds c.args.op ≡ Some access = sym (store_is c.args.op) ∙ known in grind (arith, nat_tests)

pub returns-in-54-clause-access : goal.returns-in-54-clause-access
unfolding store_by_bounds
returns-in-54-clause-access c = λ access known. let e : store_by_bounds c.args.op ≡ Some access = sym (store_is c.args.op) ∙ known in grind (arith, nat_tests)

pub returns-in_default-clause-access : goal.returns-in_default-clause-access
unfolding store_by_bounds
returns-in_default-clause-access c = λ access known. let e : store_by_bounds c.args.op ≡ Some access = sym (store_is c.args.op) ∙ known in grind (arith, nat_tests)
