use Rattle.std.proofs.Common.{arith}
use Rattle.std.proofs.lemmas.Result.{err_from_is_err_and}
use Rattle.wasm_values.specs.View.{instr_view}
use Rattle.wasm_values.specs.declared.skim.Open.TheVariants.{Block, First}
use Rattle.wasm_values.proofs.Opens.{end_alike, else_alike, else_none, op_alike, op_none, enter_alike, enter_none, opens_inner, opens_if}
use Rattle.wasm_values.proofs.skim.read_turn.Goals as goal

pub returns-in-11-clause-alike : goal.returns-in-11-clause-alike
returns-in-11-clause-alike c = λ outer. end_alike c.args.top outer c.in_ok-code.code c.args.cursor.now.0 c.u8.new.self.0 c.in_ok-code.ensures.found c.in-11.is

pub returns-in-Block-clause-malformed : goal.returns-in-Block-clause-malformed
returns-in-Block-clause-malformed c = λ _ outer rest. else_none c.args.top outer c.in_ok-code.code c.args.cursor.now.0 c.u8.new.self.0 rest c.in_ok-code.ensures.found c.in-5.is c.in-Block.is

pub returns-in-First-clause-alike : goal.returns-in-First-clause-alike
returns-in-First-clause-alike c = λ outer. else_alike c.args.top outer c.in_ok-code.code c.args.cursor.now.0 c.u8.new.self.0 c.in_ok-code.ensures.found c.in-5.is c.in-First.is

pub returns-in_err-_kind-in-4-clause-malformed : goal.returns-in_err-_kind-in-4-clause-malformed
returns-in_err-_kind-in-4-clause-malformed c = let p = err_from_is_err_and c.from_residual-in_err-_kind-in-4.result c.from_residual-in_err-_kind-in-4.ensures.1 in rw (p.1, p.2) (λ is outer rest. enter_none First c.args.top outer c.in_ok-code.code c.args.cursor.now.0 c.u8.new.self.0 rest (opens_if c.in_ok-code.code c.in-4.is) c.in_ok-code.ensures.found (c.in_err-_kind-in-4.ensures.malformed is))

pub returns-in_ok-_kind-in-4-clause-alike : goal.returns-in_ok-_kind-in-4-clause-alike
returns-in_ok-_kind-in-4-clause-alike c = λ outer. enter_alike First c.args.top outer c.in_ok-code.code c.args.cursor.now.0 c.u8.new.self.0 c.block_type.new.cursor.0 c.in_ok-_kind-in-4._kind (opens_if c.in_ok-code.code c.in-4.is) c.in_ok-code.ensures.found c.in_ok-_kind-in-4.ensures.found c.in_ok-_kind-in-4.ensures.only

pub returns-in_err-_kind-in-2-clause-malformed : goal.returns-in_err-_kind-in-2-clause-malformed
returns-in_err-_kind-in-2-clause-malformed c = let p = err_from_is_err_and c.from_residual-in_err-_kind-in-2.result c.from_residual-in_err-_kind-in-2.ensures.1 in rw (p.1, p.2) (λ is outer rest. enter_none Block c.args.top outer c.in_ok-code.code c.args.cursor.now.0 c.u8.new.self.0 rest (opens_inner c.in_ok-code.code (omega arith) (omega arith)) c.in_ok-code.ensures.found (c.in_err-_kind-in-2.ensures.malformed is))

pub returns-in_ok-_kind-in-2-clause-alike : goal.returns-in_ok-_kind-in-2-clause-alike
returns-in_ok-_kind-in-2-clause-alike c = λ outer. enter_alike Block c.args.top outer c.in_ok-code.code c.args.cursor.now.0 c.u8.new.self.0 c.block_type-in-2.new.cursor.0 c.in_ok-_kind-in-2._kind (opens_inner c.in_ok-code.code (omega arith) (omega arith)) c.in_ok-code.ensures.found c.in_ok-_kind-in-2.ensures.found c.in_ok-_kind-in-2.ensures.only

pub returns-in_err-_plain-in_default-clause-malformed : goal.returns-in_err-_plain-in_default-clause-malformed
returns-in_err-_plain-in_default-clause-malformed c = let p = err_from_is_err_and c.from_residual-in_err-_plain-in_default.result c.from_residual-in_err-_plain-in_default.ensures.1 in rw (p.1, p.2) (λ is outer rest. op_none c.args.top outer c.in_ok-code.code c.args.cursor.now.0 c.u8.new.self.0 rest c.in_ok-code.ensures.found (λ e. omega arith) (λ e. omega arith) (c.in_err-_plain-in_default.ensures.malformed is))

pub returns-in_ok-_plain-in_default-clause-alike : goal.returns-in_ok-_plain-in_default-clause-alike
returns-in_ok-_plain-in_default-clause-alike c = λ outer. op_alike c.args.top outer c.in_ok-code.code c.args.cursor.now.0 c.u8.new.self.0 c.leaf.new.cursor.0 (instr_view c.in_ok-_plain-in_default._plain) c.in_ok-code.ensures.found (λ e. omega arith) (λ e. omega arith) c.in_ok-_plain-in_default.ensures.found c.in_ok-_plain-in_default.ensures.only
