use Rattle.std.proofs.lemmas.Result.{err_from_is_err_and}
use Rattle.wasm_values.specs.Spelling.{SpellsU32}
use Rattle.wasm_values.proofs.Fronts.{then_begins, then_only, then_none_first, then_none_second}
use Rattle.wasm_values.proofs.Opcodes.{memory_found, memory_only, memory_none, memory_flat}
use Rattle.wasm_values.proofs.leaves.memory.Goals as goal

pub returns-in_err-align-clause-malformed : goal.returns-in_err-align-clause-malformed
returns-in_err-align-clause-malformed c = let p = err_from_is_err_and c.from_residual.result c.from_residual.ensures.1 in rw p.1 (λ _. memory_none c.args.code c.args.cursor.now.0 c.requires.low c.requires.high (then_none_first SpellsU32 SpellsU32 c.args.cursor.now.0 c.in_err-align.ensures.bad))

pub returns-in_err-offset-clause-malformed : goal.returns-in_err-offset-clause-malformed
returns-in_err-offset-clause-malformed c = let p = err_from_is_err_and c.from_residual-in_err-offset.result c.from_residual-in_err-offset.ensures.1 in rw p.1 (λ _. memory_none c.args.code c.args.cursor.now.0 c.requires.low c.requires.high (then_none_second SpellsU32 SpellsU32 c.args.cursor.now.0 c.leb_u32.new.self.0 c.in_ok-align.align c.in_ok-align.ensures.only c.in_err-offset.ensures.bad))

pub returns-clause-found : goal.returns-clause-found
returns-clause-found c = memory_found c.args.code c.args.cursor.now.0 c.leb_u32-2.new.self.0 c.in_ok-align.align c.in_ok-offset.offset _ c.memory_instr.ensures (then_begins SpellsU32 SpellsU32 c.args.cursor.now.0 c.leb_u32.new.self.0 c.leb_u32-2.new.self.0 c.in_ok-align.align c.in_ok-offset.offset c.in_ok-align.ensures.found c.in_ok-offset.ensures.found)

pub returns-clause-only : goal.returns-clause-only
returns-clause-only c = memory_only c.args.code c.args.cursor.now.0 c.leb_u32-2.new.self.0 c.in_ok-align.align c.in_ok-offset.offset _ c.requires.low c.requires.high c.memory_instr.ensures (then_only SpellsU32 SpellsU32 c.args.cursor.now.0 c.leb_u32.new.self.0 c.leb_u32-2.new.self.0 c.in_ok-align.align c.in_ok-offset.offset c.in_ok-align.ensures.only c.in_ok-offset.ensures.only)

pub returns-clause-flat : goal.returns-clause-flat
returns-clause-flat c = memory_flat c.memory_instr.ensures
