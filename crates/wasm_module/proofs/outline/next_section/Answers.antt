use Rattle.std.proofs.lemmas.Result.{err_from_is_err_and}
use Rattle.wasm_values.specs.Spelling.{SpellsByte, SpellsBytes}
use Rattle.wasm_values.proofs.Fronts.{then_begins, then_only, then_none_second}
use Rattle.wasm_values.proofs.Wholes.{byte_found, byte_only}
use Rattle.wasm_module.proofs.outline.next_section.Goals as goal

pub returns-in_err-content-clause-malformed : goal.returns-in_err-content-clause-malformed
returns-in_err-content-clause-malformed c = let p = err_from_is_err_and c.from_residual-in_err-content.result c.from_residual-in_err-content.ensures.1 in rw (p.1, p.2) (λ is. then_none_second SpellsByte SpellsBytes c.args.cursor.now.0 c.u8.new.self.0 c.in_ok-number.number (byte_only c.args.cursor.now.0 c.u8.new.self.0 c.in_ok-number.number c.in_ok-number.ensures.found) (c.in_err-content.ensures.malformed is))

pub returns-clause-found : goal.returns-clause-found
returns-clause-found c = then_begins SpellsByte SpellsBytes c.args.cursor.now.0 c.u8.new.self.0 c.counted.new.cursor.0 c.in_ok-number.number c.in_ok-content.content.now (byte_found c.args.cursor.now.0 c.u8.new.self.0 c.in_ok-number.number c.in_ok-number.ensures.found) c.in_ok-content.ensures.found

pub returns-clause-only : goal.returns-clause-only
returns-clause-only c = then_only SpellsByte SpellsBytes c.args.cursor.now.0 c.u8.new.self.0 c.counted.new.cursor.0 c.in_ok-number.number c.in_ok-content.content.now (byte_only c.args.cursor.now.0 c.u8.new.self.0 c.in_ok-number.number c.in_ok-number.ensures.found) c.in_ok-content.ensures.only
