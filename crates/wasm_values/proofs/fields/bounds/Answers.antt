use Rattle.std.proofs.lemmas.Result.{err_from_is_err_and}
use Rattle.wasm_values.specs.Spelling.{SpellsU32}
use Rattle.wasm_values.proofs.Fronts.{then_begins, then_only, then_none_first, then_none_second}
use Rattle.wasm_values.proofs.Tags.{tag_found, tag_only, tag_none}
use Rattle.wasm_values.proofs.Spelled.{bounds_open, bounds_closed}
use Rattle.wasm_values.proofs.fields.bounds.Goals as goal

pub returns-in_err-min-in-0-clause-malformed : goal.returns-in_err-min-in-0-clause-malformed
returns-in_err-min-in-0-clause-malformed c = let p = err_from_is_err_and c.from_residual-in_err-min-in-0.result c.from_residual-in_err-min-in-0.ensures.1 in rw p.1 (λ _. tag_none bounds_open c.in_ok-tag.ensures.found c.in-0.is c.in_err-min-in-0.ensures.bad)

pub returns-in_err-min-in-1-clause-malformed : goal.returns-in_err-min-in-1-clause-malformed
returns-in_err-min-in-1-clause-malformed c = let p = err_from_is_err_and c.from_residual-in_err-min-in-1.result c.from_residual-in_err-min-in-1.ensures.1 in rw p.1 (λ _. tag_none bounds_closed c.in_ok-tag.ensures.found c.in-1.is (then_none_first SpellsU32 SpellsU32 c.u8.new.self.0 c.in_err-min-in-1.ensures.bad))

pub returns-in_err-most-in-1-clause-malformed : goal.returns-in_err-most-in-1-clause-malformed
returns-in_err-most-in-1-clause-malformed c = let p = err_from_is_err_and c.from_residual-in_err-most-in-1.result c.from_residual-in_err-most-in-1.ensures.1 in rw p.1 (λ _. tag_none bounds_closed c.in_ok-tag.ensures.found c.in-1.is (then_none_second SpellsU32 SpellsU32 c.u8.new.self.0 c.leb_u32-in-1.new.self.0 c.in_ok-min-in-1.min c.in_ok-min-in-1.ensures.only c.in_err-most-in-1.ensures.bad))

pub returns-in_ok-min-in-0-clause-found : goal.returns-in_ok-min-in-0-clause-found
returns-in_ok-min-in-0-clause-found c = tag_found bounds_open c.in_ok-tag.ensures.found c.in-0.is c.leb_u32.new.self.0 c.in_ok-min-in-0.min c.in_ok-min-in-0.ensures.found

pub returns-in_ok-min-in-0-clause-only : goal.returns-in_ok-min-in-0-clause-only
returns-in_ok-min-in-0-clause-only c = tag_only bounds_open c.in_ok-tag.ensures.found c.in-0.is c.leb_u32.new.self.0 c.in_ok-min-in-0.min c.in_ok-min-in-0.ensures.only

pub returns-in_ok-most-in-1-clause-found : goal.returns-in_ok-most-in-1-clause-found
returns-in_ok-most-in-1-clause-found c = tag_found bounds_closed c.in_ok-tag.ensures.found c.in-1.is c.leb_u32-in-1-2.new.self.0 (c.in_ok-min-in-1.min, c.in_ok-most-in-1.most) (then_begins SpellsU32 SpellsU32 c.u8.new.self.0 c.leb_u32-in-1.new.self.0 c.leb_u32-in-1-2.new.self.0 c.in_ok-min-in-1.min c.in_ok-most-in-1.most c.in_ok-min-in-1.ensures.found c.in_ok-most-in-1.ensures.found)

pub returns-in_ok-most-in-1-clause-only : goal.returns-in_ok-most-in-1-clause-only
returns-in_ok-most-in-1-clause-only c = tag_only bounds_closed c.in_ok-tag.ensures.found c.in-1.is c.leb_u32-in-1-2.new.self.0 (c.in_ok-min-in-1.min, c.in_ok-most-in-1.most) (then_only SpellsU32 SpellsU32 c.u8.new.self.0 c.leb_u32-in-1.new.self.0 c.leb_u32-in-1-2.new.self.0 c.in_ok-min-in-1.min c.in_ok-most-in-1.most c.in_ok-min-in-1.ensures.only c.in_ok-most-in-1.ensures.only)
