use Rattle.std.proofs.Common.{◌≡◌, map}
use Rattle.wasm_module.specs.inner.Parts.{section_view}
use Rattle.wasm_module.specs.declared.module.Limit.TheVariants as limits
use Rattle.wasm_module.proofs.Refused.{fault_is, skimmed, too_many, too_deep, skimmed_none}
use Rattle.wasm_module.proofs.decoding.refusal.Goals as goal

pub returns-in-Ok-clause-too_large : goal.returns-in-Ok-clause-too_large
returns-in-Ok-clause-too_large c = λ limit e.
    let is : limit ≡ limits.Functions = cc in
    too_many (map section_view c.args.sections.now) c.in-Ok.count limit (skimmed (map section_view c.args.sections.now) c.in-Ok.count c.in-Ok.ensures.found) c.if-count-gt-MOST_FUNCTIONS.true is

pub returns-in-Ok-2-clause-too_large : goal.returns-in-Ok-2-clause-too_large
returns-in-Ok-2-clause-too_large c = λ limit e.
    let is : limit ≡ limits.Nesting = cc in
    too_deep (map section_view c.args.sections.now) c.in-Ok.count limit (skimmed (map section_view c.args.sections.now) c.in-Ok.count c.in-Ok.ensures.found) c.if-count-gt-MOST_FUNCTIONS.false c.requires is

pub returns-in-Err-clause-malformed : goal.returns-in-Err-clause-malformed
returns-in-Err-clause-malformed c = λ is. skimmed_none (map section_view c.args.sections.now) (c.in-Err.ensures.malformed (fault_is c.in-Err.fault c.from.result c.from.ensures is))
