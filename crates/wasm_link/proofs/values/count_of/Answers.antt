use Rattle.std.proofs.Common.{sym}
use Rattle.wasm_link.proofs.Joins.{all_valued}
use Rattle.wasm_link.proofs.values.count_of.Goals as goal

pub returns-in-Some : goal.returns-in-Some
returns-in-Some c = all_valued c.args.stretches.now c.in-Some.stretch.now c.requires.apart (sym c.in-Some.ensures.value)
