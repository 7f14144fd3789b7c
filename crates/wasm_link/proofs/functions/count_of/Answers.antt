use Rattle.std.proofs.Common.{◌∙◌, ap, sym, arith}
use Rattle.std.specs.List.{sum_by}
use Rattle.std.proofs.lemmas.List.{take_all}
use Rattle.wasm_link.proofs.Programs.{locals_count}
use Rattle.wasm_link.proofs.functions.count_of.Goals as goal

pub returns : goal.returns
returns c = c.loop-at.invariant.counted ∙ ap (sum_by (λ run. run.count)) (take_all c.loop-at.at c.args.runs.now (omega (arith, c.loop-at-test.false))) ∙ sym (locals_count c.args.runs.now)
