use Rattle.wasm_module.proofs.Locals.{few_on, few_back}
use Rattle.wasm_module.proofs.limits.function_within.Goals as goal

pub returns-in-Some : goal.returns-in-Some
returns-in-Some c = (
  λ yes. few_on c.args.whole.now.types c.args.whole.now.funcs c.args.at c.in-Some.index.now c.args.code.now c.params.result c.as_slice.result.now c.in-Some.ensures c.params.ensures c.as_slice.ensures (c.runs_within.ensures.0 yes),
  λ all. c.runs_within.ensures.1 (few_back c.args.whole.now.types c.args.whole.now.funcs c.args.at c.in-Some.index.now c.args.code.now c.params.result c.as_slice.result.now c.in-Some.ensures c.params.ensures c.as_slice.ensures all),
)
