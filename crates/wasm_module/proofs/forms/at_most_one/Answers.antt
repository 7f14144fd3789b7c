use Rattle.wasm_values.proofs.Results.{is_empty, is_single}
use Rattle.wasm_module.proofs.forms.at_most_one.Goals as goal

pub returns-in-empty-clause-found : goal.returns-in-empty-clause-found
returns-in-empty-clause-found c = is_empty c.args.list.now c.in-empty.len_below

pub returns-in-len1-clause-found : goal.returns-in-len1-clause-found
returns-in-len1-clause-found c = is_single c.args.list.now _ c.in-len1.len_at_least c.in-len1.len_below
