use Rattle.std.proofs.lemmas.Result.{err_from_is_err_and}
use Rattle.wasm_link.proofs.linked.made_of.Goals as goal

pub returns-in_err-parts-clause-fault : goal.returns-in_err-parts-clause-fault
returns-in_err-parts-clause-fault c =
    let p = err_from_is_err_and c.from_residual.result c.from_residual.ensures.1 in
    rw (p.1, p.2) c.in_err-parts.ensures.fault

pub beginning_of-requires-clause-imports : goal.beginning_of-requires-clause-imports
beginning_of-requires-clause-imports c = (c.args.sigs.now, c.in_ok-parts.ensures.linked.imports)

pub returns-clause-ready : goal.returns-clause-ready
returns-clause-ready c = record { kept = c.in_ok-parts.ensures.kept; beginning = c.in_ok-beginning.ensures }
