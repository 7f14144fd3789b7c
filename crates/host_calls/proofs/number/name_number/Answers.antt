use Rattle.std.proofs.Common.{arith, rules, w32, FitsSigned}
use Rattle.std.proofs.lemmas.Int.{ints}
use Rattle.host_calls.proofs.number.name_number.Goals as goal

pub returns : goal.returns
returns c =
    let column : FitsSigned w32 c.args.name.column = search rules in
    let row : FitsSigned w32 c.args.name.row = search rules in
    omega (arith, ints)
