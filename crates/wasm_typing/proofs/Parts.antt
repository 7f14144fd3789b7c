-- Laws of the typing: instructions may be cut anywhere, types below stay.
use Rattle.std.proofs.Common.{◌++◌, append_assoc, refl}
use Rattle.wasm_values.specs.Syntax.{no_ops, next}
use Rattle.wasm_typing.specs.Typing.{Typed, none_typed, next_typed}
use Rattle.wasm_typing.specs.Laws.{MayBeCut, MayBeJoined, MayStandHigher, BeginsTyped}

pub stand_higher : MayStandHigher
stand_higher cx labels ops from to below none_typed = none_typed
stand_higher cx labels ops from to below (next_typed {op = op} {ops = rest} {ins = ins} {outs = outs} under t ts) =
    let later : Typed cx labels rest (outs ++ (under ++ below)) (to ++ below) = rw append_assoc at (stand_higher cx labels rest (outs ++ under) to below ts) in
    rw append_assoc (next_typed (under ++ below) t later)

pub are_joined : MayBeJoined
are_joined cx labels first later from meet to none_typed u = u
are_joined cx labels first later from meet to (next_typed {ops = rest} {ins = ins} {outs = outs} below t ts) u = next_typed below t (are_joined cx labels rest later (outs ++ below) meet to ts u)

pub are_cut : MayBeCut
are_cut cx labels no_ops later from to u = (from, none_typed, u)
are_cut cx labels (next op first) later from to (next_typed {outs = outs} below t ts) =
    let r = are_cut cx labels first later (outs ++ below) to ts in
    (r.0, next_typed below t r.1, r.2)

pub begins_typed : BeginsTyped
begins_typed cx labels op ops from to (next_typed {ins = ins} {outs = outs} below t ts) = (ins, outs, below, refl, t, ts)
