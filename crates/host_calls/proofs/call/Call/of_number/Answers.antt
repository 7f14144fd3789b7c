use Rattle.std.proofs.Common.{List, Some, sym, ap, ◌∙◌}
use Rattle.std.specs.Prelude.{slice_get}
use Rattle.std.proofs.lemmas.Option.{slice_get-get_or, slice_get_past}
use Rattle.host_calls.specs.declared.call.Call.{Call}
use Rattle.host_calls.proofs.call.Call.of_number.Goals as goal

pub returns-in-Some : goal.returns-in-Some
returns-in-Some c =
    let calls = c.calls.result.now in
    let call = c.in-Some.call.now in
    let told = c.in-Some.ensures.lookup in
    let found = slice_get-get_or calls c.args.number call told.3.0 ∙ ap Some (sym told.1) in
    sym found ∙ ap (λ (all : List Call). slice_get all c.args.number) c.calls.ensures

pub returns-in-None : goal.returns-in-None
returns-in-None c =
    let calls = c.calls.result.now in
    let past = slice_get_past calls c.args.number c.in-None.ensures.lookup.3 in
    sym past ∙ ap (λ (all : List Call). slice_get all c.args.number) c.calls.ensures
