use Rattle.std.proofs.Common.{ap, length, sym, Some, ◌∙◌}
use Rattle.std.specs.Prelude.{option_map}
use Rattle.std.proofs.lemmas.Option.{slice_get-get_or, slice_get_past}
use Rattle.wasm_values.specs.declared.host_sig.HostSig.{HostSig}
use Rattle.host_calls.specs.Calls.{all_calls}
use Rattle.host_calls.proofs.Arguments.{arguments_at}
use Rattle.host_calls.proofs.signatures.parameters.Goals as goal

pub returns-in-Some : goal.returns-in-Some
returns-in-Some c =
    let sigs = c.host_sigs.result.now in
    let sig = c.in-Some.sig.now in
    let told = c.in-Some.ensures.lookup in
    let found = slice_get-get_or sigs c.args.number sig told.3.0 ∙ ap Some (sym told.1) in
    sym (ap (option_map (λ (s : HostSig). length s.params.now)) found) ∙ arguments_at sigs all_calls c.host_sigs.ensures c.args.number

pub returns-in-None : goal.returns-in-None
returns-in-None c =
    let sigs = c.host_sigs.result.now in
    let past = slice_get_past sigs c.args.number c.in-None.ensures.lookup.3 in
    sym (ap (option_map (λ (s : HostSig). length s.params.now)) past) ∙ arguments_at sigs all_calls c.host_sigs.ensures c.args.number
