-- How many arguments a call has, by its signature.
use Rattle.std.proofs.Common.{◌≡◌, ℕ, zero, suc, List, [], ◌∷◌, length, ap, refl, Some}
use Rattle.std.specs.Prelude.{option_map, slice_get}
use Rattle.wasm_values.specs.declared.types.ValType.{ValType}
use Rattle.wasm_values.specs.declared.host_sig.HostSig.{HostSig}
use Rattle.host_calls.specs.declared.call.Call.{Call}
use Rattle.host_calls.specs.Calls.{AreSignatures, row}

pub arguments_at : (sigs : List HostSig) (calls : List Call) → AreSignatures sigs calls → (number : ℕ)
    → option_map (λ sig. length sig.params.now) (slice_get sigs number) ≡ option_map (λ call. length (row call).params) (slice_get calls number)
arguments_at [] [] a zero = refl
arguments_at [] [] a (suc number) = refl
arguments_at [] (of ∷ calls) a number = absurd a
arguments_at (sig ∷ sigs) [] a number = absurd a
arguments_at (sig ∷ sigs) (of ∷ calls) a zero = ap (λ (types : List ValType). Some (length types)) a.0.params
arguments_at (sig ∷ sigs) (of ∷ calls) a (suc number) = arguments_at sigs calls a.1 number
