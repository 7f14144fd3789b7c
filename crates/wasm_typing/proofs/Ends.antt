-- The ends of runs of locals, and the locals by them.
use Rattle.std.proofs.Common.{◌≡◌, ℕ, ◌+◌, ◌-◌, ◌^◌, ◌≤◌, ◌<◌, min, List, [], zero, suc, drop, take-append-drop, ◌∷◌, ◌++◌, length, take, get_or, replicate, refl, ap, sym, ◌∙◌, arith, inl, inr, length-append, slice_get, Some}
use Rattle.std.proofs.lemmas.List.{take_more, take-take, length-take-le, get_or-append-add, get_or-replicate, length-replicate}
use Rattle.std.proofs.lemmas.List.Concat.{get_or-flat_map}
use Rattle.std.proofs.lemmas.Grind.{flat_map-append}
use Rattle.std.proofs.lemmas.Option.{slice_get-get_or}
use Rattle.std.proofs.lemmas.Bool.Decides.{eqb_tells}
use Rattle.wasm_values.specs.declared.types.ValType.{ValType}
use Rattle.wasm_module.specs.declared.codes.LocalRun.{LocalRun}
use Rattle.wasm_typing.specs.Context.{locals_of}
use Rattle.wasm_typing.specs.inner.Runs.{reach, AreEnds, IsRunOf}

one_run : (run : LocalRun) → length (locals_of (run ∷ [])) ≡ run.count
one_run run = length-append (replicate run.count run.value) [] ∙ ap (λ z. z + 0) (length-replicate run.count run.value) ∙ omega arith

pub reach_step : (runs : List LocalRun) (at : ℕ) (run : LocalRun) → at < length runs → run ≡ get_or runs at run → reach runs (at + 1) ≡ reach runs at + run.count
reach_step runs at run below is =
    let more : take (at + 1) runs ≡ take at runs ++ run ∷ [] = take_more runs at run below ∙ ap (λ z. take at runs ++ z ∷ []) (sym is) in
    ap (λ z. length (locals_of z)) more ∙ ap length (flat_map-append (λ (z : LocalRun). replicate z.count z.value) (take at runs) (run ∷ []))
    ∙ length-append (locals_of (take at runs)) (locals_of (run ∷ [])) ∙ ap (λ z. reach runs at + z) (one_run run)

reach_most : (runs : List LocalRun) (count : ℕ) → reach runs count ≤ length (locals_of runs)
reach_most runs count =
    let whole = ap (λ z. length (locals_of z)) (sym (take-append-drop count runs)) ∙ ap length (flat_map-append (λ (z : LocalRun). replicate z.count z.value) (take count runs) (drop count runs))
    ∙ length-append (locals_of (take count runs)) (locals_of (drop count runs)) in
    omega (arith, whole)

-- ---- the ends are written

min_of : (a b n m : ℕ) → a ≡ min b m → min (a + n) m ≡ min (b + n) m
min_of a b n m e = omega (arith, e)

pub end_more : (runs : List LocalRun) (at : ℕ) (run : LocalRun) (end next : ℕ) → at < length runs → run ≡ get_or runs at run → end ≡ min (reach runs at) (2 ^ 64 - 1) → next ≡ min (end + run.count) (2 ^ 64 - 1)
    → next ≡ min (reach runs (at + 1)) (2 ^ 64 - 1)
end_more runs at run end next below is e f = f ∙ min_of end (reach runs at) run.count (2 ^ 64 - 1) e ∙ ap (λ z. min z (2 ^ 64 - 1)) (sym (reach_step runs at run below is))

get_front : {A : Type 0} (xs ys : List A) (at : ℕ) → at < length xs → slice_get (xs ++ ys) at ≡ slice_get xs at
get_front [] ys at below = absurd (omega arith)
get_front (x ∷ xs) ys zero below = refl
get_front (x ∷ xs) ys (suc at) below = get_front xs ys at (omega arith)

get_last : {A : Type 0} (xs : List A) (x : A) → slice_get (xs ++ x ∷ []) (length xs) ≡ Some x
get_last [] x = refl
get_last (y ∷ xs) x = get_last xs x

reach_in : (runs : List LocalRun) (within count : ℕ) → count ≤ within → reach (take within runs) count ≡ reach runs count
reach_in runs within count low = ap (λ z. length (locals_of z)) (take-take count within runs low)

each_end : (runs : List LocalRun) (at : ℕ) (ends : List ℕ) (next i : ℕ) → at < length runs → AreEnds (take at runs) ends → length ends ≡ at → next ≡ min (reach runs (at + 1)) (2 ^ 64 - 1) → i < at + 1
    → slice_get (ends ++ next ∷ []) i ≡ Some (min (reach runs (i + 1)) (2 ^ 64 - 1))
each_end runs at ends next i below known before is within = elim (eqb_tells i at) [
  | inl h ↦
      let last : i ≡ length ends = h.1 ∙ sym before in
      ap (λ z. slice_get (ends ++ next ∷ []) z) last ∙ get_last ends next ∙ ap Some is ∙ ap (λ z. Some (min (reach runs (z + 1)) (2 ^ 64 - 1))) (sym h.1)
  | inr h ↦
      let low : i < at = omega (arith, h.1, within) in
      let known_at = known.each i (omega (arith, low, length-take-le at runs (omega (arith, below)))) in
      get_front ends (next ∷ []) i (omega (arith, low, before)) ∙ known_at ∙ ap (λ z. Some (min z (2 ^ 64 - 1))) (reach_in runs at (i + 1) (omega (arith, low)))
]

pub ends_more : (runs : List LocalRun) (at : ℕ) (ends new : List ℕ) (next : ℕ) → at < length runs → AreEnds (take at runs) ends → next ≡ min (reach runs (at + 1)) (2 ^ 64 - 1) → new ≡ ends ++ next ∷ [] → AreEnds (take (at + 1) runs) new
ends_more runs at ends new next below known is more =
    let before : length ends ≡ at = known.count ∙ length-take-le at runs (omega (arith, below)) in
    let all : length (take (at + 1) runs) ≡ at + 1 = length-take-le (at + 1) runs (omega (arith, below)) in
    record {
      count = ap length more ∙ length-append ends (next ∷ []) ∙ ap (λ z. z + 1) before ∙ sym all;
      each = λ i low.
          let within : i < at + 1 = omega (arith, low, all) in
          let here : reach (take (at + 1) runs) (i + 1) ≡ reach runs (i + 1) = reach_in runs (at + 1) (i + 1) (omega (arith, within)) in
          ap (λ z. slice_get z i) more ∙ each_end runs at ends next i below known before is within ∙ ap (λ z. Some (min z (2 ^ 64 - 1))) (sym here);
    }

-- ---- a local is found

abbrev run_locals : LocalRun → List ValType
run_locals run = replicate run.count run.value

pub local_found : (params : List ValType) (runs : List LocalRun) (index found : ℕ) (run : LocalRun) → length params ≤ index → IsRunOf runs (index - length params) found → found < length runs → run ≡ get_or runs found run
    → slice_get (params ++ locals_of runs) index ≡ Some run.value
local_found params runs index found run past place below is =
    let step : reach runs (found + 1) ≡ reach runs found + run.count = reach_step runs found run below is in
    let behind : index - length params < reach runs (found + 1) = place.behind below in
    let start = place.before in
    let offset : ℕ = index - length params - reach runs found in
    let low : offset < run.count = omega (arith, step, behind, start) in
    let counted : length (run_locals (get_or runs found run)) ≡ run.count = ap (λ z. length (run_locals z)) (sym is) ∙ length-replicate run.count run.value in
    let inner : get_or (locals_of runs) (reach runs found + offset) run.value ≡ run.value =
    get_or-flat_map run_locals runs found offset run run.value below (omega (arith, low, counted))
    ∙ ap (λ z. get_or (run_locals z) offset run.value) (sym is) ∙ get_or-replicate run.count offset run.value run.value low in
    let apart : index ≡ length params + (reach runs found + offset) = omega (arith, past, start) in
    let value : get_or (params ++ locals_of runs) index run.value ≡ run.value =
    ap (λ z. get_or (params ++ locals_of runs) z run.value) apart ∙ get_or-append-add params (locals_of runs) (reach runs found + offset) run.value ∙ inner in
    let most : reach runs (found + 1) ≤ length (locals_of runs) = reach_most runs (found + 1) in
    let within : index < length (params ++ locals_of runs) = omega (arith, apart, low, step, most, length-append params (locals_of runs)) in
    slice_get-get_or (params ++ locals_of runs) index run.value within ∙ ap Some value
