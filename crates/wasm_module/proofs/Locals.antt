-- The locals of a module's functions.
use Rattle.std.proofs.Common.{◌≡◌, ℕ, ◌+◌, ◌<◌, ◌≤◌, ◌⊎◌, inl, inr, List, length, map, get_or, ap, sym, ◌∙◌, subst, arith, Some}
use Rattle.std.specs.Prelude.{slice_get}
use Rattle.std.specs.Option.{option_map}
use Rattle.std.specs.List.{sum_by}
use Rattle.std.proofs.lemmas.Option.{slice_get-map, slice_get-get_or, slice_get_within}
use Rattle.std.proofs.lemmas.List.{length-map}
use Rattle.wasm_values.specs.Syntax.{Ops}
use Rattle.wasm_module.specs.Entries.{Function, code_view}
use Rattle.wasm_module.specs.Limits.{locals_of, params_in}
use Rattle.wasm_values.specs.declared.types.FuncType.{FuncType}
use Rattle.wasm_module.specs.declared.codes.LocalRun.{LocalRun}
use Rattle.wasm_module.specs.declared.codes.Code.{Code}

some_same : (a b : ℕ) → Some a ≡ Some b → a ≡ b
some_same a b e = cc

total : (types : List FuncType) (index : ℕ) (code : Code) (params : ℕ) (runs : List LocalRun) → params ≡ params_in (slice_get types index) → runs ≡ code.locals → params + sum_by (λ run. run.count) runs ≡ locals_of types index (code_view code)
total types index code params runs e f = ap (λ z. z + sum_by (λ run. run.count) runs) e ∙ ap (λ z. params_in (slice_get types index) + sum_by (λ run. run.count) z) f

pub few_on : (types : List FuncType) (funcs : List ℕ) (at index : ℕ) (code : Code) (params : ℕ) (runs : List LocalRun) → Some index ≡ slice_get funcs at → params ≡ params_in (slice_get types index) → runs ≡ code.locals → params + sum_by (λ run. run.count) runs ≤ 65536 → (other : ℕ) → slice_get funcs at ≡ Some other → locals_of types other (code_view code) ≤ 65536
few_on types funcs at index code params runs is e f few other there =
    let same : index ≡ other = some_same index other (is ∙ there) in
    let P : ℕ → Type 0 = λ z. locals_of types z (code_view code) ≤ 65536 in
    let Q : ℕ → Type 0 = λ z. z ≤ 65536 in
    subst P same (subst Q (total types index code params runs e f) few)

pub few_back : (types : List FuncType) (funcs : List ℕ) (at index : ℕ) (code : Code) (params : ℕ) (runs : List LocalRun) → Some index ≡ slice_get funcs at → params ≡ params_in (slice_get types index) → runs ≡ code.locals → ((other : ℕ) → slice_get funcs at ≡ Some other → locals_of types other (code_view code) ≤ 65536) → params + sum_by (λ run. run.count) runs ≤ 65536
few_back types funcs at index code params runs is e f all =
    let Q : ℕ → Type 0 = λ z. z ≤ 65536 in
    subst Q (sym (total types index code params runs e f)) (all index (sym is))

-- The code at a place, as it is seen.
code_at : (codes : List Code) (i : ℕ) (code : Code) → i < length codes → code ≡ get_or codes i code → slice_get (map code_view codes) i ≡ Some (code_view code)
code_at codes i code h is = slice_get-map code_view codes i ∙ ap (option_map code_view) (slice_get-get_or codes i code h ∙ ap (λ z. Some z) (sym is))

function_same : (a b : Function Ops) → Some a ≡ Some b → a ≡ b
function_same a b e = cc

below_or : (i at : ℕ) → i < at + 1 → (i < at) ⊎ (i ≡ at)
below_or i at h = grind arith

-- What holds of the functions below a place, and of the one there, holds of those below the next.
pub more : (types : List FuncType) (funcs : List ℕ) (codes : List Code) (at : ℕ) (code : Code) → at < length codes → code ≡ get_or codes at code
    → ((i index : ℕ) (function : Function Ops) → i < at → slice_get funcs i ≡ Some index → slice_get (map code_view codes) i ≡ Some function → locals_of types index function ≤ 65536)
    → ((index : ℕ) → slice_get funcs at ≡ Some index → locals_of types index (code_view code) ≤ 65536)
    → (i index : ℕ) (function : Function Ops) → i < at + 1 → slice_get funcs i ≡ Some index → slice_get (map code_view codes) i ≡ Some function → locals_of types index function ≤ 65536
more types funcs codes at code h is below here i index function less e f = elim (below_or i at less) [
  | inl l ↦ below i index function l e f
  | inr same ↦
      let there : slice_get funcs at ≡ Some index = ap (slice_get funcs) (sym same) ∙ e in
      let found : slice_get (map code_view codes) at ≡ Some function = ap (slice_get (map code_view codes)) (sym same) ∙ f in
      let view : code_view code ≡ function = function_same (code_view code) function (sym (code_at codes at code h is) ∙ found) in
      let P : Function Ops → Type 0 = λ z. locals_of types index z ≤ 65536 in
      subst P view (here index there)
]

-- The function at a place that has too many locals.
pub not_here : (types : List FuncType) (funcs : List ℕ) (codes : List Code) (at : ℕ) (code : Code) → at < length codes → code ≡ get_or codes at code
    → ((i index : ℕ) (function : Function Ops) → slice_get funcs i ≡ Some index → slice_get (map code_view codes) i ≡ Some function → locals_of types index function ≤ 65536)
    → (index : ℕ) → slice_get funcs at ≡ Some index → locals_of types index (code_view code) ≤ 65536
not_here types funcs codes at code h is all index e = all at index (code_view code) e (code_at codes at code h is)

-- What holds below the end holds of all.
pub every : (types : List FuncType) (funcs : List ℕ) (codes : List Code) (at : ℕ) → length codes ≤ at
    → ((i index : ℕ) (function : Function Ops) → i < at → slice_get funcs i ≡ Some index → slice_get (map code_view codes) i ≡ Some function → locals_of types index function ≤ 65536)
    → (i index : ℕ) (function : Function Ops) → slice_get funcs i ≡ Some index → slice_get (map code_view codes) i ≡ Some function → locals_of types index function ≤ 65536
every types funcs codes at end below i index function e f =
    let within = slice_get_within (map code_view codes) i function f in
    below i index function (omega (arith, within, length-map codes code_view)) e f
