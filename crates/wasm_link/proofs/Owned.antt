-- The entries of the functions that a module defines, one by one.
use Rattle.std.proofs.Common.{◌≡◌, ℕ, ◌+◌, ◌<◌, ◌≤◌, List, [], ◌∷◌, ◌++◌, length, get_or, take, map, ap, sym, ◌∙◌, arith, Some, slice_get}
use Rattle.std.specs.List.{sum_by}
use Rattle.std.proofs.lemmas.List.{length-map, map_push, take_more}
use Rattle.std.proofs.lemmas.Option.{slice_get_within, slice_get-get_or}
use Rattle.wasm_module.specs.Entries.{code_view}
use Rattle.wasm_module.specs.Limits.{WithinLocals, params_in}
use Rattle.wasm_module.specs.Sections.{module_view}
use Rattle.wasm_module.specs.declared.codes.Code.{Code}
use Rattle.wasm_module.specs.declared.module.Module.{Module}
use Rattle.wasm_values.specs.declared.types.FuncType.{FuncType}
use Rattle.wasm_typing.specs.Context.{locals_of}
use Rattle.wasm_validate.specs.Modules.{IsValid}
use Rattle.wasm_steps.specs.Threads.{arity}
use Rattle.wasm_link.specs.Made.{EachAt, IsOwnAt, own_entry, kind_of}
use Rattle.wasm_link.specs.declared.entries.Entry.{Entry}
use Rattle.wasm_link.specs.declared.entries.Entry.TheVariants as code
use Rattle.wasm_link.proofs.Each.{found, each_push, get_map, read_at}

module _ (m : Module) (valid : IsValid (module_view m)) (kinds : List ℕ) (types : List FuncType) (codes : List Code) (k : kinds ≡ m.funcs) (t : types ≡ m.types) (o : codes ≡ m.codes) (at : ℕ) (below : at < length kinds) where
  kind_at : slice_get m.funcs at ≡ Some (get_or kinds at 0)
  kind_at = ap (λ z. slice_get z at) (sym k) ∙ slice_get-get_or kinds at 0 below

  code_within : at < length codes
  code_within =
      let mapped = length-map m.codes code_view in
      let funcs = ap length k in
      let all = ap length o in
      omega (arith, mapped, funcs, all, valid.counts, below)

  code_at : (d : Code) → slice_get (map code_view m.codes) at ≡ Some (code_view (get_or codes at d))
  code_at d = get_map code_view m.codes at (get_or codes at d) (ap (λ z. slice_get z at) (sym o) ∙ slice_get-get_or codes at d code_within)

  pub kind_within : get_or kinds at 0 < length types
  kind_within =
      let c = found codes at code_within in
      let f = valid.codes at (get_or kinds at 0) (code_view (get_or codes at c.0)) kind_at (code_at c.0) in
      let within = slice_get_within m.types (get_or kinds at 0) f.0 f.1 in
      let all = ap length t in
      omega (arith, within, all)

  type_at : (x : FuncType) → x ≡ get_or types (get_or kinds at 0) x → slice_get m.types (get_or kinds at 0) ≡ Some x
  type_at x is = ap (λ z. slice_get z (get_or kinds at 0)) (sym t) ∙ read_at types (get_or kinds at 0) x kind_within is

  pub few_locals : WithinLocals (module_view m) → (x : FuncType) → x ≡ get_or types (get_or kinds at 0) x → (d : Code) → length x.params + sum_by (λ run. run.count) (get_or codes at d).locals ≤ 65536
  few_locals within x is d =
      let few : params_in (slice_get m.types (get_or kinds at 0)) + sum_by (λ run. run.count) (get_or codes at d).locals ≤ 65536 = within at (get_or kinds at 0) (code_view (get_or codes at d)) kind_at (code_at d) in
      let params : params_in (slice_get m.types (get_or kinds at 0)) ≡ length x.params = ap params_in (type_at x is) in
      omega (arith, few, params)

  pub few_params : WithinLocals (module_view m) → (x : FuncType) → x ≡ get_or types (get_or kinds at 0) x → length x.params ≤ 65536
  few_params within x is =
      let c = found codes at code_within in
      let few = few_locals within x is c.0 in
      omega (arith, few)

  pub own_more : (functions : List Entry) (x : FuncType) → x ≡ get_or types (get_or kinds at 0) x → (d : Code) (params more results : ℕ) → params ≡ length x.params → more ≡ length (locals_of (get_or codes at d).locals) → results ≡ arity x.result
      → length functions ≡ at → EachAt (IsOwnAt (module_view m)) functions → EachAt (IsOwnAt (module_view m)) (functions ++ code.Defined (get_or kinds at 0) at params more results ∷ [])
  own_more functions x is d params more results p l r count so_far =
      let made : code.Defined (get_or kinds at 0) at params more results ≡ own_entry at (get_or kinds at 0) x (code_view (get_or codes at d)) =
      ap (λ z. code.Defined (get_or kinds at 0) at z more results) p ∙ ap (λ z. code.Defined (get_or kinds at 0) at (length x.params) z results) l ∙ ap (λ z. code.Defined (get_or kinds at 0) at (length x.params) (length (locals_of (get_or codes at d).locals)) z) r in
      each_push (IsOwnAt (module_view m)) functions (code.Defined (get_or kinds at 0) at params more results) at count so_far (get_or kinds at 0, x, code_view (get_or codes at d), kind_at, type_at x is, code_at d, made)

pub own_kinds_more : (kinds : List ℕ) (at : ℕ) (old new : List Entry) (made : Entry) → at < length kinds → kind_of made ≡ get_or kinds at 0 → new ≡ old ++ made ∷ [] → map kind_of old ≡ take at kinds → map kind_of new ≡ take (at + 1) kinds
own_kinds_more kinds at old new made below same e so_far =
    ap (map kind_of) e ∙ map_push kind_of old made ∙ ap (λ z. z ++ kind_of made ∷ []) so_far ∙ ap (λ z. take at kinds ++ z ∷ []) same ∙ sym (take_more kinds at 0 below)
