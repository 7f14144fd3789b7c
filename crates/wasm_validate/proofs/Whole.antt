-- From groups of rules to a valid module, and back.
use Rattle.std.proofs.Common.{◌≡◌, ℕ, suc, zero, ◌-◌, List, [], ◌∷◌, ◌++◌, length, take, map, refl, ap, sym, ◌∙◌, subst, arith, length-append, Bool, true, false, Option, Some, slice_get, option_map, Result, IfOk}
use Rattle.std.proofs.lemmas.List.{length-map}
use Rattle.std.proofs.lemmas.Option.{slice_get-map, slice_get_within}
use Rattle.std.proofs.lemmas.Result.{IfOk-weaker}
use Rattle.std.proofs.Math.Seq.{take-append_seam}
use Rattle.wasm_module.specs.Entries.{Function, code_view, global_view}
use Rattle.wasm_values.specs.Syntax.{Ops}
use Rattle.wasm_module.specs.Sections.{module_view}
use Rattle.wasm_module.specs.declared.codes.Code.{Code}
use Rattle.wasm_values.specs.declared.exports.Export.{Export}
use Rattle.wasm_module.specs.declared.module.Module.{Module}
use Rattle.wasm_values.specs.declared.types.GlobalType.{GlobalType}
use Rattle.wasm_typing.specs.Context.{Context, module_context, imported_globals}
use Rattle.wasm_validate.specs.inner.Groups.{AreDeclared, AreMade, AreFunctions}
use Rattle.wasm_typing.specs.Functions.{IsFunction}
use Rattle.wasm_validate.specs.Modules.{IsValid, NamesDiffer}
use Rattle.wasm_typing.specs.inner.Stands.{Exactly}

-- the globals that are imported
front : {X : Type 0} (xs ys : List X) (own : ℕ) → own ≡ length ys → take (length (xs ++ ys) - own) (xs ++ ys) ≡ xs
front xs ys own e =
    let both = length-append xs ys in
    let left : length (xs ++ ys) - own ≡ length xs = omega (arith, both, e) in
    ap (λ z. take z (xs ++ ys)) left ∙ take-append_seam xs ys

own_count : (m : Module) → length m.globals ≡ length (map (λ g. g.0) (map global_view m.globals))
own_count m = sym (length-map (map global_view m.globals) (λ g. g.0) ∙ length-map m.globals global_view)

pub imported_part : (m : Module) (cx : Context) (own : ℕ) → cx ≡ module_context (module_view m) → own ≡ length m.globals → take (length cx.globals - own) cx.globals ≡ imported_globals (module_view m)
imported_part m cx own e o = ap (λ (z : Context). take (length z.globals - own) z.globals) e ∙ front (imported_globals (module_view m)) (map (λ g. g.0) (map global_view m.globals)) own (o ∙ own_count m)

-- the codes
inside : {X : Type 0} {x y : X} → ◌≡◌ {A = Option X} (Some x) (Some y) → x ≡ y
inside e = cc

found_under : {X Y : Type 0} (f : X → Y) (xs : List X) (i : ℕ) (y : Y) → slice_get (map f xs) i ≡ Some y → (x : X) × (slice_get xs i ≡ Some x) × (f x ≡ y)
found_under f [] i y e = absurd cc
found_under f (x ∷ xs) zero y e = (x, refl, inside e)
found_under f (x ∷ xs) (suc i) y e = found_under f xs i y e

functions_of : (m : Module) → IsValid (module_view m) → AreFunctions (module_context (module_view m)) m.funcs m.codes (length m.funcs)
functions_of m h = λ i k d below e f. h.codes i k (code_view d) e (slice_get-map code_view m.codes i ∙ ap (option_map code_view) f)

codes_from : (m : Module) → AreFunctions (module_context (module_view m)) m.funcs m.codes (length m.funcs)
    → (i index : ℕ) (function : Function Ops) → slice_get m.funcs i ≡ Some index → slice_get (map code_view m.codes) i ≡ Some function → IsFunction (module_context (module_view m)) index function
codes_from m h i index function e f =
    let r = found_under code_view m.codes i function f in
    subst (λ (z : Function Ops). IsFunction (module_context (module_view m)) index z) r.2 (h i index r.0 (slice_get_within m.funcs i index e) e r.1)

-- all of them
valid_from : (m : Module) → AreDeclared (module_context (module_view m)) (module_view m) → AreMade (module_context (module_view m)) (imported_globals (module_view m)) (module_view m) → NamesDiffer m.exports
    → AreFunctions (module_context (module_view m)) m.funcs m.codes (length m.funcs) → IsValid (module_view m)
valid_from m d s names functions = record {
  funcs = d.funcs;
  counts = d.counts;
  codes = codes_from m functions;
  tables = d.tables;
  memories = d.memories;
  globals = s.globals;
  elements = s.elements;
  segments = s.segments;
  start = s.start;
  exports = s.exports;
  names = names;
  one_table = d.one_table;
  one_memory = d.one_memory;
}

-- where a group fails, the module is not valid
pub not_declared : (m : Module) (cx : Context) → cx ≡ module_context (module_view m) → (AreDeclared cx (module_view m) → ⊥) → IsValid (module_view m) → ⊥
not_declared m cx is bad h = bad (subst (λ (z : Context). AreDeclared z (module_view m)) (sym is) (record {
  funcs = h.funcs;
  counts = h.counts;
  tables = h.tables;
  memories = h.memories;
  one_table = h.one_table;
  one_memory = h.one_memory;
}))

pub not_made : (m : Module) (cx : Context) → cx ≡ module_context (module_view m) → (imported : List GlobalType) → imported ≡ imported_globals (module_view m) → (AreMade cx imported (module_view m) → ⊥) → IsValid (module_view m) → ⊥
not_made m cx is imported same bad h =
    let made : AreMade (module_context (module_view m)) (imported_globals (module_view m)) (module_view m) = record {
      globals = h.globals;
      elements = h.elements;
      segments = h.segments;
      start = h.start;
      exports = h.exports;
    } in
    bad (subst (λ (z : List GlobalType). AreMade cx z (module_view m)) (sym same) (subst (λ (z : Context). AreMade z (imported_globals (module_view m)) (module_view m)) (sym is) made))

pub not_named : (m : Module) (exports : List Export) → exports ≡ m.exports → (NamesDiffer exports → ⊥) → IsValid (module_view m) → ⊥
not_named m exports same bad h = bad (subst NamesDiffer (sym same) h.names)

-- by what the code has at hand
module _ (m : Module) (cx : Context) (is : cx ≡ module_context (module_view m)) where
  module _ (imported : List GlobalType) (exports : List Export) (kinds : List ℕ) (codes : List Code)
      (is_imported : imported ≡ imported_globals (module_view m)) (is_exports : exports ≡ m.exports) (is_kinds : kinds ≡ m.funcs) (is_codes : codes ≡ m.codes)
      (declared : AreDeclared cx (module_view m)) (is_made : AreMade cx imported (module_view m)) (names : NamesDiffer exports) where
    by_functions : (b : Bool) → Exactly (AreFunctions cx kinds codes (length kinds)) b → Exactly (IsValid (module_view m)) b
    by_functions true f = valid_from m
        (subst (λ (z : Context). AreDeclared z (module_view m)) is declared)
        (subst (λ (z : Context). AreMade z (imported_globals (module_view m)) (module_view m)) is (subst (λ (z : List GlobalType). AreMade cx z (module_view m)) is_imported is_made))
        (subst (λ (z : List Export). NamesDiffer z) is_exports names)
        (subst (λ (z : Context). AreFunctions z m.funcs m.codes (length m.funcs)) is
        (subst (λ (z : List Code). AreFunctions cx m.funcs z (length m.funcs)) is_codes (subst (λ (z : List ℕ). AreFunctions cx z codes (length z)) is_kinds f)))
    by_functions false f = λ h. f (subst (λ (z : List ℕ). AreFunctions cx z codes (length z)) (sym is_kinds)
        (subst (λ (z : List Code). AreFunctions cx m.funcs z (length m.funcs)) (sym is_codes) (subst (λ (z : Context). AreFunctions z m.funcs m.codes (length m.funcs)) (sym is) (functions_of m h))))

    pub all_checked : {E : Type 0} (r : Result Bool E) → IfOk r (λ b. Exactly (AreFunctions cx kinds codes (length kinds)) b) → IfOk r (λ b. Exactly (IsValid (module_view m)) b)
    all_checked r h = IfOk-weaker r (λ b. Exactly (AreFunctions cx kinds codes (length kinds)) b) (λ b. Exactly (IsValid (module_view m)) b) by_functions h
