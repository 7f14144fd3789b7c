-- The context of a module, from what was gathered.
use Rattle.std.proofs.Common.{◌≡◌, ℕ, List, [], ◌∷◌, ◌++◌, map, refl, ap, ◌∙◌, Option, None, ◌-◌}
use Rattle.std.proofs.lemmas.List.{append-nil}
use Rattle.std.specs.List.{filter_map}
use Rattle.wasm_module.specs.Entries.{global_view}
use Rattle.wasm_values.specs.declared.imports.Import.{Import}
use Rattle.wasm_module.specs.declared.globals.GlobalDef.{GlobalDef}
use Rattle.wasm_values.specs.declared.types.FuncType.{FuncType}
use Rattle.wasm_values.specs.declared.types.Bounds.{Bounds}
use Rattle.wasm_values.specs.declared.types.GlobalType.{GlobalType}
use Rattle.wasm_typing.specs.Context.{Context, imported_global}

pub gathered : {Y : Type 0} (h : Import → Option Y) (start imported middle new own own_there : List Y) (imports imports_there : List Import)
    → start ≡ [] → imported ≡ start ++ filter_map h imports_there → imports_there ≡ imports → middle ≡ imported ++ own_there → own_there ≡ own → new ≡ middle ++ []
    → new ≡ filter_map h imports ++ own
gathered h start imported middle new own own_there imports imports_there empty i j m o n =
    n ∙ append-nil middle ∙ m ∙ ap (λ z. imported ++ z) o ∙ ap (λ z. z ++ own) (i ∙ ap (λ z. z ++ filter_map h imports_there) empty ∙ ap (filter_map h) j)

kinds_seen : (globals : List GlobalDef) → map (λ (g : GlobalDef). g.kind) globals ≡ map (λ g. g.0) (map global_view globals)
kinds_seen [] = refl
kinds_seen (x ∷ xs) = ap (λ z. x.kind ∷ z) (kinds_seen xs)

pub gathered_globals : (start imported new : List GlobalType) (own own_there : List GlobalDef) (imports imports_there : List Import)
    → start ≡ [] → imported ≡ start ++ filter_map (λ (x : Import). imported_global x.desc) imports_there → imports_there ≡ imports → own_there ≡ own → new ≡ imported ++ map (λ (g : GlobalDef). g.kind) own_there
    → new ≡ filter_map (λ (x : Import). imported_global x.desc) imports ++ map (λ g. g.0) (map global_view own)
gathered_globals start imported new own own_there imports imports_there empty i j o n =
    n ∙ ap (λ (z : List GlobalDef). imported ++ map (λ (g : GlobalDef). g.kind) z) o ∙ ap (λ z. imported ++ z) (kinds_seen own)
    ∙ ap (λ z. z ++ map (λ g. g.0) (map global_view own)) (i ∙ ap (λ z. z ++ filter_map (λ (x : Import). imported_global x.desc) imports_there) empty ∙ ap (filter_map (λ (x : Import). imported_global x.desc)) j)

abbrev outside : List FuncType → List ℕ → List Bounds → List Bounds → List GlobalType → Context
outside types funcs tables memories globals = record { types = types; funcs = funcs; tables = tables; memories = memories; globals = globals; locals = []; result = None }

pub made : {types types_there : List FuncType} {funcs funcs_there : List ℕ} {tables tables_there memories memories_there : List Bounds} {globals globals_there : List GlobalType}
    → types ≡ types_there → funcs ≡ funcs_there → tables ≡ tables_there → memories ≡ memories_there → globals ≡ globals_there
    → outside types funcs tables memories globals ≡ outside types_there funcs_there tables_there memories_there globals_there
made {types} {types_there} {funcs} {funcs_there} {tables} {tables_there} {memories} {memories_there} {globals} {globals_there} a b c d e =
    ap (λ (z : List FuncType). outside z funcs tables memories globals) a
    ∙ ap (λ (z : List ℕ). outside types_there z tables memories globals) b
    ∙ ap (λ (z : List Bounds). outside types_there funcs_there z memories globals) c
    ∙ ap (λ (z : List Bounds). outside types_there funcs_there tables_there z globals) d
    ∙ ap (λ (z : List GlobalType). outside types_there funcs_there tables_there memories_there z) e
