-- What the store of a linked module needs, and its types.
use Rattle.std.proofs.Common.{◌≡◌, ℕ, suc, zero, ◌+◌, ◌-◌, ◌<◌, ◌≤◌, ◌^◌, ◌⊎◌, inl, inr, List, [], ◌∷◌, ◌++◌, length, map, take, drop, refl, ap, sym, ◌∙◌, subst, arith, Option, Some, None, slice_get, All}
use Rattle.std.specs.Prelude.{replicate}
use Rattle.std.proofs.lemmas.List.Elements.{All-head, All-tail, All-weaker}
use Rattle.wasm_values.specs.Syntax.{Ops}
use Rattle.wasm_values.specs.View.{instrs_view}
use Rattle.wasm_module.specs.Entries.{Elements, Global, global_view}
use Rattle.wasm_module.specs.Limits.{IsWithin}
use Rattle.wasm_module.specs.Sections.{module_view}
use Rattle.wasm_module.specs.declared.globals.GlobalDef.{GlobalDef}
use Rattle.wasm_store.specs.Memory.{Memory}
use Rattle.wasm_module.specs.declared.module.Module.{Module}
use Rattle.wasm_values.specs.declared.types.Bounds.{Bounds}
use Rattle.wasm_values.specs.declared.types.GlobalType.{GlobalType}
use Rattle.wasm_typing.specs.Context.{module_context, imported_globals}
use Rattle.wasm_validate.specs.Modules.{IsValid, IsGlobal, IsElements, IsMemoryType}
use Rattle.wasm_typing.specs.Typing.{IsConstant}
use Rattle.wasm_typing.proofs.Imported.{unmapped}
use Rattle.wasm_soundness.specs.Typed.{IsValue, AreValues, no_values, next_value, IsTypedStore}
use Rattle.wasm_steps.specs.Program.{Store}
use Rattle.wasm_link.specs.Linking.{constant, filled, first_table, first_store, table_size, first_memory}
use Rattle.wasm_link.specs.Made.{IsSmall}
use Rattle.wasm_link.proofs.Each.{same_found, all_at, all_from, found_under, get_left, get_right, before_or}
use Rattle.wasm_link.proofs.Places.{memory_size}
use Rattle.wasm_link.proofs.Programs.{IsFunc, no_globals, no_memories}

abbrev pub store_of : Memory → List ℕ → List (Option ℕ) → Store
store_of memory values table = record { memory = memory; globals = values; table = table }

-- ---- what is needed

least : (tables : List Bounds) → All (λ bounds. bounds.min ≤ 65536) tables → table_size tables < 2 ^ 32
least [] h = omega arith
least (x ∷ xs) h = let few = All-head (λ (z : Bounds). z.min ≤ 65536) x xs h in omega (arith, few)

-- The bytes of a memory that may be made are few.
pub small_bytes : (memories : List Bounds) → All IsSmall memories → length (first_memory memories).bytes ≤ 2 ^ 32
small_bytes [] h = let size = memory_size [] in omega (arith, size)
small_bytes (x ∷ xs) h =
    let few = (All-head IsSmall x xs h).0 in
    let size = memory_size (x ∷ xs) in
    omega (arith, size, few)

module _ (m : Module) (valid : IsValid (module_view m)) (within : IsWithin (module_view m)) (funcs : All IsFunc m.imports) where
  memories_are : (module_context (module_view m)).memories ≡ m.memories
  memories_are = ap (λ z. z ++ m.memories) (no_memories m.imports funcs)

  pub small_memories : All IsSmall m.memories
  small_memories = all_from IsSmall m.memories (λ i x e.
      let t : IsMemoryType x = all_at IsMemoryType (module_context (module_view m)).memories i x valid.memories (ap (λ z. slice_get z i) memories_are ∙ e) in
      (all_at (λ (z : Bounds). z.min ≤ 256) m.memories i x within.3 e, t.2))

  pub small_table : table_size m.tables < 2 ^ 32
  small_table = least m.tables within.4

  pub are_constants : All (λ global. IsConstant [] (instrs_view global.init) global.kind.value) m.globals
  are_constants = unmapped (λ (z : Global Ops). IsConstant [] z.1 z.0.value) global_view m.globals (subst (λ (z : List GlobalType). All (IsGlobal z) (map global_view m.globals)) (no_globals m.imports funcs) valid.globals)

-- ---- the types of the store

values_from : (globals : List GlobalDef) → All (λ global. IsValue global.kind.value (constant (instrs_view global.init))) globals
    → AreValues (map (λ type. type.value) (map (λ global. global.0) (map global_view globals))) (map (λ global. constant global.1) (map global_view globals))
values_from [] h = no_values
values_from (x ∷ xs) h =
    let P : GlobalDef → Type 0 = λ global. IsValue global.kind.value (constant (instrs_view global.init)) in
    next_value (All-head P x xs h) (values_from xs (All-tail P x xs h))

-- Each function in the table is one of these.
abbrev Names : ℕ → List (Option ℕ) → Type 0
Names count table = (entry func : ℕ) → slice_get table entry ≡ Some (Some func) → func < count

none_at : (count size entry func : ℕ) → slice_get (replicate (suc size) None) entry ≡ Some (Some func) → Names count (replicate size None) → func < count
none_at count size zero func e h = absurd cc
none_at count size (suc entry) func e h = h entry func e

names_none : (count size : ℕ) → Names count (replicate size None)
names_none count zero = λ entry func e. absurd cc
names_none count (suc size) = λ entry func e. none_at count size entry func e (names_none count size)

from_take : {A : Type 0} (n : ℕ) (xs : List A) (i : ℕ) (x : A) → slice_get (take n xs) i ≡ Some x → slice_get xs i ≡ Some x
from_take zero xs i x e = absurd cc
from_take (suc n) [] i x e = absurd cc
from_take (suc n) (y ∷ xs) zero x e = e
from_take (suc n) (y ∷ xs) (suc i) x e = from_take n xs i x e

from_drop : {A : Type 0} (n : ℕ) (xs : List A) (i : ℕ) (x : A) → slice_get (drop n xs) i ≡ Some x → (j : ℕ) × (slice_get xs j ≡ Some x)
from_drop zero xs i x e = (i, e)
from_drop (suc n) [] i x e = absurd cc
from_drop (suc n) (y ∷ xs) i x e = let r = from_drop n xs i x e in (suc r.0, r.1)

-- an entry of two lists is one of the first or one of the second
either : {A : Type 0} (xs ys : List A) (i : ℕ) (x : A) → slice_get (xs ++ ys) i ≡ Some x → (slice_get xs i ≡ Some x) ⊎ ((j : ℕ) × (slice_get ys j ≡ Some x))
either xs ys i x e = elim (before_or i (length xs)) [
  | inl below ↦ inl (sym (get_left xs ys i below) ∙ e)
  | inr past ↦ inr (i - length xs, sym (get_right xs ys i (i - length xs) (omega (arith, past))) ∙ e)
]

module _ (count : ℕ) (table : List (Option ℕ)) (segment : Elements Ops) (names : Names count table) (are : All (λ func. func < count) segment.1.1) where
  in_rest : (entry func : ℕ) → (slice_get (map Some segment.1.1) entry ≡ Some (Some func)) ⊎ ((j : ℕ) × (slice_get (drop (constant segment.1.0 + length segment.1.1) table) j ≡ Some (Some func))) → func < count
  in_rest entry func (inl e) =
      let r = found_under (λ (z : ℕ). Some z) segment.1.1 entry (Some func) e in
      all_at (λ (z : ℕ). z < count) segment.1.1 entry func are (r.1 ∙ ap Some (same_found (Some r.0) refl r.2))
  in_rest entry func (inr (j, e)) = let r = from_drop (constant segment.1.0 + length segment.1.1) table j (Some func) e in names r.0 func r.1

  in_filled : (entry func : ℕ) → (slice_get (take (constant segment.1.0) table) entry ≡ Some (Some func)) ⊎ ((j : ℕ) × (slice_get (map Some segment.1.1 ++ drop (constant segment.1.0 + length segment.1.1) table) j ≡ Some (Some func))) → func < count
  in_filled entry func (inl e) = names entry func (from_take (constant segment.1.0) table entry (Some func) e)
  in_filled entry func (inr (j, e)) = in_rest j func (either (map Some segment.1.1) (drop (constant segment.1.0 + length segment.1.1) table) j (Some func) e)

  names_filled : Names count (filled table segment)
  names_filled = λ entry func e. in_filled entry func (either (take (constant segment.1.0) table) (map Some segment.1.1 ++ drop (constant segment.1.0 + length segment.1.1) table) entry (Some func) e)

names_all : (count : ℕ) (table : List (Option ℕ)) (elements : List (Elements Ops)) → Names count table → All (λ segment. All (λ func. func < count) segment.1.1) elements → Names count (first_table table elements)
names_all count table [] names h = names
names_all count table (x ∷ xs) names h =
    let P : Elements Ops → Type 0 = λ segment. All (λ func. func < count) segment.1.1 in
    names_all count (filled table x) xs (names_filled count table x names (All-head P x xs h)) (All-tail P x xs h)

pub typed_store : (m : Module) → IsValid (module_view m) → All IsFunc m.imports → All (λ global. IsValue global.kind.value (constant (instrs_view global.init))) m.globals → IsTypedStore (module_context (module_view m)) (first_store (module_view m))
typed_store m valid funcs values = record {
  globals = subst (λ (z : List GlobalType). AreValues (map (λ type. type.value) (z ++ map (λ global. global.0) (map global_view m.globals))) (first_store (module_view m)).globals) (sym (no_globals m.imports funcs)) (values_from m.globals values);
  table = names_all (length (module_context (module_view m)).funcs) (replicate (table_size m.tables) None) (module_view m).elements (names_none (length (module_context (module_view m)).funcs) (table_size m.tables))
      (All-weaker (IsElements (module_context (module_view m)) (imported_globals (module_view m))) (λ segment. All (λ func. func < length (module_context (module_view m)).funcs) segment.1.1) (λ x h. h.2) (module_view m).elements valid.elements);
}

-- The parts of the store are those that the module begins with.
pub store_is : (m : Module) (memory : Memory) (values : List ℕ) (table : List (Option ℕ)) → memory ≡ (first_store (module_view m)).memory → values ≡ (first_store (module_view m)).globals → table ≡ (first_store (module_view m)).table
    → store_of memory values table ≡ first_store (module_view m)
store_is m memory values table a b c =
    ap (λ z. store_of z values table) a ∙ ap (λ z. store_of (first_store (module_view m)).memory z table) b ∙ ap (λ z. store_of (first_store (module_view m)).memory (first_store (module_view m)).globals z) c
