-- The functions of a linked module, and their types.
use Rattle.std.proofs.Common.{◌≡◌, ℕ, suc, zero, ◌+◌, ◌-◌, ◌<◌, ◌≤◌, ◌⊎◌, inl, inr, List, [], ◌∷◌, length, refl, ap, sym, ◌∙◌, subst, arith, length-append, Option, Some, None, slice_get, All}
use Rattle.std.specs.List.{filter_map, cons_option, sum_by}
use Rattle.std.proofs.lemmas.Option.{slice_get_within}
use Rattle.std.proofs.lemmas.List.{length-replicate}
use Rattle.std.proofs.lemmas.List.Sums.{sum_by-cons}
use Rattle.std.proofs.lemmas.List.Elements.{All-head, All-tail, All-weaker}
use Rattle.std.specs.Prelude.{replicate}
use Rattle.wasm_values.specs.Syntax.{Ops, ops_nesting}
use Rattle.wasm_module.specs.Entries.{Function}
use Rattle.wasm_module.specs.Limits.{IsWithin, params_in}
use Rattle.wasm_module.specs.Sections.{Syntax}
use Rattle.wasm_module.specs.declared.codes.LocalRun.{LocalRun}
use Rattle.wasm_values.specs.declared.host_sig.HostSig.{HostSig}
use Rattle.wasm_values.specs.declared.imports.Import.{Import}
use Rattle.wasm_values.specs.declared.imports.ImportDesc.{ImportDesc}
use Rattle.wasm_values.specs.declared.imports.ImportDesc.TheVariants as import
use Rattle.wasm_values.specs.declared.types.FuncType.{FuncType}
use Rattle.wasm_typing.specs.Context.{module_context, function_context, imported_func, imported_table, imported_memory, imported_global, locals_of}
use Rattle.wasm_validate.specs.Modules.{IsValid}
use Rattle.wasm_typing.specs.Typing.{HasType, TypedBody}
use Rattle.wasm_steps.specs.Program.{imported, defined, type_of, Program}
use Rattle.wasm_steps.specs.Program as steps
use Rattle.wasm_soundness.specs.Typed.{IsTypedProgram, IsBody}
use Rattle.wasm_link.specs.Callee.{IsEntry}
use Rattle.wasm_link.specs.Linking.{Names, IsOfKind, IsProgram}
use Rattle.wasm_link.specs.Made.{AreBusy}
use Rattle.wasm_link.proofs.Each.{same_found, before_or, found, all_at, get_left, get_right}

-- ---- imports that are all functions

abbrev pub IsFunc : Import → Type 0
IsFunc entry = (index : ℕ) × (entry.desc ≡ import.Func index)

pub all_funcs : (sigs : List HostSig) (types : List FuncType) (imports : List Import) → All (IsOfKind sigs types) imports → All IsFunc imports
all_funcs sigs types imports h = All-weaker (IsOfKind sigs types) IsFunc (λ x k. (k.index, k.func)) imports h

kept : {Y : Type 0} (o : Option Y) (y : Y) (ys : List Y) → o ≡ Some y → cons_option o ys ≡ y ∷ ys
kept o y ys e = ap (λ z. cons_option z ys) e

dropped : {Y : Type 0} (o : Option Y) (ys : List Y) → o ≡ None → cons_option o ys ≡ ys
dropped o ys e = ap (λ z. cons_option z ys) e

none_of : {Y : Type 0} (h : ImportDesc → Option Y) (imports : List Import) → ((index : ℕ) → h (import.Func index) ≡ None) → All IsFunc imports → filter_map (λ entry. h entry.desc) imports ≡ []
none_of h [] never all = refl
none_of h (x ∷ xs) never all =
    let first = All-head IsFunc x xs all in
    dropped (h x.desc) (filter_map (λ entry. h entry.desc) xs) (ap h first.1 ∙ never first.0) ∙ none_of h xs never (All-tail IsFunc x xs all)

pub no_globals : (imports : List Import) → All IsFunc imports → filter_map (λ entry. imported_global entry.desc) imports ≡ []
no_globals imports all = none_of imported_global imports (λ index. refl) all

pub no_tables : (imports : List Import) → All IsFunc imports → filter_map (λ entry. imported_table entry.desc) imports ≡ []
no_tables imports all = none_of imported_table imports (λ index. refl) all

pub no_memories : (imports : List Import) → All IsFunc imports → filter_map (λ entry. imported_memory entry.desc) imports ≡ []
no_memories imports all = none_of imported_memory imports (λ index. refl) all

abbrev pub imported_funcs : List Import → List ℕ
imported_funcs imports = filter_map (λ entry. imported_func entry.desc) imports

func_count : (imports : List Import) → All IsFunc imports → length (imported_funcs imports) ≡ length imports
func_count [] all = refl
func_count (x ∷ xs) all =
    let first = All-head IsFunc x xs all in
    ap length (kept (imported_func x.desc) first.0 (imported_funcs xs) (ap imported_func first.1)) ∙ ap suc (func_count xs (All-tail IsFunc x xs all))

func_at : (imports : List Import) (i index : ℕ) (entry : Import) → All IsFunc imports → slice_get imports i ≡ Some entry → entry.desc ≡ import.Func index → slice_get (imported_funcs imports) i ≡ Some index
func_at [] i index entry all e f = absurd cc
func_at (x ∷ xs) zero index entry all e f =
    let one : x ≡ entry = same_found (Some x) refl e in
    ap (λ z. slice_get z 0) (kept (imported_func x.desc) index (imported_funcs xs) (ap (λ (z : Import). imported_func z.desc) one ∙ ap imported_func f))
func_at (x ∷ xs) (suc i) index entry all e f =
    let first = All-head IsFunc x xs all in
    ap (λ z. slice_get z (suc i)) (kept (imported_func x.desc) first.0 (imported_funcs xs) (ap imported_func first.1)) ∙ func_at xs i index entry (All-tail IsFunc x xs all) e f

-- how many locals the runs say
pub locals_count : (runs : List LocalRun) → length (locals_of runs) ≡ sum_by (λ run. run.count) runs
locals_count [] = refl
locals_count (run ∷ runs) = length-append (replicate run.count run.value) (locals_of runs) ∙ ap (λ z. z + length (locals_of runs)) (length-replicate run.count run.value) ∙ ap (λ z. run.count + z) (locals_count runs) ∙ sym (sum_by-cons (λ run. run.count) run runs)

-- ---- where a function comes from

pub record FromHost (sigs : List HostSig) (m : Syntax Ops) (func : ℕ) (function : steps.Function) : Type 0 where
  pub entry : Import
  pub number : ℕ
  pub index : ℕ
  pub sig : HostSig
  pub type : FuncType
  pub stands : slice_get m.imports func ≡ Some entry
  pub named : Names sigs entry number sig
  pub kind : entry.desc ≡ import.Func index
  pub declared : slice_get m.types index ≡ Some type
  pub params : type.params ≡ sig.params.now
  pub result : type.result ≡ sig.result
  pub is : function ≡ imported type number

pub record FromModule (m : Syntax Ops) (func : ℕ) (function : steps.Function) : Type 0 where
  pub place : ℕ
  pub index : ℕ
  pub type : FuncType
  pub code : Function Ops
  pub at : func ≡ length m.imports + place
  pub kind : slice_get m.funcs place ≡ Some index
  pub declared : slice_get m.types index ≡ Some type
  pub stands : slice_get m.codes place ≡ Some code
  pub is : function ≡ defined type (length (locals_of code.0)) code.1

module _ (sigs : List HostSig) (m : Syntax Ops) (p : Program) (valid : IsValid m) (kinds : All (IsOfKind sigs m.types) m.imports) (is : IsProgram sigs m p) where
  from_host : (func : ℕ) (function : steps.Function) → slice_get p.functions func ≡ Some function → func < length m.imports → FromHost sigs m func function
  from_host func function e below =
      let f = found m.imports func below in
      let k = all_at (IsOfKind sigs m.types) m.imports func f.0 kinds f.1 in
      let there = is.imports func k.number k.index f.0 k.sig k.type f.1 k.named k.func k.declared in
      record {
        entry = f.0;
        number = k.number;
        index = k.index;
        sig = k.sig;
        type = k.type;
        stands = f.1;
        named = k.named;
        kind = k.func;
        declared = k.declared;
        params = k.params;
        result = k.result;
        is = same_found (slice_get p.functions func) e there;
      }

  from_module : (func place : ℕ) (function : steps.Function) → slice_get p.functions func ≡ Some function → func ≡ length m.imports + place → FromModule m func function
  from_module func place function e at =
      let within : func < length p.functions = slice_get_within p.functions func function e in
      let below : place < length m.codes = omega (arith, within, is.count, at) in
      let kind = found m.funcs place (omega (arith, below, valid.counts)) in
      let code = found m.codes place below in
      let typed = valid.codes place kind.0 code.0 kind.1 code.1 in
      let there = is.own place kind.0 typed.0 code.0 kind.1 typed.1 code.1 in
      record {
        place = place;
        index = kind.0;
        type = typed.0;
        code = code.0;
        at = at;
        kind = kind.1;
        declared = typed.1;
        stands = code.1;
        is = same_found (slice_get p.functions func) e (subst (λ (z : ℕ). slice_get p.functions z ≡ Some (defined typed.0 (length (locals_of code.0.0)) code.0.1)) (sym at) there);
      }

  pub origin : (func : ℕ) (function : steps.Function) → slice_get p.functions func ≡ Some function → FromHost sigs m func function ⊎ FromModule m func function
  origin func function e = elim (before_or func (length m.imports)) [
    | inl below ↦ inl (from_host func function e below)
    | inr past ↦ inr (from_module func (func - length m.imports) function e (omega (arith, past)))
  ]

  -- ---- the types of functions

  all_are : All IsFunc m.imports
  all_are = all_funcs sigs m.types m.imports kinds

  host_index : (func index : ℕ) (function : steps.Function) (h : FromHost sigs m func function) → slice_get (module_context m).funcs func ≡ Some index → h.index ≡ index
  host_index func index function h e =
      let below : func < length (imported_funcs m.imports) = let w = slice_get_within m.imports func h.entry h.stands in omega (arith, w, func_count m.imports all_are) in
      same_found (slice_get (module_context m).funcs func) (get_left (imported_funcs m.imports) m.funcs func below ∙ func_at m.imports func h.index h.entry all_are h.stands h.kind) e

  module_index : (func index : ℕ) (function : steps.Function) (h : FromModule m func function) → slice_get (module_context m).funcs func ≡ Some index → h.index ≡ index
  module_index func index function h e =
      let there : func ≡ length (imported_funcs m.imports) + h.place = omega (arith, h.at, func_count m.imports all_are) in
      same_found (slice_get (module_context m).funcs func) (get_right (imported_funcs m.imports) m.funcs func h.place there ∙ h.kind) e

  has_type_of : (func index : ℕ) (function : steps.Function) → FromHost sigs m func function ⊎ FromModule m func function → slice_get (module_context m).funcs func ≡ Some index → slice_get m.types index ≡ Some (type_of function)
  has_type_of func index function (inl h) e = ap (slice_get m.types) (sym (host_index func index function h e)) ∙ h.declared ∙ ap (λ z. Some (type_of z)) (sym h.is)
  has_type_of func index function (inr h) e = ap (slice_get m.types) (sym (module_index func index function h e)) ∙ h.declared ∙ ap (λ z. Some (type_of z)) (sym h.is)

  -- ---- the whole program

  count_is : length p.functions ≡ length (module_context m).funcs
  count_is =
      let both = length-append (imported_funcs m.imports) m.funcs in
      omega (arith, both, is.count, func_count m.imports all_are, valid.counts)

  module _ (within : IsWithin m) where
    shallow_at : (place : ℕ) (code : Function Ops) → slice_get m.codes place ≡ Some code → ops_nesting code.1 + 1 ≤ 201
    shallow_at place code e =
        let deep : ops_nesting code.1 ≤ 200 = all_at (λ (z : Function Ops). ops_nesting z.1 ≤ 200) m.codes place code within.1.2 e in
        omega (arith, deep)

    room_at : (place index : ℕ) (type : FuncType) (code : Function Ops) → slice_get m.funcs place ≡ Some index → slice_get m.types index ≡ Some type → slice_get m.codes place ≡ Some code → length type.params + length (locals_of code.0) ≤ 65536
    room_at place index type code e f g =
        let few : params_in (slice_get m.types index) + sum_by (λ run. run.count) code.0 ≤ 65536 = within.2 place index code e g in
        let params : params_in (slice_get m.types index) ≡ length type.params = ap params_in f in
        omega (arith, few, params, locals_count code.0)

    body_of : (func : ℕ) (type : FuncType) (more : ℕ) (body : Ops) (function : steps.Function) → function ≡ defined type more body → FromHost sigs m func function ⊎ FromModule m func function → IsBody (module_context m) type more body
    body_of func type more body function e (inl h) = let never : imported h.type h.number ≡ defined type more body = sym h.is ∙ e in absurd cc
    body_of func type more body function e (inr h) =
        let same : defined h.type (length (locals_of h.code.0)) h.code.1 ≡ defined type more body = sym h.is ∙ e in
        let one : h.type ≡ type = cc in
        let two : length (locals_of h.code.0) ≡ more = cc in
        let three : h.code.1 ≡ body = cc in
        let typed = valid.codes h.place h.index h.code h.kind h.stands in
        let known : typed.0 ≡ h.type = same_found (slice_get m.types h.index) typed.1 h.declared in
        let made : IsBody (module_context m) h.type (length (locals_of h.code.0)) h.code.1 = record {
          locals = locals_of h.code.0;
          count = refl;
          typed = subst (λ (z : FuncType). TypedBody (function_context (module_context m) z h.code.0) h.code.1) known typed.2;
          shallow = shallow_at h.place h.code h.stands;
          room = room_at h.place h.index h.type h.code h.kind h.declared h.stands;
        } in
        subst (λ (z : Ops). IsBody (module_context m) type more z) three (subst (λ (z : ℕ). IsBody (module_context m) type z h.code.1) two (subst (λ (z : FuncType). IsBody (module_context m) z (length (locals_of h.code.0)) h.code.1) one made))

    pub typed_program : IsTypedProgram (module_context m) p
    typed_program = record {
      types = is.types;
      count = count_is;
      functions = λ func index function e f. has_type_of func index function (origin func function e) f;
      bodies = λ func type more body e. body_of func type more body (defined type more body) refl (origin func (defined type more body) e);
    }

  -- ---- functions that are entered from outside

  module _ (busy : AreBusy sigs) (func : ℕ) (type : FuncType) (has : HasType (module_context m) func type) (params : type.params ≡ []) (result : type.result ≡ None) where
    entry_from : (function : steps.Function) → slice_get p.functions func ≡ Some function → type_of function ≡ type → FromHost sigs m func function ⊎ FromModule m func function → IsEntry p func
    entry_from function e t (inl h) =
        let same : h.type ≡ type = sym (ap type_of h.is) ∙ t in
        let none : h.sig.params.now ≡ [] = sym h.params ∙ ap (λ (z : FuncType). z.params) same ∙ params in
        let nothing : h.sig.result ≡ None = sym h.result ∙ ap (λ (z : FuncType). z.result) same ∙ result in
        absurd (all_at (λ (z : HostSig). z.params.now ≡ [] → z.result ≡ None → ⊥) sigs h.number h.sig busy h.named.stands none nothing)
    entry_from function e t (inr h) =
        let same : h.type ≡ type = sym (ap type_of h.is) ∙ t in
        record {
          type = h.type;
          more = length (locals_of h.code.0);
          body = h.code.1;
          known = e ∙ ap Some h.is;
          params = ap (λ (z : FuncType). z.params) same ∙ params;
          result = ap (λ (z : FuncType). z.result) same ∙ result;
        }

    pub entry_of : IsEntry p func
    entry_of =
        let within : func < length p.functions = let w = slice_get_within (module_context m).funcs func has.0 has.1 in omega (arith, w, count_is) in
        let f = found p.functions func within in
        let o = origin func f.0 f.1 in
        entry_from f.0 f.1 (same_found (slice_get m.types has.0) (has_type_of func has.0 f.0 o has.1) has.2) o
