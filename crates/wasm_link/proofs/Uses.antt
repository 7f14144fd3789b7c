-- What is known of a linked module.
use Rattle.std.proofs.Common.{◌≡◌, ℕ, ◌<◌, List, length, map, refl, ap, sym, ◌∙◌, subst, Bool, Option, Some, None, slice_get, All, IfSome, IsTrue, ◌↔◌, get_or, arith, nat_eq}
use Rattle.std.specs.Option.{unwrap_or}
use Rattle.std.proofs.lemmas.Bool.Decides.{nat_tests}
use Rattle.std.proofs.lemmas.Option.{slice_get_within, get_or_from_slice_get}
use Rattle.wasm_values.specs.Syntax.{Ops}
use Rattle.wasm_module.specs.Entries.{Function, code_view}
use Rattle.wasm_values.specs.View.{items_view, instrs_view}
use Rattle.wasm_values.proofs.Views.{view_instrs}
use Rattle.wasm_module.specs.declared.codes.Code.{Code}
use Rattle.wasm_values.specs.declared.instr.Instr.{Instr}
use Rattle.wasm_module.specs.declared.module.Module.{Module}
use Rattle.wasm_module.specs.Sections.{Syntax, module_view}
use Rattle.wasm_values.specs.declared.types.FuncType.{FuncType}
use Rattle.wasm_typing.specs.Context.{module_context}
use Rattle.wasm_validate.specs.Modules.{IsValid, IsStart}
use Rattle.wasm_steps.specs.Program.{type_of, defined, Program}
use Rattle.wasm_steps.specs.Threads.{arity}
use Rattle.wasm_steps.specs.Program as steps
use Rattle.wasm_soundness.specs.Typed.{IsTypedProgram}
use Rattle.wasm_link.specs.Callee.{IsEntry}
use Rattle.wasm_link.specs.Kept.{IsKept}
use Rattle.wasm_link.specs.Made.{program_of, function_of, IsEntryOf, kind_of, no_type, AreClasses, body_in}
use Rattle.wasm_link.specs.declared.entries.Entry.{Entry}
use Rattle.wasm_link.specs.declared.entries.Entry.TheVariants as code
use Rattle.wasm_link.proofs.Each.{same_found, found, all_at, get_map, found_under}
use Rattle.wasm_link.proofs.Programs.{IsFunc, all_funcs, typed_program, entry_of}

module _ (m : Syntax Ops) (functions : List Entry) (classes : List ℕ) (most main : ℕ) (valid : IsValid m) (kept : IsKept m functions classes most main) where
  pub kept_funcs : All IsFunc m.imports
  kept_funcs = all_funcs kept.sigs m.types m.imports kept.linked.imports

  pub kept_typed : IsTypedProgram (module_context m) (program_of m functions)
  kept_typed = typed_program kept.sigs m (program_of m functions) valid kept.linked.imports kept.linked.program kept.within

  pub kept_main : IsEntry (program_of m functions) main
  kept_main =
      let h = kept.linked.main in
      entry_of kept.sigs m (program_of m functions) valid kept.linked.imports kept.linked.program kept.busy main h.type h.typed h.params h.result

  start_from : (o : Option ℕ) → IsStart (module_context m) o → IfSome o (IsEntry (program_of m functions))
  start_from None h = tt
  start_from (Some func) h = entry_of kept.sigs m (program_of m functions) valid kept.linked.imports kept.linked.program kept.busy func h.0 h.1 h.2 h.3

  pub kept_start : IfSome m.start (IsEntry (program_of m functions))
  kept_start = start_from m.start valid.start

-- ---- the type of a function

equal_from : (a b : ℕ) (r : Bool) → r ≡ nat_eq a b → IsTrue r → a ≡ b
equal_from a b r e t = grind (arith, nat_tests)

equal_to : (a b : ℕ) (r : Bool) → r ≡ nat_eq a b → a ≡ b → IsTrue r
equal_to a b r e same = grind (arith, nat_tests)

known_type : (types : List FuncType) (kind : ℕ) (type : FuncType) → slice_get types kind ≡ Some type → slice_get types kind ≡ Some (unwrap_or (slice_get types kind) no_type)
known_type types kind type e = e ∙ ap (λ z. Some (unwrap_or z no_type)) (sym e)

typed_entry : (m : Syntax Ops) (e : Entry) → IsEntryOf m e → slice_get m.types (kind_of e) ≡ Some (type_of (function_of m e))
typed_entry m (code.Imported kind call) h = known_type m.types kind h.0 h.1
typed_entry m (code.Defined kind place params more results) h = known_type m.types kind h.0 h.2

abbrev pub HasTypeAt : Program → ℕ → ℕ → ℕ → ℕ → Type 0
HasTypeAt program func index a b = IsTrue (nat_eq a b) ↔ ((found : steps.Function) → slice_get program.functions func ≡ Some found → slice_get program.types index ≡ Some (type_of found))

module _ (m : Syntax Ops) (functions : List Entry) (classes : List ℕ) (entries : All (IsEntryOf m) functions) (are : AreClasses m.types classes) (func index : ℕ) (e : Entry) (is : slice_get functions func ≡ Some e) where
  pub kind_typed : slice_get m.types (kind_of e) ≡ Some (type_of (function_of m e))
  kind_typed = typed_entry m e (all_at (IsEntryOf m) functions func e entries is)

  pub kind_below : kind_of e < length classes
  kind_below = let w = slice_get_within m.types (kind_of e) (type_of (function_of m e)) kind_typed in omega (arith, w, are.count)

  Has : Type 0
  Has = (found : steps.Function) → slice_get (map (function_of m) functions) func ≡ Some found → slice_get m.types index ≡ Some (type_of found)

  here : Has → slice_get m.types index ≡ Some (type_of (function_of m e))
  unfolding Has
  here h = h (function_of m e) (get_map (function_of m) functions func e is)

  there : slice_get m.types index ≡ Some (type_of (function_of m e)) → Has
  unfolding Has
  there h = λ found f. h ∙ ap (λ z. Some (type_of z)) (same_found (slice_get (map (function_of m) functions) func) (get_map (function_of m) functions func e is) f)

  module _ (within : index < length m.types) where
    forth : slice_get classes (kind_of e) ≡ slice_get classes index → slice_get m.types index ≡ Some (type_of (function_of m e))
    forth same =
        let t = found m.types index within in
        let c = found classes index (omega (arith, within, are.count)) in
        let one : type_of (function_of m e) ≡ t.0 = are.equal (kind_of e) index c.0 (type_of (function_of m e)) t.0 kind_typed t.1 (same ∙ c.1) c.1 in
        t.1 ∙ ap Some (sym one)

    back : (a b : ℕ) → slice_get classes (kind_of e) ≡ Some a → slice_get classes index ≡ Some b → slice_get m.types index ≡ Some (type_of (function_of m e)) → a ≡ b
    back a b f g h = are.same (kind_of e) index a b (type_of (function_of m e)) kind_typed h f g

    pub has_type_by : (a b : ℕ) → slice_get classes (kind_of e) ≡ Some a → slice_get classes index ≡ Some b → HasTypeAt (program_of m functions) func index a b
    unfolding Has
    has_type_by a b f g =
        (λ t. there (forth (f ∙ ap Some (equal_from a b (nat_eq a b) refl t) ∙ sym g)), λ h. equal_to a b (nat_eq a b) refl (back a b f g (here h)))

-- ---- a call

abbrev pub IsDefinedAt : Program → ℕ → ℕ → ℕ → ℕ → List Instr → Type 0
IsDefinedAt program func params more results body =
    (found : steps.Function) × (slice_get program.functions func ≡ Some found) × ((type : FuncType) × (found ≡ defined type more (items_view body)) × (params ≡ length type.params) × (results ≡ arity type.result))

pub defined_call : (w : Module) (functions : List Entry) (func : ℕ) (e : Entry) (kind place params more results : ℕ) (codes : List Code) (d : Code) (body : List Instr)
    → slice_get functions func ≡ Some e → All (IsEntryOf (module_view w)) functions → e ≡ code.Defined kind place params more results → codes ≡ w.codes → body ≡ (get_or codes place d).body.list
    → IsDefinedAt (program_of (module_view w) functions) func params more results body
defined_call w functions func e kind place params more results codes d body is entries e_is c b =
    let m = module_view w in
    let h : IsEntryOf m (code.Defined kind place params more results) = subst (λ (z : Entry). IsEntryOf m z) e_is (all_at (IsEntryOf m) functions func e entries is) in
    let under = found_under code_view w.codes place h.1 h.3 in
    let one : get_or codes place d ≡ under.0 = ap (λ z. get_or z place d) c ∙ get_or_from_slice_get w.codes place under.0 d under.1 in
    let ops : h.1.1 ≡ items_view body = ap (λ (z : Function Ops). z.1) (sym under.2) ∙ ap (λ (z : Code). instrs_view z.body) (sym one) ∙ view_instrs (get_or codes place d).body ∙ ap items_view (sym b) in
    let made : function_of m e ≡ defined h.0 more (items_view body) =
    ap (function_of m) e_is ∙ ap (λ z. defined (unwrap_or z no_type) more (body_in (slice_get m.codes place))) h.2 ∙ ap (λ z. defined h.0 more (body_in z)) h.3 ∙ ap (λ z. defined h.0 more z) ops in
    (function_of m e, get_map (function_of m) functions func e is, (h.0, made, h.4, h.5))
