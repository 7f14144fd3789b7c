-- From the parts of a module to the whole link.
use Rattle.std.proofs.Common.{◌≡◌, ℕ, List, ◌++◌, map, refl, ap, sym, ◌∙◌, subst, Some, slice_get, All}
use Rattle.wasm_values.specs.Syntax.{Ops}
use Rattle.wasm_module.specs.Limits.{IsWithin}
use Rattle.wasm_module.specs.Sections.{Syntax}
use Rattle.wasm_values.specs.declared.exports.Export.{Export}
use Rattle.wasm_values.specs.declared.host_sig.HostSig.{HostSig}
use Rattle.wasm_values.specs.declared.imports.Import.{Import}
use Rattle.wasm_values.specs.declared.types.FuncType.{FuncType}
use Rattle.wasm_typing.specs.Context.{module_context}
use Rattle.wasm_validate.specs.Modules.{IsValid}
use Rattle.wasm_link.specs.Kept.{IsKept, link_of, IsMost}
use Rattle.wasm_link.specs.Linking.{IsKnown, IsOfKind, IsLinked, IsLinkable, IsFault, HasLoop, Fits, spans, FirstNot}
use Rattle.wasm_link.specs.Made.{AreNamed, AreImported, AreOwn, HaveMost, IsOtherKind, IsLoop, IsCounted, AreBusy, AreClasses, IsEntryOf, program_of, kind_of}
use Rattle.wasm_link.specs.declared.entries.Entry.{Entry}
use Rattle.wasm_link.specs.declared.fault.LinkFault.{LinkFault}
use Rattle.wasm_link.specs.declared.fault.LinkFault.TheVariants as fault
use Rattle.wasm_link.proofs.Each.{all_at}
use Rattle.wasm_link.proofs.Names.{all_of_kind}
use Rattle.wasm_link.proofs.Parts.{is_program, are_entries, is_most, kinds_are}
use Rattle.wasm_link.proofs.Programs.{imported_funcs}

module _ (m : Syntax Ops) (sigs : List HostSig) (types : List FuncType) (imports : List Import) (t : types ≡ m.types) (i : imports ≡ m.imports) where
  pub named_whole : (calls : List ℕ) → AreNamed sigs imports calls → AreNamed sigs m.imports calls
  named_whole calls h = subst (λ (z : List Import). AreNamed sigs z calls) i h

  pub imported_whole : (functions : List Entry) → AreImported sigs types imports functions → AreImported sigs m.types m.imports functions
  imported_whole functions h = subst (λ (z : List FuncType). AreImported sigs z m.imports functions) t (subst (λ (z : List Import). AreImported sigs types z functions) i h)

  pub other_fault : (e : LinkFault) → All (IsKnown sigs) imports → IsOtherKind sigs types imports e → IsFault sigs m e
  other_fault (fault.UnknownImport place) all h = absurd h
  other_fault (fault.ImportKind place) all h = (
    subst (λ (z : List Import). All (IsKnown sigs) z) i all,
    subst (λ (z : List FuncType). FirstNot (IsOfKind sigs z) m.imports place) t (subst (λ (z : List Import). FirstNot (IsOfKind sigs types) z place) i h),
  )
  other_fault fault.NoLoop all h = absurd h
  other_fault (fault.Segment place) all h = absurd h
  other_fault fault.Memory all h = tt

-- ---- the function `loop`

module _ (m : Syntax Ops) (types : List FuncType) (kinds : List ℕ) (exports : List Export) (t : types ≡ m.types) (k : kinds ≡ (module_context m).funcs) (x : exports ≡ m.exports) where
  pub no_loop_by : ((place func : ℕ) (entry : Export) → slice_get exports place ≡ Some entry → IsLoop types kinds entry func → ⊥) → (func : ℕ) → HasLoop m func → ⊥
  no_loop_by none func h = none h.place func h.entry (ap (λ z. slice_get z h.place) x ∙ h.stands)
      (h.name, h.kind, (h.type, (h.typed.0, ap (λ z. slice_get z func) k ∙ h.typed.1, ap (λ z. slice_get z h.typed.0) t ∙ h.typed.2), h.params, h.result))

  pub has_loop_by : (func : ℕ) → (place : ℕ) × (entry : Export) × (slice_get exports place ≡ Some entry) × IsLoop types kinds entry func → HasLoop m func
  has_loop_by func h = record {
    place = h.0;
    entry = h.1;
    type = h.3.2.0;
    stands = ap (λ z. slice_get z h.0) (sym x) ∙ h.2;
    name = h.3.0;
    kind = h.3.1;
    typed = (h.3.2.1.0, ap (λ z. slice_get z func) (sym k) ∙ h.3.2.1.1, ap (λ z. slice_get z h.3.2.1.0) (sym t) ∙ h.3.2.1.2);
    params = h.3.2.2;
    result = h.3.2.3;
  }

-- ---- the whole

module _ (m : Syntax Ops) (sigs : List HostSig) (first own functions : List Entry) (are_imported : AreImported sigs m.types m.imports first) (are_own : AreOwn m own) (joined : functions ≡ first ++ own) where
  pub kinds_hold : All (IsOfKind sigs m.types) m.imports
  kinds_hold = all_of_kind sigs m.types m.imports first are_imported.count are_imported.imported

  pub linked_by : (main : ℕ) → HasLoop m main → All Fits (spans m) → IsLinked sigs m (link_of m functions main)
  linked_by main has fits =
      let made : IsLinked sigs m (link_of m (first ++ own) main) = record {
        same = refl;
        imports = kinds_hold;
        main = has;
        segments = fits;
        program = is_program sigs m first own are_imported are_own;
      } in
      subst (λ (z : List Entry). IsLinked sigs m (link_of m z main)) (sym joined) made

  pub kept_by : (main most : ℕ) (classes calls : List ℕ) → HasLoop m main → All Fits (spans m) → IsValid m → IsWithin m → IsCounted m → AreBusy sigs → AreClasses m.types classes → AreNamed sigs m.imports calls → HaveMost sigs calls most
      → IsKept m functions classes most main
  kept_by main most classes calls has fits valid within counted busy are_classes named at_most = record {
    sigs = sigs;
    busy = busy;
    linked = linked_by main has fits;
    within = within;
    counted = counted;
    entries = subst (λ (z : List Entry). All (IsEntryOf m) z) (sym joined) (are_entries sigs m first own are_imported are_own);
    classes = are_classes;
    most = subst (λ (z : List Entry). IsMost (program_of m z) most) (sym joined) (is_most sigs m first own are_imported are_own valid kinds_hold calls named most at_most);
  }

pub joined_kinds : (m : Syntax Ops) (imports : List Import) (first own functions now : List Entry) → imports ≡ m.imports → now ≡ functions → functions ≡ first ++ own → map kind_of first ≡ imported_funcs imports → map kind_of own ≡ m.funcs → map kind_of now ≡ (module_context m).funcs
joined_kinds m imports first own functions now i n j e f = ap (map kind_of) (n ∙ j) ∙ kinds_are m first own (e ∙ ap imported_funcs i) f

-- ---- a module that links

pub linkable_memory : (sigs : List HostSig) (m : Syntax Ops) (e : LinkFault) → IsLinkable sigs m → IsFault sigs m e → e ≡ fault.Memory
linkable_memory sigs m (fault.UnknownImport place) h f =
    let k = all_at (IsOfKind sigs m.types) m.imports place f.entry h.imports f.stands in
    absurd (f.refused (k.number, k.sig, k.named))
linkable_memory sigs m (fault.ImportKind place) h f = absurd (f.1.refused (all_at (IsOfKind sigs m.types) m.imports place f.1.entry h.imports f.1.stands))
linkable_memory sigs m fault.NoLoop h f = absurd (f.1 h.main h.loop)
linkable_memory sigs m (fault.Segment place) h f = absurd (f.3.refused (all_at Fits (spans m) place f.3.entry h.segments f.3.stands))
linkable_memory sigs m fault.Memory h f = refl
