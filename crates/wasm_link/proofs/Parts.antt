-- The entries of functions, and the program that they stand for.
use Rattle.std.proofs.Common.{◌≡◌, ℕ, ◌+◌, ◌-◌, ◌<◌, ◌≤◌, ◌⊎◌, inl, inr, List, ◌++◌, length, map, refl, ap, sym, ◌∙◌, subst, arith, length-append, Some, slice_get, All}
use Rattle.std.specs.Option.{unwrap_or}
use Rattle.std.proofs.lemmas.List.{length-map, map-append}
use Rattle.std.proofs.lemmas.Option.{slice_get_within}
use Rattle.wasm_values.specs.Syntax.{Ops}
use Rattle.wasm_module.specs.Entries.{Function}
use Rattle.wasm_module.specs.Sections.{Syntax}
use Rattle.wasm_values.specs.declared.exports.Export.{Export}
use Rattle.wasm_values.specs.declared.host_sig.HostSig.{HostSig}
use Rattle.wasm_values.specs.declared.imports.Import.{Import}
use Rattle.wasm_values.specs.declared.imports.ImportDesc.TheVariants as import
use Rattle.wasm_values.specs.declared.types.FuncType.{FuncType}
use Rattle.wasm_typing.specs.Context.{module_context, locals_of}
use Rattle.wasm_validate.specs.Modules.{IsValid}
use Rattle.wasm_steps.specs.Program.{imported, defined, Program}
use Rattle.wasm_steps.specs.Program as steps
use Rattle.wasm_link.specs.Kept.{TakesAtMost, IsMost}
use Rattle.wasm_link.specs.Linking.{Names, IsOfKind, IsProgram, HasLoop}
use Rattle.wasm_link.specs.Made.{AreNamed, AreImported, AreOwn, own_entry, function_of, program_of, IsEntryOf, kind_of, IsLoop, HaveMost, no_type, body_in}
use Rattle.wasm_link.specs.declared.entries.Entry.{Entry}
use Rattle.wasm_link.specs.declared.entries.Entry.TheVariants as code
use Rattle.wasm_link.proofs.Each.{same_found, before_or, found, all_from, all_at, get_left, get_right, get_map}
use Rattle.wasm_link.proofs.Names.{one_number, one_sig, IsMet}
use Rattle.wasm_link.proofs.Programs.{FromHost, FromModule, origin, imported_funcs}

one_kind : (a b : ℕ) → import.Func a ≡ import.Func b → a ≡ b
one_kind a b e = cc

-- what an entry stands for
imported_is : (m : Syntax Ops) (kind call : ℕ) (type : FuncType) → slice_get m.types kind ≡ Some type → function_of m (code.Imported kind call) ≡ imported type call
imported_is m kind call type e = ap (λ z. imported (unwrap_or z no_type) call) e

defined_is : (m : Syntax Ops) (place index : ℕ) (type : FuncType) (function : Function Ops) → slice_get m.types index ≡ Some type → slice_get m.codes place ≡ Some function
    → function_of m (own_entry place index type function) ≡ defined type (length (locals_of function.0)) function.1
defined_is m place index type function e f =
    ap (λ z. defined (unwrap_or z no_type) (length (locals_of function.0)) (body_in (slice_get m.codes place))) e ∙ ap (λ z. defined type (length (locals_of function.0)) (body_in z)) f

module _ (sigs : List HostSig) (m : Syntax Ops) (first own : List Entry) (are_imported : AreImported sigs m.types m.imports first) (are_own : AreOwn m own) where
  at_import : (i number index : ℕ) (entry : Import) (sig : HostSig) (type : FuncType) → slice_get m.imports i ≡ Some entry → Names sigs entry number sig → entry.desc ≡ import.Func index → slice_get m.types index ≡ Some type
      → slice_get (map (function_of m) (first ++ own)) i ≡ Some (imported type number)
  at_import i number index entry sig type e n k t =
      let below : i < length first = let w = slice_get_within m.imports i entry e in omega (arith, w, are_imported.count) in
      let f = found first i below in
      let h = are_imported.imported.each i f.0 f.1 in
      let same : h.0 ≡ entry = same_found (slice_get m.imports i) h.1 e in
      let names : Names sigs entry h.2 h.3 = subst (λ (z : Import). Names sigs z h.2 h.3) same h.4 in
      let call : h.2 ≡ number = one_number h.2 number h.3 sig names n in
      let kind : h.5 ≡ index = one_kind h.5 index (sym h.6.func ∙ ap (λ (z : Import). z.desc) same ∙ k) in
      let made : f.0 ≡ code.Imported index number = h.7 ∙ ap (λ z. code.Imported z h.2) kind ∙ ap (λ z. code.Imported index z) call in
      get_map (function_of m) (first ++ own) i f.0 (get_left first own i below ∙ f.1) ∙ ap Some (ap (function_of m) made ∙ imported_is m index number type t)

  at_own : (i index : ℕ) (type : FuncType) (function : Function Ops) → slice_get m.funcs i ≡ Some index → slice_get m.types index ≡ Some type → slice_get m.codes i ≡ Some function
      → slice_get (map (function_of m) (first ++ own)) (length m.imports + i) ≡ Some (defined type (length (locals_of function.0)) function.1)
  at_own i index type function e t g =
      let below : i < length own = let w = slice_get_within m.codes i function g in omega (arith, w, are_own.count) in
      let f = found own i below in
      let h = are_own.own.each i f.0 f.1 in
      let kind : h.0 ≡ index = same_found (slice_get m.funcs i) h.3 e in
      let one : h.1 ≡ type = same_found (slice_get m.types index) (ap (slice_get m.types) (sym kind) ∙ h.4) t in
      let body : h.2 ≡ function = same_found (slice_get m.codes i) h.5 g in
      let made : f.0 ≡ own_entry i index type function =
      h.6 ∙ ap (λ z. own_entry i z h.1 h.2) kind ∙ ap (λ z. own_entry i index z h.2) one ∙ ap (λ z. own_entry i index type z) body in
      let there : length m.imports + i ≡ length first + i = omega (arith, are_imported.count) in
      get_map (function_of m) (first ++ own) (length m.imports + i) f.0 (get_right first own (length m.imports + i) i there ∙ f.1) ∙ ap Some (ap (function_of m) made ∙ defined_is m i index type function t g)

  pub is_program : IsProgram sigs m (program_of m (first ++ own))
  is_program = record {
    types = refl;
    count =
        let all = length-append first own in
        let mapped = length-map (first ++ own) (function_of m) in
        omega (arith, all, mapped, are_imported.count, are_own.count);
    imports = at_import;
    own = at_own;
  }

  entry_first : (i : ℕ) (e : Entry) → slice_get first i ≡ Some e → IsEntryOf m e
  entry_first i e is =
      let h = are_imported.imported.each i e is in
      subst (λ (z : Entry). IsEntryOf m z) (sym h.7) (h.6.type, h.6.declared)

  entry_own : (i : ℕ) (e : Entry) → slice_get own i ≡ Some e → IsEntryOf m e
  entry_own i e is =
      let h = are_own.own.each i e is in
      subst (λ (z : Entry). IsEntryOf m z) (sym h.6) (h.1, h.2, h.4, h.5, refl, refl)

  entry_at : (i : ℕ) (e : Entry) → slice_get (first ++ own) i ≡ Some e → (i < length first) ⊎ (length first ≤ i) → IsEntryOf m e
  entry_at i e is (inl below) = entry_first i e (sym (get_left first own i below) ∙ is)
  entry_at i e is (inr past) = entry_own (i - length first) e (sym (get_right first own i (i - length first) (omega (arith, past))) ∙ is)

  pub are_entries : All (IsEntryOf m) (first ++ own)
  are_entries = all_from (IsEntryOf m) (first ++ own) (λ i e is. entry_at i e is (before_or i (length first)))

  module _ (valid : IsValid m) (kinds : All (IsOfKind sigs m.types) m.imports) (numbers : List ℕ) (named : AreNamed sigs m.imports numbers) (most : ℕ) (have : HaveMost sigs numbers most) where
    takes_from : (func call : ℕ) (type : FuncType) (function : steps.Function) → function ≡ imported type call → FromHost sigs m func function ⊎ FromModule m func function → length type.params ≤ most
    takes_from func call type function e (inl h) =
        let same : imported h.type h.number ≡ imported type call = sym h.is ∙ e in
        let one : h.type ≡ type = cc in
        let below : func < length numbers = let w = slice_get_within m.imports func h.entry h.stands in omega (arith, w, named.count) in
        let f = found numbers func below in
        let k = named.named.each func f.0 f.1 in
        let entry : k.0 ≡ h.entry = same_found (slice_get m.imports func) k.1 h.stands in
        let names : Names sigs h.entry f.0 k.2.0 = subst (λ (z : Import). Names sigs z f.0 k.2.0) entry k.2.1 in
        let sig : k.2.0 ≡ h.sig = one_sig f.0 h.number k.2.0 h.sig names h.named in
        let few : length k.2.0.params.now ≤ most = have.bound.each func f.0 f.1 k.2.0 names.stands in
        let params : type.params ≡ k.2.0.params.now = ap (λ (z : FuncType). z.params) (sym one) ∙ h.params ∙ ap (λ (z : HostSig). z.params.now) (sym sig) in
        let size = ap length params in
        omega (arith, few, size)
    takes_from func call type function e (inr h) = let never : defined h.type (length (locals_of h.code.0)) h.code.1 ≡ imported type call = sym h.is ∙ e in absurd cc

    takes_at_most : TakesAtMost (program_of m (first ++ own)) most
    takes_at_most = λ func call type e. takes_from func call type (imported type call) refl (origin sigs m (program_of m (first ++ own)) valid kinds is_program func (imported type call) e)

    -- a function has so many
    taken_by : IsMet sigs numbers most → (most ≡ 0) ⊎ ((func call : ℕ) × (type : FuncType) × (slice_get (program_of m (first ++ own)).functions func ≡ Some (imported type call)) × (length type.params ≡ most))
    taken_by (inl none) = inl none
    taken_by (inr (place, number, sig, e, f, is)) =
        let n = named.named.each place number e in
        let k = all_at (IsOfKind sigs m.types) m.imports place n.0 kinds n.1 in
        let call : k.number ≡ number = one_number k.number number k.sig n.2.0 k.named n.2.1 in
        let one : k.sig ≡ sig = same_found (slice_get sigs number) (subst (λ (z : ℕ). slice_get sigs z ≡ Some k.sig) call k.named.stands) f in
        let params : length k.type.params ≡ length sig.params.now = ap length k.params ∙ ap (λ (z : HostSig). length z.params.now) one in
        inr (place, k.number, k.type, at_import place k.number k.index n.0 k.sig k.type n.1 k.named k.func k.declared, params ∙ is)

    pub is_most : IsMost (program_of m (first ++ own)) most
    is_most = record { bound = takes_at_most; met = taken_by have.met }

-- ---- the function `loop`

pub kinds_are : (m : Syntax Ops) (first own : List Entry) → map kind_of first ≡ imported_funcs m.imports → map kind_of own ≡ m.funcs → map kind_of (first ++ own) ≡ (module_context m).funcs
kinds_are m first own e f = map-append kind_of first own ∙ ap (λ z. z ++ map kind_of own) e ∙ ap (λ z. imported_funcs m.imports ++ z) f

pub has_loop : (m : Syntax Ops) (func place : ℕ) (entry : Export) → slice_get m.exports place ≡ Some entry → IsLoop m.types (module_context m).funcs entry func → HasLoop m func
has_loop m func place entry e h = record {
  place = place;
  entry = entry;
  type = h.2.0;
  stands = e;
  name = h.0;
  kind = h.1;
  typed = h.2.1;
  params = h.2.2;
  result = h.2.3;
}

pub no_loop : (m : Syntax Ops) → ((place func : ℕ) (entry : Export) → slice_get m.exports place ≡ Some entry → IsLoop m.types (module_context m).funcs entry func → ⊥) → (func : ℕ) → HasLoop m func → ⊥
no_loop m none func h = none h.place func h.entry h.stands (h.name, h.kind, (h.type, h.typed, h.params, h.result))
