-- A module links to the calls in one way.
use Rattle.std.proofs.Common.{◌≡◌, ℕ, ◌+◌, ◌-◌, ◌<◌, inl, inr, List, length, ap, sym, ◌∙◌, subst, arith, Some, slice_get, All}
use Rattle.std.proofs.lemmas.Option.{slice_get_past}
use Rattle.wasm_values.specs.Syntax.{Ops}
use Rattle.wasm_module.specs.Sections.{Syntax}
use Rattle.wasm_values.specs.declared.exports.ExportDesc.{ExportDesc}
use Rattle.wasm_values.specs.declared.exports.ExportDesc.TheVariants as export
use Rattle.wasm_values.specs.declared.host_sig.HostSig.{HostSig}
use Rattle.wasm_typing.specs.Context.{imported_func}
use Rattle.wasm_validate.specs.Modules.{IsValid}
use Rattle.std.specs.List.{filter_map}
use Rattle.wasm_steps.specs.Program.{Program}
use Rattle.wasm_link.specs.Linking.{HasLoop, IsLinked, IsOfKind, IsProgram, Link}
use Rattle.wasm_link.proofs.Each.{same_found, before_or, found, all_at, all_right}
use Rattle.world_rules.proofs.Same.{same_lists}
use Rattle.host_calls.specs.declared.call.Call.{Call}
use Rattle.host_calls.specs.Calls.{AreSignatures}
use Rattle.player_run.proofs.Signatures.{names_there}

exported : {x y : ℕ} {desc : ExportDesc} → desc ≡ export.Func x → desc ≡ export.Func y → x ≡ y
exported e f = cc

-- There is one function `loop`.
loop_once : (m : Syntax Ops) (one other : ℕ) → IsValid m → HasLoop m one → HasLoop m other → one ≡ other
loop_once m one other valid a b =
    let place : a.place ≡ b.place = valid.names a.place b.place a.entry b.entry a.stands b.stands (a.name ∙ sym b.name) in
    let entry : b.entry ≡ a.entry = same_found (slice_get m.exports b.place) b.stands (subst (λ (z : ℕ). slice_get m.exports z ≡ Some a.entry) place a.stands) in
    exported a.kind (ap (λ z. z.desc) (sym entry) ∙ b.kind)

-- The function of each place of a program.
module _ (m : Syntax Ops) (valid : IsValid m) (calls : List Call) (sigs others : List HostSig) (a : AreSignatures sigs calls) (b : AreSignatures others calls)
    (one other : Program) (p : IsProgram sigs m one) (q : IsProgram others m other) where
  imports_same : (i : ℕ) → All (IsOfKind sigs m.types) m.imports → i < length m.imports → slice_get one.functions i ≡ slice_get other.functions i
  imports_same i kinds below =
      let entry = found m.imports i below in
      let k = all_at (IsOfKind sigs m.types) m.imports i entry.0 kinds entry.1 in
      let there = names_there calls sigs others a b entry.0 k.number k.sig k.named in
      p.imports i k.number k.index entry.0 k.sig k.type entry.1 k.named k.func k.declared
      ∙ sym (q.imports i k.number k.index entry.0 there.0 k.type entry.1 there.1 k.func k.declared)

  own_same : (i : ℕ) → i < length m.codes → slice_get one.functions (length m.imports + i) ≡ slice_get other.functions (length m.imports + i)
  own_same i below =
      let function = found m.codes i below in
      let index = found m.funcs i (omega (arith, below, valid.counts)) in
      let within = all_at (λ (z : ℕ). z < length m.types) m.funcs i index.0
      (all_right (λ (z : ℕ). z < length m.types) (filter_map (λ entry. imported_func entry.desc) m.imports) m.funcs valid.funcs) index.1 in
      let type = found m.types index.0 within in
      p.own i index.0 type.0 function.0 index.1 type.1 function.1
      ∙ sym (q.own i index.0 type.0 function.0 index.1 type.1 function.1)

  functions_same : All (IsOfKind sigs m.types) m.imports → (i : ℕ) → slice_get one.functions i ≡ slice_get other.functions i
  functions_same kinds i = elim (before_or i (length m.imports)) [
    | inl below ↦ imports_same i kinds below
    | inr behind ↦ elim (before_or i (length m.imports + length m.codes)) [
      | inl below ↦
          let there : length m.imports + (i - length m.imports) ≡ i = omega (arith, behind) in
          subst (λ (z : ℕ). slice_get one.functions z ≡ slice_get other.functions z) there (own_same (i - length m.imports) (omega (arith, below, behind)))
      | inr past ↦
          slice_get_past one.functions i (omega (arith, past, p.count)) ∙ sym (slice_get_past other.functions i (omega (arith, past, q.count)))
    ]
  ]

  program_once : All (IsOfKind sigs m.types) m.imports → one ≡ other
  program_once kinds =
      let functions = same_lists one.functions other.functions (functions_same kinds) in
      let types : one.types ≡ other.types = p.types ∙ sym q.types in
      λ i. record { types = types i; functions = functions i }

pub link_once : (m : Syntax Ops) → IsValid m → (calls : List Call) (sigs others : List HostSig) → AreSignatures sigs calls → AreSignatures others calls
    → (one other : Link) → IsLinked sigs m one → IsLinked others m other → one ≡ other
link_once m valid calls sigs others a b one other s t =
    let whole : one.whole ≡ other.whole = s.same ∙ sym t.same in
    let program = program_once m valid calls sigs others a b one.program other.program s.program t.program s.imports in
    let main = loop_once m one.main other.main valid s.main t.main in
    λ i. record { whole = whole i; program = program i; main = main i }
