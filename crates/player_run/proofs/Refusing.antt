-- Bytes that are refused are refused for one reason, unless memory is wanted.
use Rattle.std.proofs.Common.{◌≡◌, ◌≢◌, ℕ, ◌<◌, inl, inr, List, [], ◌∷◌, get_or, refl, sym, ap, subst, ◌∙◌, arith, All}
use Rattle.std.proofs.lemmas.Bool.{cases_lt}
use Rattle.wasm_values.specs.Syntax.{Ops}
use Rattle.wasm_module.specs.Sections.{Syntax, Spells}
use Rattle.wasm_module.specs.Limits.{IsTooLarge, WithinBytes}
use Rattle.wasm_values.specs.declared.host_sig.HostSig.{HostSig}
use Rattle.wasm_module.specs.declared.module.Limit.{Limit}
use Rattle.wasm_module.specs.declared.module.Limit.TheVariants as limits
use Rattle.wasm_module.proofs.OnceModule.{module_once}
use Rattle.wasm_validate.specs.Floats.{HasNoFloat}
use Rattle.wasm_validate.specs.Modules.{IsValid}
use Rattle.wasm_link.specs.Linking.{IsFault, IsKnown, IsOfKind}
use Rattle.wasm_link.specs.declared.fault.LinkFault.{LinkFault}
use Rattle.wasm_link.specs.declared.fault.LinkFault.TheVariants as fault
use Rattle.intent_book.specs.Refusals.{refusal_number}
use Rattle.intent_book.specs.declared.refusal.Refusal.{Refusal}
use Rattle.intent_book.specs.declared.refusal.Refusal.TheVariants as refusals
use Rattle.host_calls.specs.Calls.{all_calls}
use Rattle.player_run.specs.Admission.{IsRefused, IsUnlinked, SpellsWithin}
use Rattle.player_run.proofs.Judged.{large_or_within, no_first}
use Rattle.player_run.proofs.Signatures.{all_known, all_known_there, all_of_kind}

-- the reasons in whose place all imports are calls, and are of the calls' kinds
abbrev KnowsAll : LinkFault → Type 0
KnowsAll why = (sigs : List HostSig) (m : Syntax Ops) → IsFault sigs m why → All (IsKnown sigs) m.imports

abbrev HasKinds : LinkFault → Type 0
HasKinds why = (sigs : List HostSig) (m : Syntax Ops) → IsFault sigs m why → All (IsOfKind sigs m.types) m.imports

-- ---- two reasons of the same bytes

module _ (bytes : List ℕ) where
  large_or_none : (limit : Limit) → IsTooLarge bytes limit → WithinBytes bytes → ((m : Syntax Ops) → Spells bytes m → ⊥) → ⊥
  large_or_none limits.Bytes t within none = t within
  large_or_none limits.Functions t within none = none t.1 t.2
  large_or_none limits.Nesting t within none = none t.1 t.2
  large_or_none limits.Locals t within none = none t.1 t.2
  large_or_none limits.Pages t within none = none t.1 t.2
  large_or_none limits.TableEntries t within none = none t.1 t.2

  float_or_none : (m : Syntax Ops) → SpellsWithin bytes m → (HasNoFloat m → ⊥) → (other : Syntax Ops) → SpellsWithin bytes other → HasNoFloat other → ⊥
  float_or_none m s float other t none = float (subst HasNoFloat (module_once bytes other m t.0 s.0) none)

  invalid_or_valid : (m : Syntax Ops) → SpellsWithin bytes m → (IsValid m → ⊥) → (other : Syntax Ops) → SpellsWithin bytes other → IsValid other → ⊥
  invalid_or_valid m s invalid other t valid = invalid (subst IsValid (module_once bytes other m t.0 s.0) valid)

  unknown_or_known : (place : ℕ) (why : LinkFault) → KnowsAll why → IsUnlinked bytes (fault.UnknownImport place) → IsUnlinked bytes why → ⊥
  unknown_or_known place why knows (m, s, sigs, calls, f) (n, t, others, also, g) =
      let same = module_once bytes n m t.0.0 s.0.0 in
      no_first (IsKnown sigs) m.imports place (all_known_there all_calls others sigs also calls m.imports (knows others m (subst (λ (z : Syntax Ops). IsFault others z why) same g))) f

  kind_or_kinds : (place : ℕ) (why : LinkFault) → HasKinds why → IsUnlinked bytes (fault.ImportKind place) → IsUnlinked bytes why → ⊥
  kind_or_kinds place why has (m, s, sigs, calls, f) (n, t, others, also, g) =
      let same = module_once bytes n m t.0.0 s.0.0 in
      no_first (IsOfKind sigs m.types) m.imports place (all_of_kind all_calls others sigs also calls m.types m.imports (has others m (subst (λ (z : Syntax Ops). IsFault others z why) same g))) f.1

  no_loop_or_loop : (place : ℕ) → IsUnlinked bytes fault.NoLoop → IsUnlinked bytes (fault.Segment place) → ⊥
  no_loop_or_loop place (m, s, sigs, calls, f) (n, t, others, also, g) =
      let there = subst (λ (z : Syntax Ops). IsFault others z (fault.Segment place)) (module_once bytes n m t.0.0 s.0.0) g in
      f.1 there.1 there.2

  -- Of two reasons the earlier one rules out the later.
  apart : (one other : Refusal) → refusal_number one < refusal_number other → other ≢ refusals.Memory → IsRefused bytes one → IsRefused bytes other → ⊥
  apart refusals.UnknownPlayer _ less memory a b = a
  apart refusals.WrongToken _ less memory a b = a
  apart refusals.TooLarge refusals.Malformed less memory a b = large_or_none a.0 a.1 b.0 b.1
  apart refusals.TooLarge refusals.FloatRefused less memory a b = large_or_within bytes a.0 a.1 b.0 b.1
  apart refusals.TooLarge refusals.Invalid less memory a b = large_or_within bytes a.0 a.1 b.0 b.1
  apart refusals.TooLarge refusals.UnknownImport less memory a b = large_or_within bytes a.0 a.1 b.1.0 b.1.1.0
  apart refusals.TooLarge refusals.ImportKind less memory a b = large_or_within bytes a.0 a.1 b.1.0 b.1.1.0
  apart refusals.TooLarge refusals.NoLoop less memory a b = large_or_within bytes a.0 a.1 b.0 b.1.0
  apart refusals.TooLarge refusals.Segment less memory a b = large_or_within bytes a.0 a.1 b.1.0 b.1.1.0
  apart refusals.Malformed refusals.FloatRefused less memory a b = a.1 b.0 b.1.0
  apart refusals.Malformed refusals.Invalid less memory a b = a.1 b.0 b.1.0
  apart refusals.Malformed refusals.UnknownImport less memory a b = a.1 b.1.0 b.1.1.0.0
  apart refusals.Malformed refusals.ImportKind less memory a b = a.1 b.1.0 b.1.1.0.0
  apart refusals.Malformed refusals.NoLoop less memory a b = a.1 b.0 b.1.0.0
  apart refusals.Malformed refusals.Segment less memory a b = a.1 b.1.0 b.1.1.0.0
  apart refusals.FloatRefused refusals.Invalid less memory a b = float_or_none a.0 a.1 a.2 b.0 b.1 b.2
  apart refusals.FloatRefused refusals.UnknownImport less memory a b = float_or_none a.0 a.1 a.2 b.1.0 b.1.1.0 b.1.1.1
  apart refusals.FloatRefused refusals.ImportKind less memory a b = float_or_none a.0 a.1 a.2 b.1.0 b.1.1.0 b.1.1.1
  apart refusals.FloatRefused refusals.NoLoop less memory a b = float_or_none a.0 a.1 a.2 b.0 b.1.0 b.1.1
  apart refusals.FloatRefused refusals.Segment less memory a b = float_or_none a.0 a.1 a.2 b.1.0 b.1.1.0 b.1.1.1
  apart refusals.Invalid refusals.UnknownImport less memory a b = invalid_or_valid a.0 a.1 a.3 b.1.0 b.1.1.0 b.1.1.2
  apart refusals.Invalid refusals.ImportKind less memory a b = invalid_or_valid a.0 a.1 a.3 b.1.0 b.1.1.0 b.1.1.2
  apart refusals.Invalid refusals.NoLoop less memory a b = invalid_or_valid a.0 a.1 a.3 b.0 b.1.0 b.1.2
  apart refusals.Invalid refusals.Segment less memory a b = invalid_or_valid a.0 a.1 a.3 b.1.0 b.1.1.0 b.1.1.2
  apart refusals.UnknownImport refusals.ImportKind less memory a b = unknown_or_known a.0 (fault.ImportKind b.0) (λ sigs m f. f.0) a.1 b.1
  apart refusals.UnknownImport refusals.NoLoop less memory a b = unknown_or_known a.0 fault.NoLoop (λ sigs m f. all_known sigs m.types m.imports f.0) a.1 b
  apart refusals.UnknownImport refusals.Segment less memory a b = unknown_or_known a.0 (fault.Segment b.0) (λ sigs m f. all_known sigs m.types m.imports f.0) a.1 b.1
  apart refusals.ImportKind refusals.NoLoop less memory a b = kind_or_kinds a.0 fault.NoLoop (λ sigs m f. f.0) a.1 b
  apart refusals.ImportKind refusals.Segment less memory a b = kind_or_kinds a.0 (fault.Segment b.0) (λ sigs m f. f.0) a.1 b.1
  apart refusals.NoLoop refusals.Segment less memory a b = no_loop_or_loop b.0 a b.1
  apart _ refusals.Memory less memory a b = memory refl
  apart _ _ less memory a b = omega (arith, less)

-- ---- the reason

-- all reasons, each at its number
abbrev reasons : List Refusal
reasons =
    refusals.Memory ∷ refusals.UnknownPlayer ∷ refusals.WrongToken ∷ refusals.TooLarge ∷ refusals.Malformed ∷ refusals.FloatRefused ∷ refusals.Invalid ∷ refusals.UnknownImport
    ∷ refusals.ImportKind ∷ refusals.NoLoop ∷ refusals.Segment ∷ []

abbrev reason_of : ℕ → Refusal
reason_of number = get_or reasons number refusals.Memory

reason_back : (r : Refusal) → reason_of (refusal_number r) ≡ r
reason_back refusals.UnknownPlayer = refl
reason_back refusals.WrongToken = refl
reason_back refusals.TooLarge = refl
reason_back refusals.Malformed = refl
reason_back refusals.FloatRefused = refl
reason_back refusals.Invalid = refl
reason_back refusals.UnknownImport = refl
reason_back refusals.ImportKind = refl
reason_back refusals.NoLoop = refl
reason_back refusals.Segment = refl
reason_back refusals.Memory = refl

-- want of memory is no refusal
told : (bytes : List ℕ) (why : Refusal) → IsRefused bytes why → why ≢ refusals.Memory
told bytes why is same = subst (IsRefused bytes) same is

pub refused_once : (bytes : List ℕ) (one other : Refusal) → IsRefused bytes one → IsRefused bytes other → one ≡ other
refused_once bytes one other a b =
    elim (cases_lt (refusal_number one) (refusal_number other)) [
      | inl less ↦ absurd (apart bytes one other less (told bytes other b) a b)
      | inr more ↦ elim (cases_lt (refusal_number other) (refusal_number one)) [
        | inl less ↦ absurd (apart bytes other one less (told bytes one a) b a)
        | inr most ↦
            let same : refusal_number one ≡ refusal_number other = omega (arith, more, most) in
            sym (reason_back one) ∙ ap reason_of same ∙ reason_back other
      ]
    ]
