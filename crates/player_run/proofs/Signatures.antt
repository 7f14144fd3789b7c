-- Two lists of signatures of the same calls.
use Rattle.std.proofs.Common.{◌≡◌, ℕ, suc, zero, List, length, [], subst, All, ◌∷◌, refl, ap, sym, ◌∙◌, Option, Some, None, slice_get}
use Rattle.wasm_values.specs.declared.host_sig.HostSig.{HostSig}
use Rattle.wasm_values.specs.declared.imports.Import.{Import}
use Rattle.wasm_values.specs.declared.types.FuncType.{FuncType}
use Rattle.wasm_link.specs.Linking.{Names, IsKnown, IsOfKind}
use Rattle.wasm_link.proofs.Each.{all_at, all_from, not_found}
use Rattle.host_calls.specs.declared.call.Call.{Call}
use Rattle.host_calls.specs.Calls.{IsSignature, AreSignatures}

-- The two are a call of one module, name and type.
pub record Agrees (one other : HostSig) : Type 0 where
  pub host : one.module.now ≡ other.module.now
  pub name : one.name.now ≡ other.name.now
  pub params : one.params.now ≡ other.params.now
  pub result_is : one.result ≡ other.result

agree : (one other : HostSig) (of : Call) → IsSignature one of → IsSignature other of → Agrees one other
agree one other of a b = record { host = a.host ∙ sym b.host; name = a.name ∙ sym b.name; params = a.params ∙ sym b.params; result_is = a.result_is ∙ sym b.result_is }

inside : {A : Type 0} {x y : A} → ◌≡◌ {A = Option A} (Some x) (Some y) → x ≡ y
inside e = cc

pub agree_at : (calls : List Call) (sigs others : List HostSig) → AreSignatures sigs calls → AreSignatures others calls
    → (number : ℕ) (sig : HostSig) → slice_get sigs number ≡ Some sig → (other : HostSig) × (slice_get others number ≡ Some other) × Agrees sig other
agree_at [] [] [] a b number sig e = absurd cc
agree_at [] [] (other ∷ others) a b number sig e = absurd b
agree_at [] (one ∷ sigs) others a b number sig e = absurd a
agree_at (of ∷ calls) [] others a b number sig e = absurd a
agree_at (of ∷ calls) (one ∷ sigs) [] a b number sig e = absurd b
agree_at (of ∷ calls) (one ∷ sigs) (other ∷ others) a b zero sig e =
    let same = agree one other of a.0 b.0 in
    let is : one ≡ sig = inside e in
    (other, refl, record { host = ap (λ (z : HostSig). z.module.now) (sym is) ∙ same.host; name = ap (λ (z : HostSig). z.name.now) (sym is) ∙ same.name; params = ap (λ (z : HostSig). z.params.now) (sym is) ∙ same.params; result_is = ap (λ (z : HostSig). z.result) (sym is) ∙ same.result_is })
agree_at (of ∷ calls) (one ∷ sigs) (other ∷ others) a b (suc number) sig e = agree_at calls sigs others a.1 b.1 number sig e

module _ (calls : List Call) (sigs others : List HostSig) (a : AreSignatures sigs calls) (b : AreSignatures others calls) where
  -- An import names the same call in both.
  pub names_there : (entry : Import) (number : ℕ) (sig : HostSig) → Names sigs entry number sig → (other : HostSig) × Names others entry number other × Agrees sig other
  names_there entry number sig n =
      let there = agree_at calls sigs others a b number sig n.stands in (
        there.0,
        record {
          stands = there.1;
          host = n.host ∙ there.2.host;
          name = n.name ∙ there.2.name;
          first = λ earlier before less e g f.
              let here = agree_at calls others sigs b a earlier before e in
              n.first earlier here.0 less here.1 (g ∙ here.2.host) (f ∙ here.2.name);
        },
        there.2,
      )

  pub known_there : (entry : Import) → IsKnown sigs entry → IsKnown others entry
  known_there entry (number, sig, n) = let there = names_there entry number sig n in (number, there.0, there.1)

  pub kind_there : (types : List FuncType) (entry : Import) → IsOfKind sigs types entry → IsOfKind others types entry
  kind_there types entry k =
      let there = names_there entry k.number k.sig k.named in
      record {
        number = k.number;
        sig = there.0;
        index = k.index;
        type = k.type;
        named = there.1;
        func = k.func;
        declared = k.declared;
        params = k.params ∙ there.2.params;
        result = k.result ∙ there.2.result_is;
      }

  pub all_known_there : (imports : List Import) → All (IsKnown sigs) imports → All (IsKnown others) imports
  all_known_there imports h = all_from (IsKnown others) imports (λ i entry e. known_there entry (all_at (IsKnown sigs) imports i entry h e))

  pub all_of_kind : (types : List FuncType) (imports : List Import) → All (IsOfKind sigs types) imports → All (IsOfKind others types) imports
  all_of_kind types imports h = all_from (IsOfKind others types) imports (λ i entry e. kind_there types entry (all_at (IsOfKind sigs types) imports i entry h e))

-- What is of a call's kind is a call.
pub all_known : (sigs : List HostSig) (types : List FuncType) (imports : List Import) → All (IsOfKind sigs types) imports → All (IsKnown sigs) imports
all_known sigs types imports h = all_from (IsKnown sigs) imports (λ i entry e.
    let k = all_at (IsOfKind sigs types) imports i entry h e in
    (k.number, k.sig, k.named))

-- ---- what linking asks of the signatures

pub as_many : (calls : List Call) (sigs : List HostSig) → AreSignatures sigs calls → length sigs ≡ length calls
as_many [] [] a = refl
as_many [] (sig ∷ sigs) a = absurd a
as_many (of ∷ calls) [] a = absurd a
as_many (of ∷ calls) (sig ∷ sigs) a = ap suc (as_many calls sigs a.1)

call_of : (calls : List Call) (sigs : List HostSig) → AreSignatures sigs calls → (number : ℕ) (sig : HostSig) → slice_get sigs number ≡ Some sig → (of : Call) × IsSignature sig of
call_of [] [] a number sig e = absurd cc
call_of [] (one ∷ sigs) a number sig e = absurd a
call_of (of ∷ calls) [] a number sig e = absurd a
call_of (of ∷ calls) (one ∷ sigs) a zero sig e = (of, subst (λ (z : HostSig). IsSignature z of) (inside e) a.0)
call_of (of ∷ calls) (one ∷ sigs) a (suc number) sig e = call_of calls sigs a.1 number sig e

-- Each gives a result.
pub none_plain : (calls : List Call) (sigs : List HostSig) → AreSignatures sigs calls → All (λ sig. sig.params.now ≡ [] → sig.result ≡ None → ⊥) sigs
none_plain calls sigs a = all_from (λ (sig : HostSig). sig.params.now ≡ [] → sig.result ≡ None → ⊥) sigs (λ i sig e.
    let found = call_of calls sigs a i sig e in
    λ params none. not_found sig.result found.1.result_is none)
