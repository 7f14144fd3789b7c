-- The calls that imports name, and their types.
use Rattle.std.proofs.Common.{◌≡◌, ℕ, ◌+◌, ◌<◌, ◌≤◌, ◌⊎◌, inl, inr, List, [], ◌∷◌, ◌++◌, length, get_or, take, map, option_to_list, max, Bool, true, false, refl, ap, sym, ◌∙◌, subst, arith, Some, slice_get, All}
use Rattle.std.proofs.lemmas.Option.{slice_get_within, slice_get-get_or, get_or_from_slice_get}
use Rattle.std.specs.List.{filter_map}
use Rattle.std.proofs.lemmas.List.{map_push}
use Rattle.wasm_typing.specs.Context.{imported_func}
use Rattle.wasm_typing.proofs.Imported.{filtered_more}
use Rattle.std.proofs.lemmas.Slice.Eq.{bytes_eq-Decides}
use Rattle.std.specs.Str.{bytes_eq}
use Rattle.wasm_values.specs.declared.host_sig.HostSig.{HostSig}
use Rattle.wasm_values.specs.declared.imports.Import.{Import}
use Rattle.wasm_values.specs.declared.imports.ImportDesc.TheVariants as import
use Rattle.wasm_values.specs.declared.types.FuncType.{FuncType}
use Rattle.wasm_link.specs.declared.entries.Entry.{Entry}
use Rattle.wasm_link.specs.declared.entries.Entry.TheVariants as code
use Rattle.wasm_typing.specs.inner.Stands.{Exactly}
use Rattle.wasm_link.specs.Linking.{Names, IsKnown, IsOfKind, FirstNot}
use Rattle.wasm_link.specs.Made.{HasNames, IsNamed, IsNamedAt, AreNamed, HasKind, EachAt, IsImportedAt, IsNumberOf, kind_of}
use Rattle.wasm_link.proofs.Each.{same_found, before_or, below_or, found, all_from, each_push}

-- an import names one call
pub one_number : {sigs : List HostSig} {entry : Import} (a b : ℕ) (one other : HostSig) → Names sigs entry a one → Names sigs entry b other → a ≡ b
one_number a b one other n k = elim (before_or a b) [
  | inl less ↦ absurd (k.first a one less n.stands n.host n.name)
  | inr more ↦ elim (before_or b a) [
    | inl less ↦ absurd (n.first b other less k.stands k.host k.name)
    | inr least ↦ omega (arith, more, least)
  ]
]

pub one_sig : {sigs : List HostSig} {entry : Import} (a b : ℕ) (one other : HostSig) → Names sigs entry a one → Names sigs entry b other → one ≡ other
one_sig {sigs} a b one other n k = same_found (slice_get sigs b) (subst (λ (z : ℕ). slice_get sigs z ≡ Some one) (one_number a b one other n k) n.stands) k.stands

-- each import is known
known_at : {sigs : List HostSig} {entry : Import} (number : ℕ) → IsNamed sigs entry number → IsKnown sigs entry
known_at number h = (number, h.0, h.1)

module _ (sigs : List HostSig) (imports : List Import) (numbers : List ℕ) (at : ℕ) (count : length numbers ≡ at) (named : EachAt (IsNamedAt sigs imports) numbers) where
  pub known_before : (place : ℕ) (other : Import) → place < at → slice_get imports place ≡ Some other → IsKnown sigs other
  known_before place other below e =
      let within : place < length numbers = omega (arith, below, count) in
      let f = found numbers place within in
      let h = named.each place f.0 f.1 in
      subst (λ (z : Import). IsKnown sigs z) (same_found (slice_get imports place) h.1 e) (known_at f.0 h.2)

  pub first_unknown : (x : Import) → slice_get imports at ≡ Some x → (IsKnown sigs x → ⊥) → FirstNot (IsKnown sigs) imports at
  first_unknown x is never = record { entry = x; stands = is; refused = never; before = λ place other below e. known_before place other below e }

pub all_known : (sigs : List HostSig) (imports : List Import) (numbers : List ℕ) → AreNamed sigs imports numbers → All (IsKnown sigs) imports
all_known sigs imports numbers h = all_from (IsKnown sigs) imports (λ i x e. known_before sigs imports numbers (length numbers) refl h.named i x (let w = slice_get_within imports i x e in omega (arith, w, h.count)) e)

-- ---- types

of_kind : (sigs : List HostSig) (types : List FuncType) (entry : Import) (number kind : ℕ) (sig : HostSig) → Names sigs entry number sig → HasKind types entry.desc sig kind → IsOfKind sigs types entry
of_kind sigs types entry number kind sig n k = record {
  number = number;
  sig = sig;
  index = kind;
  type = k.type;
  named = n;
  func = k.func;
  declared = k.declared;
  params = k.params;
  result = k.result;
}

module _ (sigs : List HostSig) (types : List FuncType) (imports : List Import) where
  pub kind_before : (functions : List Entry) (at : ℕ) → length functions ≡ at → EachAt (IsImportedAt sigs types imports) functions → (place : ℕ) (other : Import) → place < at → slice_get imports place ≡ Some other → IsOfKind sigs types other
  kind_before functions at count imported place other below e =
      let within : place < length functions = omega (arith, below, count) in
      let f = found functions place within in
      let h = imported.each place f.0 f.1 in
      subst (λ (z : Import). IsOfKind sigs types z) (same_found (slice_get imports place) h.1 e) (of_kind sigs types h.0 h.2 h.5 h.3 h.4 h.6)

  pub first_other : (functions : List Entry) (at number : ℕ) (x : Import) (sig : HostSig) → length functions ≡ at → EachAt (IsImportedAt sigs types imports) functions → slice_get imports at ≡ Some x
      → IsNamedAt sigs imports at number → slice_get sigs number ≡ Some sig → ((kind : ℕ) → HasKind types x.desc sig kind → ⊥) → FirstNot (IsOfKind sigs types) imports at
  first_other functions at number x sig count imported is named stands never = record {
    entry = x;
    stands = is;
    refused = λ k.
        let entry_is : named.0 ≡ x = same_found (slice_get imports at) named.1 is in
        let names : Names sigs x number named.2.0 = subst (λ (z : Import). Names sigs z number named.2.0) entry_is named.2.1 in
        let same : k.sig ≡ sig = one_sig k.number number k.sig named.2.0 k.named names ∙ same_found (slice_get sigs number) names.stands stands in
        let has : HasKind types x.desc k.sig k.index = record { type = k.type; func = k.func; declared = k.declared; params = k.params; result = k.result } in
        never k.index (subst (λ (z : HostSig). HasKind types x.desc z k.index) same has);
    before = λ place other below e. kind_before functions at count imported place other below e;
  }

pub all_of_kind : (sigs : List HostSig) (types : List FuncType) (imports : List Import) (functions : List Entry) → length functions ≡ length imports → EachAt (IsImportedAt sigs types imports) functions → All (IsOfKind sigs types) imports
all_of_kind sigs types imports functions count imported = all_from (IsOfKind sigs types) imports (λ i x e. kind_before sigs types imports functions (length functions) refl imported i x (let w = slice_get_within imports i x e in omega (arith, w, count)) e)

-- ---- one step of a search among the calls

pub text_is : (text seen bytes : List ℕ) (b : Bool) → seen ≡ text → b ≡ bytes_eq seen bytes → Exactly (bytes ≡ text) b
text_is text seen bytes true is e = sym ((bytes_eq-Decides seen bytes).0 (sym e)) ∙ is
text_is text seen bytes false is e = λ same. let t = (bytes_eq-Decides seen bytes).1 (is ∙ sym same) in absurd cc

pub exactly_true : {P : Type 0} (b : Bool) → Exactly P b → b ≡ true → P
exactly_true true h e = h
exactly_true false h e = absurd cc

pub exactly_false : {P : Type 0} (b : Bool) → Exactly P b → b ≡ false → P → ⊥
exactly_false false h e = h
exactly_false true h e = absurd cc

module _ (sigs : List HostSig) (entry : Import) (at : ℕ) (sig : HostSig) (is : slice_get sigs at ≡ Some sig)
    (before : (earlier : ℕ) (other : HostSig) → earlier < at → slice_get sigs earlier ≡ Some other → HasNames other entry → ⊥) where
  pub found_here : HasNames sig entry → IsNamed sigs entry at
  found_here h = (sig, record { stands = is; host = h.0; name = h.1; first = λ earlier other less e host name. before earlier other less e (host, name) })

  none_at : (HasNames sig entry → ⊥) → (earlier : ℕ) (other : HostSig) → (earlier < at) ⊎ (earlier ≡ at) → slice_get sigs earlier ≡ Some other → HasNames other entry → ⊥
  none_at never earlier other (inl less) e h = before earlier other less e h
  none_at never earlier other (inr there) e h =
      let one : other ≡ sig = same_found (slice_get sigs at) (subst (λ (z : ℕ). slice_get sigs z ≡ Some other) there e) is in
      never (subst (λ (z : HostSig). HasNames z entry) one h)

  pub none_more : (HasNames sig entry → ⊥) → (earlier : ℕ) (other : HostSig) → earlier < at + 1 → slice_get sigs earlier ≡ Some other → HasNames other entry → ⊥
  none_more never earlier other less = none_at never earlier other (below_or earlier at less)

pub unknown : (sigs : List HostSig) (entry : Import) → ((number : ℕ) (sig : HostSig) → slice_get sigs number ≡ Some sig → HasNames sig entry → ⊥) → IsKnown sigs entry → ⊥
unknown sigs entry none k = none k.0 k.1 k.2.stands (k.2.host, k.2.name)

-- ---- the most parameters so far

module _ (sigs : List HostSig) (numbers : List ℕ) (at most new : ℕ) (d : HostSig) (below : at < length numbers)
    (is : new ≡ max most (length (get_or sigs (get_or numbers at 0) d).params.now))
    (so_far : (place number : ℕ) (sig : HostSig) → place < at → slice_get numbers place ≡ Some number → slice_get sigs number ≡ Some sig → length sig.params.now ≤ most) where
  most_at : (place number : ℕ) (sig : HostSig) → (place < at) ⊎ (place ≡ at) → slice_get numbers place ≡ Some number → slice_get sigs number ≡ Some sig → length sig.params.now ≤ new
  most_at place number sig (inl less) e f = let few = so_far place number sig less e f in omega (arith, few, is)
  most_at place number sig (inr there) e f =
      let one : get_or numbers at 0 ≡ number = same_found (slice_get numbers at) (slice_get-get_or numbers at 0 below) (subst (λ (z : ℕ). slice_get numbers z ≡ Some number) there e) in
      let two : get_or sigs (get_or numbers at 0) d ≡ sig = ap (λ z. get_or sigs z d) one ∙ get_or_from_slice_get sigs number sig d f in
      let size : length (get_or sigs (get_or numbers at 0) d).params.now ≡ length sig.params.now = ap (λ (z : HostSig). length z.params.now) two in
      omega (arith, is, size)

  pub most_more : (place number : ℕ) (sig : HostSig) → place < at + 1 → slice_get numbers place ≡ Some number → slice_get sigs number ≡ Some sig → length sig.params.now ≤ new
  most_more place number sig less = most_at place number sig (below_or place at less)

pub number_within : (sigs : List HostSig) (numbers : List ℕ) (at : ℕ) → EachAt (IsNumberOf sigs) numbers → at < length numbers → get_or numbers at 0 < length sigs
number_within sigs numbers at h below = h.each at (get_or numbers at 0) (slice_get-get_or numbers at 0 below)

-- the number is 0, or that of the parameters of a call
abbrev pub IsMet : List HostSig → List ℕ → ℕ → Type 0
IsMet sigs numbers most = (most ≡ 0) ⊎ ((place number : ℕ) × (sig : HostSig) × (slice_get numbers place ≡ Some number) × (slice_get sigs number ≡ Some sig) × (length sig.params.now ≡ most))

module _ (sigs : List HostSig) (numbers : List ℕ) (at most new : ℕ) (d : HostSig) (below : at < length numbers) (is : new ≡ max most (length (get_or sigs (get_or numbers at 0) d).params.now)) (all : EachAt (IsNumberOf sigs) numbers) where
  met_here : IsMet sigs numbers most → (most < length (get_or sigs (get_or numbers at 0) d).params.now) ⊎ (length (get_or sigs (get_or numbers at 0) d).params.now ≤ most) → IsMet sigs numbers new
  met_here met (inl more) = inr (at, get_or numbers at 0, get_or sigs (get_or numbers at 0) d, slice_get-get_or numbers at 0 below, slice_get-get_or sigs (get_or numbers at 0) d (number_within sigs numbers at all below), omega (arith, more, is))
  met_here met (inr less) = let same : most ≡ new = omega (arith, less, is) in subst (λ (z : ℕ). IsMet sigs numbers z) same met

  pub met_more : IsMet sigs numbers most → IsMet sigs numbers new
  met_more met = met_here met (before_or most (length (get_or sigs (get_or numbers at 0) d).params.now))

pub are_numbers : (sigs : List HostSig) (imports : List Import) (numbers : List ℕ) → AreNamed sigs imports numbers → EachAt (IsNumberOf sigs) numbers
are_numbers sigs imports numbers h = record { each = λ place number e. let r = h.named.each place number e in slice_get_within sigs number r.2.0 r.2.1.stands }

-- ---- one more entry

pub kinds_more : (imports : List Import) (at kind : ℕ) (x : Import) (old new : List Entry) (made : Entry) → x ≡ get_or imports at x → at < length imports → kind_of made ≡ kind → (get_or imports at x).desc ≡ import.Func kind
    → new ≡ old ++ made ∷ [] → map kind_of old ≡ filter_map (λ entry. imported_func entry.desc) (take at imports) → map kind_of new ≡ filter_map (λ entry. imported_func entry.desc) (take (at + 1) imports)
kinds_more imports at kind x old new made is below same func e so_far =
    let one : option_to_list (imported_func (get_or imports at x).desc) ≡ kind ∷ [] = ap (λ z. option_to_list (imported_func z)) func in
    let pushed : map kind_of new ≡ map kind_of old ++ kind ∷ [] = ap (map kind_of) e ∙ map_push kind_of old made ∙ ap (λ z. map kind_of old ++ z ∷ []) same in
    filtered_more (λ (z : Import). imported_func z.desc) imports at x [] (map kind_of old) (map kind_of new) is below so_far (pushed ∙ ap (λ z. map kind_of old ++ z) (sym one))

pub number_fits : (sigs : List HostSig) (imports : List Import) (numbers : List ℕ) (at : ℕ) → AreNamed sigs imports numbers → at < length imports → get_or numbers at 0 < length sigs
number_fits sigs imports numbers at named below = number_within sigs numbers at (are_numbers sigs imports numbers named) (omega (arith, below, named.count))

module _ (sigs : List HostSig) (types : List FuncType) (imports : List Import) (numbers : List ℕ) (at : ℕ) (x : Import) (sig : HostSig) (functions : List Entry)
    (below : at < length imports) (is : slice_get imports at ≡ Some x) (named : AreNamed sigs imports numbers) (count : length functions ≡ at) (so_far : EachAt (IsImportedAt sigs types imports) functions) where
  number_at : slice_get numbers at ≡ Some (get_or numbers at 0)
  number_at = slice_get-get_or numbers at 0 (omega (arith, below, named.count))

  named_here : IsNamedAt sigs imports at (get_or numbers at 0)
  named_here = named.named.each at (get_or numbers at 0) number_at

  pub other_here : slice_get sigs (get_or numbers at 0) ≡ Some sig → ((kind : ℕ) → HasKind types x.desc sig kind → ⊥) → FirstNot (IsOfKind sigs types) imports at
  other_here stands never = first_other sigs types imports functions at (get_or numbers at 0) x sig count so_far is named_here stands never

  pub imported_here : (kind : ℕ) → slice_get sigs (get_or numbers at 0) ≡ Some sig → HasKind types x.desc sig kind → EachAt (IsImportedAt sigs types imports) (functions ++ code.Imported kind (get_or numbers at 0) ∷ [])
  imported_here kind stands has =
      let r = named_here in
      let same : r.0 ≡ x = same_found (slice_get imports at) r.1 is in
      let names : Names sigs x (get_or numbers at 0) r.2.0 = subst (λ (z : Import). Names sigs z (get_or numbers at 0) r.2.0) same r.2.1 in
      let one : r.2.0 ≡ sig = same_found (slice_get sigs (get_or numbers at 0)) names.stands stands in
      let names_sig : Names sigs x (get_or numbers at 0) sig = subst (λ (z : HostSig). Names sigs x (get_or numbers at 0) z) one names in
      each_push (IsImportedAt sigs types imports) functions (code.Imported kind (get_or numbers at 0)) at count so_far (x, is, get_or numbers at 0, sig, names_sig, kind, has, refl)
