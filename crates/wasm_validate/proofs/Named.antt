-- The set of the names so far.
use Rattle.std.proofs.Common.{◌≡◌, ℕ, suc, zero, ◌+◌, ◌<◌, ◌≤◌, ◌⊎◌, inl, inr, List, length, refl, ap, sym, ◌∙◌, subst, arith, Bool, true, false, cond, Some, slice_get, Bor, Ordering}
use Rattle.std.specs.Ordering.{is_eq, nat_cmp}
use Rattle.std.specs.Cmp.Lexicographic.{slice_cmp}
use Rattle.std.specs.BTreeSet.{BTreeSet, contains}
use Rattle.std.proofs.lemmas.Map.Text.{is_eq-slice_cmp}
use Rattle.std.proofs.lemmas.Slice.Eq.{bytes_eq-Decides}
use Rattle.std.proofs.lemmas.Option.{slice_get_within}
use Rattle.wasm_values.specs.declared.exports.Export.{Export}
use Rattle.wasm_validate.specs.Modules.{NamesDiffer}
use Rattle.wasm_typing.proofs.Instructions.{one_found}

further : (i at : ℕ) → (i < at) ⊎ (i ≡ at) → (suc i < suc at) ⊎ (suc i ≡ suc at)
further i at (inl below) = inl (omega arith)
further i at (inr same) = inr (ap suc same)

split : (i at : ℕ) → i < at + 1 → (i < at) ⊎ (i ≡ at)
split zero zero below = inr refl
split zero (suc at) below = inl (omega arith)
split (suc i) zero below = absurd (omega arith)
split (suc i) (suc at) below = further i at (split i at (omega arith))

abbrev pub Name : Type 0
Name = Bor (List ℕ)

abbrev pub by_bytes : Name → Name → Ordering
by_bytes x y = slice_cmp nat_cmp x.now y.now

-- The set has the names of the exports so far, which differ.
pub record Named (exports : List Export) (at : ℕ) (set : BTreeSet Name) : Type 0 where
  pub found : (q : Name) → contains by_bytes set q ≡ true → (i : ℕ) × (i < at) × (e : Export) × (slice_get exports i ≡ Some e) × (e.name ≡ q.now)
  pub seen : (q : Name) (i : ℕ) (e : Export) → i < at → slice_get exports i ≡ Some e → e.name ≡ q.now → contains by_bytes set q ≡ true
  pub apart : (i j : ℕ) (one other : Export) → i < at → j < at → slice_get exports i ≡ Some one → slice_get exports j ≡ Some other → one.name ≡ other.name → i ≡ j

equal_bytes : (x y : Name) → is_eq (by_bytes x y) ≡ true → x.now ≡ y.now
equal_bytes x y e = (bytes_eq-Decides x.now y.now).0 (sym (is_eq-slice_cmp x.now y.now) ∙ e)

bytes_equal : (x y : Name) → x.now ≡ y.now → is_eq (by_bytes x y) ≡ true
bytes_equal x y e = is_eq-slice_cmp x.now y.now ∙ (bytes_eq-Decides x.now y.now).1 e

either : (b c : Bool) → cond b true c ≡ true → (b ≡ true) ⊎ (c ≡ true)
either true c e = inl refl
either false c e = inr e

first_true : (b c : Bool) → b ≡ true → cond b true c ≡ true
first_true b c e = ap (λ (z : Bool). cond z true c) e

second_true : (b c : Bool) → c ≡ true → cond b true c ≡ true
second_true true c e = refl
second_true false c e = e

module _ (exports : List Export) (at : ℕ) (x : Export) (key : Name) (old new : BTreeSet Name)
    (is : slice_get exports at ≡ Some x) (named : x.name ≡ key.now) (so_far : Named exports at old) where
  pub name_stands : contains by_bytes old key ≡ true → NamesDiffer exports → ⊥
  name_stands e differ =
      let r = so_far.found key e in
      let same : r.0 ≡ at = differ r.0 at r.2 x r.3 is (r.4 ∙ sym named) in
      let below = r.1 in
      absurd (omega (arith, same, below))

  module _ (is_new : contains by_bytes old key ≡ false) (updates : (q : Name) → contains by_bytes new q ≡ cond (is_eq (by_bytes key q)) true (contains by_bytes old q)) where
    found_by : (q : Name) → (is_eq (by_bytes key q) ≡ true) ⊎ (contains by_bytes old q ≡ true) → (i : ℕ) × (i < at + 1) × (e : Export) × (slice_get exports i ≡ Some e) × (e.name ≡ q.now)
    found_by q (inl e) = (at, omega arith, x, is, named ∙ equal_bytes key q e)
    found_by q (inr e) = let r = so_far.found q e in let below = r.1 in (r.0, omega (arith, below), r.2, r.3, r.4)

    seen_by : (q : Name) (i : ℕ) (e : Export) → (i < at) ⊎ (i ≡ at) → slice_get exports i ≡ Some e → e.name ≡ q.now → contains by_bytes new q ≡ true
    seen_by q i e (inl below) f n = updates q ∙ second_true (is_eq (by_bytes key q)) (contains by_bytes old q) (so_far.seen q i e below f n)
    seen_by q i e (inr same) f n =
        let one : x ≡ e = one_found (slice_get exports at) is (subst (λ (z : ℕ). slice_get exports z ≡ Some e) same f) in
        updates q ∙ first_true (is_eq (by_bytes key q)) (contains by_bytes old q) (bytes_equal key q (sym named ∙ ap (λ (z : Export). z.name) one ∙ n))

    not_before : (j : ℕ) (e : Export) → j < at → slice_get exports j ≡ Some e → e.name ≡ key.now → ⊥
    not_before j e below f n = let yes = so_far.seen key j e below f n in absurd cc

    apart_by : (i j : ℕ) (one other : Export) → (i < at) ⊎ (i ≡ at) → (j < at) ⊎ (j ≡ at) → slice_get exports i ≡ Some one → slice_get exports j ≡ Some other → one.name ≡ other.name → i ≡ j
    apart_by i j one other (inl b) (inl c) e f n = so_far.apart i j one other b c e f n
    apart_by i j one other (inr b) (inr c) e f n = b ∙ sym c
    apart_by i j one other (inl b) (inr c) e f n =
        let last : x ≡ other = one_found (slice_get exports at) is (subst (λ (z : ℕ). slice_get exports z ≡ Some other) c f) in
        absurd (not_before i one b e (n ∙ sym (ap (λ (z : Export). z.name) last) ∙ named))
    apart_by i j one other (inr b) (inl c) e f n =
        let last : x ≡ one = one_found (slice_get exports at) is (subst (λ (z : ℕ). slice_get exports z ≡ Some one) b e) in
        absurd (not_before j other c f (sym n ∙ sym (ap (λ (z : Export). z.name) last) ∙ named))

    pub named_more : Named exports (at + 1) new
    named_more = record {
      found = λ q e. found_by q (either (is_eq (by_bytes key q)) (contains by_bytes old q) (sym (updates q) ∙ e));
      seen = λ q i e below f n. seen_by q i e (split i at below) f n;
      apart = λ i j one other b c e f n. apart_by i j one other (split i at b) (split j at c) e f n;
    }

-- all of them
within : (exports : List Export) (at k : ℕ) (x : Export) → length exports ≤ at → slice_get exports k ≡ Some x → k < at
within exports at k x past e = let below = slice_get_within exports k x e in omega (arith, below, past)

pub names_end : (exports : List Export) (at : ℕ) (set : BTreeSet Name) → length exports ≤ at → Named exports at set → NamesDiffer exports
names_end exports at set past n = λ i j one other e f same. n.apart i j one other (within exports at i one past e) (within exports at j other past f) e f same
