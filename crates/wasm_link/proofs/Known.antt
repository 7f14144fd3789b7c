-- The classes of equal types.
use Rattle.std.proofs.Common.{◌≡◌, ℕ, suc, zero, ◌+◌, ◌<◌, ◌⊎◌, inl, inr, List, [], ◌∷◌, ◌++◌, length, map, refl, ap, sym, ◌∙◌, subst, arith, Bool, true, false, cond, Option, Some, None, slice_get, Bor}
use Rattle.std.specs.BTreeMap.{BTreeMap, IsEmpty}
use Rattle.std.specs.Str.{bytes_eq}
use Rattle.std.proofs.lemmas.Slice.Eq.{bytes_eq-Decides}
use Rattle.std.proofs.lemmas.Option.{slice_get_within}
use Rattle.std.proofs.lemmas.List.{length-map}
use Rattle.wasm_values.specs.declared.types.FuncType.{FuncType}
use Rattle.wasm_values.specs.declared.types.ValType.{ValType}
use Rattle.wasm_values.specs.declared.types.ValType.TheVariants.{I32, I64, F32, F64}
use Rattle.wasm_link.specs.inner.Learned.{class_in, Learns}
use Rattle.wasm_link.specs.Made.{code_of, result_code, text_of, AreClasses}
use Rattle.wasm_link.proofs.Each.{same_found, not_found, below_or, get_left, get_right, get_map}

-- ---- texts differ where types do

value_at : ℕ → ValType
value_at zero = I32
value_at (suc zero) = I64
value_at (suc (suc zero)) = F32
value_at (suc (suc (suc n))) = F64

values_back : (xs : List ValType) → map value_at (map code_of xs) ≡ xs
unfolding value_at
values_back [] = refl
values_back (I32 ∷ xs) = ap (λ z. I32 ∷ z) (values_back xs)
values_back (I64 ∷ xs) = ap (λ z. I64 ∷ z) (values_back xs)
values_back (F32 ∷ xs) = ap (λ z. F32 ∷ z) (values_back xs)
values_back (F64 ∷ xs) = ap (λ z. F64 ∷ z) (values_back xs)

result_at : ℕ → Option ValType
result_at zero = Some I32
result_at (suc zero) = Some I64
result_at (suc (suc zero)) = Some F32
result_at (suc (suc (suc zero))) = Some F64
result_at (suc (suc (suc (suc n)))) = None

result_back : (o : Option ValType) → result_at (result_code o) ≡ o
unfolding result_at
result_back None = refl
result_back (Some I32) = refl
result_back (Some I64) = refl
result_back (Some F32) = refl
result_back (Some F64) = refl

head_same : {x y : ℕ} {xs ys : List ℕ} → ◌≡◌ {A = List ℕ} (x ∷ xs) (y ∷ ys) → x ≡ y
head_same e = cc

tail_same : {x y : ℕ} {xs ys : List ℕ} → ◌≡◌ {A = List ℕ} (x ∷ xs) (y ∷ ys) → xs ≡ ys
tail_same e = cc

both_same : (one other : FuncType) → one.params ≡ other.params → one.result ≡ other.result → one ≡ other
both_same one other e f = ap (λ (z : List ValType). let t : FuncType = record { params = z; result = one.result } in t) e ∙ ap (λ (z : Option ValType). let t : FuncType = record { params = other.params; result = z } in t) f

pub text_same : (one other : FuncType) → text_of one ≡ text_of other → one ≡ other
text_same one other e =
    let params : one.params ≡ other.params = sym (values_back one.params) ∙ ap (map value_at) (tail_same e) ∙ values_back other.params in
    let result : one.result ≡ other.result = sym (result_back one.result) ∙ ap result_at (head_same e) ∙ result_back other.result in
    both_same one other params result

-- the classes of the texts are those of the types
pub classes_under : (types : List FuncType) (texts : List (List ℕ)) (classes : List ℕ) → texts ≡ map text_of types → AreClasses texts classes → AreClasses types classes
classes_under types texts classes is h =
    let k : AreClasses (map text_of types) classes = subst (λ (z : List (List ℕ)). AreClasses z classes) is h in
    record {
      count = k.count ∙ length-map types text_of;
      equal = λ i j class one other e f c d. text_same one other (k.equal i j class (text_of one) (text_of other) (get_map text_of types i one e) (get_map text_of types j other f) c d);
      same = λ i j class other one e f c d. k.same i j class other (text_of one) (get_map text_of types i one e) (get_map text_of types j one f) c d;
    }

-- ---- what is known so far

pub record Known (texts : List (List ℕ)) (classes : List ℕ) (at : ℕ) (m : BTreeMap (Bor (List ℕ)) ℕ) : Type 0 where
  pub found : (text : List ℕ) (class : ℕ) → class_in m text ≡ Some class → slice_get texts class ≡ Some text
  pub seen : (i : ℕ) (text : List ℕ) → i < at → slice_get texts i ≡ Some text → (class : ℕ) × (slice_get classes i ≡ Some class) × (class_in m text ≡ Some class)

known_empty : (text : List ℕ) (class : ℕ) (m : BTreeMap (Bor (List ℕ)) ℕ) → IsEmpty m → class_in m text ≡ Some class → ⊥
known_empty text class m none e = let n : class_in m text ≡ None = rw none refl in cc

pub known_none : (texts : List (List ℕ)) (m : BTreeMap (Bor (List ℕ)) ℕ) → IsEmpty m → (classes : List ℕ) → Known texts classes 0 m
known_none texts m none classes = record {
  found = λ text class e. absurd (known_empty text class m none e);
  seen = λ i text below e. absurd (omega (arith, below));
}

module _ (texts : List (List ℕ)) (classes : List ℕ) (at class : ℕ) (x : List ℕ) (old new : BTreeMap (Bor (List ℕ)) ℕ)
    (is : slice_get texts at ≡ Some x) (count : length classes ≡ at) (known : Known texts classes at old) (learns : Learns old new x at class) where
  found_by : (text : List ℕ) (c : ℕ) → (class_in old text ≡ Some c) ⊎ ((x ≡ text) × (at ≡ c)) → slice_get texts c ≡ Some text
  found_by text c (inl e) = known.found text c e
  found_by text c (inr e) = subst (λ (z : ℕ). slice_get texts z ≡ Some text) e.1 (is ∙ ap Some e.0)

  seen_by : (i : ℕ) (text : List ℕ) → (i < at) ⊎ (i ≡ at) → slice_get texts i ≡ Some text → (c : ℕ) × (slice_get (classes ++ class ∷ []) i ≡ Some c) × (class_in new text ≡ Some c)
  seen_by i text (inl below) e =
      let r = known.seen i text below e in
      let left : i < length classes = omega (arith, below, count) in
      (r.0, get_left classes (class ∷ []) i left ∙ r.1, learns.kept text r.0 r.2)
  seen_by i text (inr same) e =
      let one : x ≡ text = same_found (slice_get texts at) is (subst (λ (z : ℕ). slice_get texts z ≡ Some text) same e) in
      (class, get_right classes (class ∷ []) i 0 (omega (arith, same, count)), subst (λ (z : List ℕ). class_in new z ≡ Some class) one learns.class)

  pub known_more : Known texts (classes ++ class ∷ []) (at + 1) new
  known_more = record {
    found = λ text c e. found_by text c (learns.made text c e);
    seen = λ i text below e. seen_by i text (below_or i at below) e;
  }

pub known_end : (texts : List (List ℕ)) (classes : List ℕ) (at : ℕ) (m : BTreeMap (Bor (List ℕ)) ℕ) → length classes ≡ at → length texts ≡ at → Known texts classes at m → AreClasses texts classes
known_end texts classes at m count whole k = record {
  count = count ∙ sym whole;
  equal = λ i j class one other e f c d.
      let r = k.seen i one (subst (λ (z : ℕ). i < z) whole (slice_get_within texts i one e)) e in
      let s = k.seen j other (subst (λ (z : ℕ). j < z) whole (slice_get_within texts j other f)) f in
      let first : slice_get texts class ≡ Some one = k.found one class (r.2 ∙ ap Some (same_found (slice_get classes i) r.1 c)) in
      let second : slice_get texts class ≡ Some other = k.found other class (s.2 ∙ ap Some (same_found (slice_get classes j) s.1 d)) in
      same_found (slice_get texts class) first second;
  same = λ i j class other one e f c d.
      let r = k.seen i one (subst (λ (z : ℕ). i < z) whole (slice_get_within texts i one e)) e in
      let s = k.seen j one (subst (λ (z : ℕ). j < z) whole (slice_get_within texts j one f)) f in
      let first : r.0 ≡ class = same_found (slice_get classes i) r.1 c in
      let second : s.0 ≡ other = same_found (slice_get classes j) s.1 d in
      sym first ∙ same_found (class_in m one) r.2 s.2 ∙ second;
}

-- ---- one text is looked up

pub learns_none : (m : BTreeMap (Bor (List ℕ)) ℕ) (text : List ℕ) (at class : ℕ) → class_in m text ≡ Some class → Learns m m text at class
learns_none m text at class e = record { class = e; kept = λ other c f. f; made = λ other c f. inl f }

module _ (old new : BTreeMap (Bor (List ℕ)) ℕ) (text : List ℕ) (at : ℕ) (absent : class_in old text ≡ None)
    (updates : (other : List ℕ) → class_in new other ≡ cond (bytes_eq text other) (Some at) (class_in old other)) where
  equal_here : bytes_eq text text ≡ true
  equal_here = (bytes_eq-Decides text text).1 refl

  kept_by : (other : List ℕ) (c : ℕ) (b : Bool) → bytes_eq text other ≡ b → class_in old other ≡ Some c → cond b (Some at) (class_in old other) ≡ Some c
  kept_by other c true e f = absurd (not_found (class_in old other) f (subst (λ (z : List ℕ). class_in old z ≡ None) ((bytes_eq-Decides text other).0 e) absent))
  kept_by other c false e f = f

  made_by : (other : List ℕ) (c : ℕ) (b : Bool) → bytes_eq text other ≡ b → cond b (Some at) (class_in old other) ≡ Some c → (class_in old other ≡ Some c) ⊎ ((text ≡ other) × (at ≡ c))
  made_by other c true e f = inr ((bytes_eq-Decides text other).0 e, same_found (Some at) refl f)
  made_by other c false e f = inl f

  pub learns_more : Learns old new text at at
  learns_more = record {
    class = updates text ∙ ap (λ z. cond z (Some at) (class_in old text)) equal_here;
    kept = λ other c f. updates other ∙ kept_by other c (bytes_eq text other) refl f;
    made = λ other c f. made_by other c (bytes_eq text other) refl (sym (updates other) ∙ f);
  }
