-- Lists that are read in one pass, an element after the other.
use Rattle.std.proofs.Common.{◌≡◌, ℕ, zero, suc, ◌+◌, ◌*◌, ◌/◌, ◌%◌, ◌^◌, ◌<◌, List, [], ◌∷◌, ◌++◌, map, take, length, get_or, refl, sym, ap, ap₂, subst, append_assoc, ◌∙◌, Option, Some, None, Result, Ok, Err, arith}
use Rattle.std.specs.List.{AllByRecursion}
use Rattle.std.proofs.lemmas.Bool.Decides.{nat_tests}
use Rattle.std.proofs.lemmas.List.{flat_map_more, get_or-map, get_or_default, length-map, map-append, take_more}
use Rattle.std.specs.Prelude.{IfOk}
use Rattle.serde_json.specs.Data.{Data, null, boolean, number, string, array, object, Items}
use Rattle.serde_json.specs.Find.{as_str, as_array}
use Rattle.serde_json.specs.View.{view, items_of, items_view}
use Rattle.serde_json.specs.declared.value.Value.{Value}
use Rattle.world_form.specs.Digits.{hex, hex_digit}
use Rattle.world_text.specs.inner.Readings.{Reads}

-- ---- a list that is the image of another

-- An element that is the image of nothing is in no image.
pub not_mapped : {B C : Type 0} (g : B → C) (cs : List C) (ys : List B) (i : ℕ) (c : C) → i < length cs → c ≡ get_or cs i c → ((y : B) → c ≡ g y → ⊥) → cs ≡ map g ys → ⊥
not_mapped g [] ys i c lt is none e = absurd (omega arith)
not_mapped g (x ∷ cs) [] i c lt is none e = absurd cc
not_mapped g (x ∷ cs) (y ∷ ys) zero c lt is none e = let head : x ≡ g y = cc in none y (is ∙ head)
not_mapped g (x ∷ cs) (y ∷ ys) (suc i) c lt is none e = let rest : cs ≡ map g ys = cc in not_mapped g cs ys i c (omega arith) is none rest

pub same_items : (ds es : List Data) → items_of ds ≡ items_of es → ds ≡ es
same_items [] [] e = refl
same_items [] (d ∷ es) e = absurd cc
same_items (d ∷ ds) [] e = absurd cc
same_items (d ∷ ds) (f ∷ es) e = let head : d ≡ f = cc in let rest : items_of ds ≡ items_of es = cc in λ i. head i ∷ same_items ds es rest i

-- The same of the values of a list.
pub not_items : {B : Type 0} (g : B → Data) (values : List Value) (ys : List B) (i : ℕ) (v : Value) → i < length values → v ≡ get_or values i v → ((y : B) → view v ≡ g y → ⊥) → items_view values ≡ items_of (map g ys) → ⊥
not_items g values ys i v lt is none e =
    not_mapped g (map view values) ys i (view v) (simp length-map lt) (ap view is ∙ sym (get_or-map view values i v (view v) lt)) none (same_items (map view values) (map g ys) e)

-- ---- facts of each element

pub all_at : {X : Type 0} (P : X → Type 0) (xs : List X) (i : ℕ) (x : X) → i < length xs → x ≡ get_or xs i x → AllByRecursion P xs → P x
all_at P [] i x lt is all = absurd (omega arith)
all_at P (y ∷ xs) zero x lt is all = subst P (sym is) all.0
all_at P (y ∷ xs) (suc i) x lt is all = all_at P xs i x (omega arith) is all.1

-- ---- values

pub text_is : (value : Data) (text : List ℕ) → Some text ≡ as_str value → value ≡ string text
text_is null text e = absurd cc
text_is (boolean b) text e = absurd cc
text_is (number n) text e = absurd cc
text_is (string s) text e = cc
text_is (array ds) text e = absurd cc
text_is (object ms) text e = absurd cc

pub list_is : (value : Data) (values : Items) → Some values ≡ as_array value → value ≡ array values
list_is null values e = absurd cc
list_is (boolean b) values e = absurd cc
list_is (number n) values e = absurd cc
list_is (string s) values e = absurd cc
list_is (array ds) values e = cc
list_is (object ms) values e = absurd cc

pub one_text : (text other : List ℕ) → string text ≡ string other → text ≡ other
one_text text other e = cc

one_list : (values others : Items) → array values ≡ array others → values ≡ others
one_list values others e = cc

-- A list of values as long as the list that it is the image of.
pub items_length : {B : Type 0} (g : B → Data) (value : Data) (values : List Value) (ys : List B) → Some (items_view values) ≡ as_array value → value ≡ array (items_of (map g ys)) → length values ≡ length ys
items_length g value values ys said e =
    let same = same_items (map view values) (map g ys) (one_list _ _ (sym (list_is value (items_view values) said) ∙ e)) in
    omega (arith, ap length same, length-map values view, length-map ys g)

-- ---- answers of a reader

-- A reader of one thing reads what is the same.
pub reads_same : {A : Type 0} (P Q : A → Type 0) → ((a : A) → P a → Q a) → ((a : A) → Q a → P a) → (found : Option A) → Reads P found → Reads Q found
reads_same P Q there back (Some a) h = there a h
reads_same P Q there back None h = λ a q. h a (back a q)

pub reads_ok : {A E : Type 0} (P Q : A → Type 0) → ((a : A) → P a → Q a) → ((a : A) → Q a → P a) → (r : Result (Option A) E) → IfOk r (Reads P) → IfOk r (Reads Q)
reads_ok P Q there back (Ok found) h = reads_same P Q there back found h
reads_ok P Q there back (Err e) h = tt

-- ---- one element more

-- the values of the first elements of a list
pub values_next : {A : Type 0} (data_of : A → Data) (xs : List A) (i : ℕ) (x d : A) (values more : List Value) (value : Value)
    → i < length xs → x ≡ get_or xs i d → map view values ≡ map data_of (take i xs)
    → view value ≡ data_of x → more ≡ values ++ value ∷ [] → map view more ≡ map data_of (take (i + 1) xs)
values_next data_of xs i x d values more value lt is e f h =
    ap (map view) h ∙ map-append view values (value ∷ [])
    ∙ ap₂ (λ a b. a ++ b ∷ []) e f
    ∙ sym (map-append data_of (take i xs) (x ∷ []))
    ∙ ap (λ v. map data_of (take i xs ++ v ∷ [])) is
    ∙ ap (map data_of) (sym (take_more xs i d lt))

all_last : {A : Type 0} (P : A → Type 0) (xs : List A) (x : A)
    → AllByRecursion P xs → P x → AllByRecursion P (xs ++ x ∷ [])
all_last P [] x all here = (here, tt)
all_last P (y ∷ xs) x all here = (all.0, all_last P xs x all.1 here)

-- what each of them is
pub all_next : {A : Type 0} (P : A → Type 0) (xs : List A) (i : ℕ) (x d : A)
    → i < length xs → x ≡ get_or xs i d → AllByRecursion P (take i xs) → P x → AllByRecursion P (take (i + 1) xs)
all_next {A} P xs i x d lt is all here =
    subst (λ (v : List A). AllByRecursion P v)
    (ap (λ v. take i xs ++ v ∷ []) is ∙ sym (take_more xs i d lt)) (all_last P (take i xs) x all here)

-- ---- hexadecimal

pub hex_length : (bytes : List ℕ) → length (hex bytes) ≡ 2 * length bytes
hex_length [] = refl
hex_length (b ∷ bytes) = let rest : length (hex bytes) ≡ 2 * length bytes = hex_length bytes in omega arith

-- one byte more
pub hex_next : (bytes before between after : List ℕ) (i high low : ℕ)
    → i < length bytes → before ≡ hex (take i bytes)
    → high ≡ hex_digit (get_or bytes i 0 / 16) → low ≡ hex_digit (get_or bytes i 0 % 16)
    → between ≡ before ++ high ∷ [] → after ≡ between ++ low ∷ [] → after ≡ hex (take (i + 1) bytes)
hex_next bytes before between after i high low lt e h l a b =
    b ∙ ap (λ v. v ++ low ∷ []) (a ∙ ap (λ v. v ++ high ∷ []) e)
    ∙ append_assoc (hex (take i bytes)) (high ∷ []) (low ∷ [])
    ∙ ap₂ (λ u v. hex (take i bytes) ++ u ∷ v ∷ []) h l
    ∙ flat_map_more (λ byte. hex_digit (byte / 16) ∷ hex_digit (byte % 16) ∷ []) [] (take i bytes) (get_or bytes i 0)
    ∙ ap hex (sym (take_more bytes i 0 lt))

pub hex_digit_small : (n : ℕ) → n < 16 → hex_digit n < 128
hex_digit_small n low = grind (arith, nat_tests)

hex_high : (bytes : List ℕ) (k : ℕ) → k < length bytes → get_or (hex bytes) (2 * k) 0 ≡ hex_digit (get_or bytes k 0 / 16)
hex_high [] k lt = absurd (omega arith)
hex_high (b ∷ bytes) zero lt = refl
hex_high (b ∷ bytes) (suc k) lt =
    let next : suc (suc (2 * k)) ≡ 2 * suc k = omega arith in
    ap (λ (n : ℕ). get_or (hex (b ∷ bytes)) n 0) (sym next) ∙ hex_high bytes k (omega arith)

hex_low : (bytes : List ℕ) (k : ℕ) → k < length bytes → get_or (hex bytes) (2 * k + 1) 0 ≡ hex_digit (get_or bytes k 0 % 16)
hex_low [] k lt = absurd (omega arith)
hex_low (b ∷ bytes) zero lt = refl
hex_low (b ∷ bytes) (suc k) lt =
    let next : suc (suc (2 * k + 1)) ≡ 2 * suc k + 1 = omega arith in
    ap (λ (n : ℕ). get_or (hex (b ∷ bytes)) n 0) (sym next) ∙ hex_low bytes k (omega arith)

-- Where the first digit of a pair is none, the digits are of no bytes; where the second is, too.
pub not_high : (digits bytes : List ℕ) (k : ℕ) → k < length digits / 2 → ((n : ℕ) → (n < 16) × (get_or digits (2 * k) 0 ≡ hex_digit n) → ⊥) → (digits ≡ hex bytes) × AllByRecursion (λ byte. byte < 2 ^ 8) bytes → ⊥
not_high digits bytes k lt none said =
    let long : length digits ≡ 2 * length bytes = ap length said.0 ∙ hex_length bytes in
    let inside : k < length bytes = omega arith in
    let small : get_or bytes k 0 < 2 ^ 8 = all_at (λ byte. byte < 2 ^ 8) bytes k (get_or bytes k 0) inside (get_or_default bytes k 0 (get_or bytes k 0) inside) said.1 in
    none (get_or bytes k 0 / 16) (omega arith, ap (λ (xs : List ℕ). get_or xs (2 * k) 0) said.0 ∙ hex_high bytes k inside)

pub not_low : (digits bytes : List ℕ) (k : ℕ) → k < length digits / 2 → ((n : ℕ) → (n < 16) × (get_or digits (2 * k + 1) 0 ≡ hex_digit n) → ⊥) → (digits ≡ hex bytes) × AllByRecursion (λ byte. byte < 2 ^ 8) bytes → ⊥
not_low digits bytes k lt none said =
    let long : length digits ≡ 2 * length bytes = ap length said.0 ∙ hex_length bytes in
    let inside : k < length bytes = omega arith in
    none (get_or bytes k 0 % 16) (omega arith, ap (λ (xs : List ℕ). get_or xs (2 * k + 1) 0) said.0 ∙ hex_low bytes k inside)

pub no_list : (value : Data) → None ≡ as_array value → (values : Items) → value ≡ array values → ⊥
no_list value none values e = let some : as_array value ≡ Some values = ap as_array e in cc
