-- Lists of values at the front of the same bytes.
use Rattle.std.proofs.Common.{◌≡◌, ℕ, ◌<◌, ◌≤◌, List, [], ◌∷◌, ◌++◌, length, sym, subst, ap, ◌∙◌, refl, arith, append_assoc, length-append}
use Rattle.std.proofs.lemmas.List.{append-nil}
use Rattle.std.specs.List.{AllByRecursion, flat_map}
use Rattle.world_bytes.specs.inner.Rows.{LeadsNone}
use Rattle.tick_journal.specs.inner.Rows.{AreListed, list_row}

-- One value at most stands at the front of bytes.
abbrev pub IsOne : {V : Type 0} → (V → Type 0) → (V → List ℕ) → Type 0
IsOne {V} HasForm bytes = (a b : V) (text r s : List ℕ) → HasForm a → HasForm b → text ≡ bytes a ++ r → text ≡ bytes b ++ s → (a ≡ b) × (r ≡ s)

-- The list goes on behind the values that were read, and the bytes behind them are those of its rest.
pub record Goes {V : Type 0} (HasForm : V → Type 0) (bytes : V → List ℕ) (read list : List V) (left rest : List ℕ) : Type 0 where
  pub more : List V
  pub whole : list ≡ read ++ more
  pub forms : AllByRecursion HasForm more
  pub behind : left ≡ list_row bytes more rest

pub goes_on : {V : Type 0} (HasForm : V → Type 0) (bytes : V → List ℕ) → IsOne HasForm bytes → (read list : List V) (text left rest : List ℕ) → length read ≤ length list → AllByRecursion HasForm read → AllByRecursion HasForm list → text ≡ list_row bytes read left → text ≡ list_row bytes list rest → Goes HasForm bytes read list left rest
goes_on {V} HasForm bytes one [] list text left rest most p q e f = record { more = list; whole = refl; forms = q; behind = sym e ∙ f }
goes_on {V} HasForm bytes one (x ∷ read) [] text left rest most p q e f = absurd (omega arith)
goes_on {V} HasForm bytes one (x ∷ read) (y ∷ list) text left rest most p q e f =
    let same = one x y text (list_row bytes read left) (list_row bytes list rest) p.0 q.0 (e ∙ append_assoc (bytes x) (flat_map bytes read) left) (f ∙ append_assoc (bytes y) (flat_map bytes list) rest) in
    let go = goes_on HasForm bytes one read list (list_row bytes read left) left rest (omega arith) p.1 q.1 refl same.1 in
    record {
      more = go.more;
      whole = ap (λ (z : V). z ∷ list) (sym same.0) ∙ ap (λ (z : List V). x ∷ z) go.whole;
      forms = go.forms;
      behind = go.behind;
    }

-- a list of the same length does not go on
no_more : {V : Type 0} (bytes : V → List ℕ) (read list more : List V) (left rest : List ℕ) → length read ≡ length list → list ≡ read ++ more → left ≡ list_row bytes more rest → (read ≡ list) × (left ≡ rest)
no_more bytes read list [] left rest same e f = (sym (e ∙ append-nil read), f)
no_more bytes read list (z ∷ zs) left rest same e f = absurd (omega (arith, ap length e, length-append read (z ∷ zs)))

-- two lists of one length at the front of the same bytes are one
pub lists_one : {V : Type 0} (HasForm : V → Type 0) (bytes : V → List ℕ) → IsOne HasForm bytes → (a b : List V) (text left rest : List ℕ) → length a ≡ length b → AllByRecursion HasForm a → AllByRecursion HasForm b → text ≡ list_row bytes a left → text ≡ list_row bytes b rest → (a ≡ b) × (left ≡ rest)
lists_one HasForm bytes one a b text left rest same p q e f =
    let go = goes_on HasForm bytes one a b text left rest (omega arith) p q e f in
    no_more bytes a b go.more left rest same go.whole go.behind

-- What stands behind the values that were read, of a list that has more of them.
pub record Next {V : Type 0} (HasForm : V → Type 0) (bytes : V → List ℕ) (read list : List V) (left rest : List ℕ) : Type 0 where
  pub value : V
  pub more : List V
  pub whole : list ≡ read ++ value ∷ more
  pub form : HasForm value
  pub behind : left ≡ bytes value ++ list_row bytes more rest

next_of : {V : Type 0} (HasForm : V → Type 0) (bytes : V → List ℕ) (read list more : List V) (left rest : List ℕ) → length read < length list → list ≡ read ++ more → AllByRecursion HasForm more → left ≡ list_row bytes more rest → Next HasForm bytes read list left rest
next_of HasForm bytes read list [] left rest less e p f = absurd (omega (arith, ap length e, length-append read []))
next_of HasForm bytes read list (z ∷ zs) left rest less e p f =
    record { value = z; more = zs; whole = e; form = p.0; behind = f ∙ append_assoc (bytes z) (flat_map bytes zs) rest }

pub goes_next : {V : Type 0} (InOrder : List V → Type 0) (HasForm : V → Type 0) (bytes : V → List ℕ) → IsOne HasForm bytes → (count : ℕ) (read list : List V) (text left rest : List ℕ) → length read < count → AllByRecursion HasForm read → AreListed InOrder HasForm count list → text ≡ list_row bytes read left → text ≡ list_row bytes list rest → Next HasForm bytes read list left rest
goes_next InOrder HasForm bytes one count read list text left rest less p are e f =
    let size = are.counted in
    let go = goes_on HasForm bytes one read list text left rest (omega arith) p are.forms e f in
    next_of HasForm bytes read list go.more left rest (omega arith) go.whole go.forms go.behind

-- ---- steps of the reading

pub list_longer : {V : Type 0} (bytes : V → List ℕ) (read : List V) (value : V) (text left rest : List ℕ) → text ≡ list_row bytes read left → left ≡ bytes value ++ rest → text ≡ list_row bytes (read ++ value ∷ []) rest
list_longer {V} bytes read value text left rest e f =
    e ∙ ap (λ (z : List ℕ). flat_map bytes read ++ z) f ∙ sym (append_assoc (flat_map bytes read) (bytes value) rest)
    ∙ ap (λ (z : List ℕ). z ++ rest) (flat_map_push bytes read value)
  where
    flat_map_push : {V : Type 0} (bytes : V → List ℕ) (read : List V) (value : V) → flat_map bytes read ++ bytes value ≡ flat_map bytes (read ++ value ∷ [])
    flat_map_push bytes [] value = sym (append-nil (bytes value))
    flat_map_push bytes (x ∷ read) value = append_assoc (bytes x) (flat_map bytes read) (bytes value) ∙ ap (λ (z : List ℕ). bytes x ++ z) (flat_map_push bytes read value)

-- no list goes on where no value is
pub list_none : {V : Type 0} (InOrder : List V → Type 0) (HasForm : V → Type 0) (bytes : V → List ℕ) → IsOne HasForm bytes → (count : ℕ) (read : List V) (text left : List ℕ) → length read < count → AllByRecursion HasForm read → text ≡ list_row bytes read left
    → ((value : V) (rest : List ℕ) → HasForm value → left ≡ bytes value ++ rest → ⊥) → LeadsNone (AreListed InOrder HasForm count) (list_row bytes) text
list_none InOrder HasForm bytes one count read text left less p e none = λ list rest are f.
    let next = goes_next InOrder HasForm bytes one count read list text left rest less p are e f in
    none next.value (list_row bytes next.more rest) next.form next.behind

-- nor where the value does not come behind those that were read
pub list_stops : {V : Type 0} (InOrder : List V → Type 0) (HasForm : V → Type 0) (bytes : V → List ℕ) → IsOne HasForm bytes → (count : ℕ) (read : List V) (value : V) (text left behind : List ℕ) → length read < count → AllByRecursion HasForm read → text ≡ list_row bytes read left → HasForm value → left ≡ bytes value ++ behind
    → ((more : List V) → InOrder (read ++ value ∷ more) → ⊥) → LeadsNone (AreListed InOrder HasForm count) (list_row bytes) text
list_stops {V} InOrder HasForm bytes one count read value text left behind less p e form found not = λ list rest are f.
    let next = goes_next InOrder HasForm bytes one count read list text left rest less p are e f in
    let same = one next.value value left (list_row bytes next.more rest) behind next.form form next.behind found in
    let whole : list ≡ read ++ value ∷ next.more = next.whole ∙ ap (λ (z : V). read ++ z ∷ next.more) same.0 in
    not next.more (subst InOrder whole are.order)
