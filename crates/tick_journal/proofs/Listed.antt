-- Lists of values at the front of the same bytes, behind their number.
use Rattle.std.proofs.Common.{◌≡◌, ℕ, ◌<◌, ◌^◌, List, [], ◌∷◌, ◌++◌, length, sym, ap, ◌∙◌, refl, append_assoc}
use Rattle.std.specs.List.{AllByRecursion, flat_map}
use Rattle.byteorder.specs.Endian.{little_bytes}
use Rattle.object_store.proofs.Accounts.{all_push}
use Rattle.world_bytes.specs.inner.Rows.{LeadsNone}
use Rattle.world_bytes.proofs.Words.{behind_word, word_short}
use Rattle.tick_journal.specs.inner.Lists.{listed}
use Rattle.tick_journal.specs.inner.Reading.{before}
use Rattle.tick_journal.proofs.ListsAhead.{IsOne, Next, goes_next, list_longer, lists_one}

listed_parts : {V : Type 0} (form : V → List ℕ) (list : List V) (rest : List ℕ) → listed form list ++ rest ≡ little_bytes 4 (length list) ++ (flat_map form list ++ rest)
listed_parts form list rest = append_assoc (little_bytes 4 (length list)) (flat_map form list) rest

-- what stands behind a number that was read
pub behind_number : {V : Type 0} (form : V → List ℕ) (list : List V) (count : ℕ) (bytes left rest : List ℕ) → count < 2 ^ 32 → length list < 2 ^ 32 → bytes ≡ little_bytes 4 count ++ left → bytes ≡ listed form list ++ rest → (count ≡ length list) × (left ≡ flat_map form list ++ rest)
behind_number form list count bytes left rest p q e f =
    behind_word 4 count (length list) bytes left (flat_map form list ++ rest) p q e (f ∙ listed_parts form list rest)

-- two lists at the front of the same bytes are one
pub listed_one : {V : Type 0} (Has : V → Type 0) (form : V → List ℕ) → IsOne Has form → (a b : List V) (bytes r s : List ℕ) → AllByRecursion Has a → AllByRecursion Has b → length a < 2 ^ 32 → length b < 2 ^ 32 → bytes ≡ listed form a ++ r → bytes ≡ listed form b ++ s → (a ≡ b) × (r ≡ s)
listed_one Has form one a b bytes r s p q m n e f =
    let same = behind_number form b (length a) bytes (flat_map form a ++ r) s m n (e ∙ listed_parts form a r) f in
    lists_one Has form one a b (flat_map form a ++ r) r s same.0 p q refl same.1

-- ---- while a list is read

-- So many values were read behind the number, and these bytes are left.
pub record IsUnder {V : Type 0} (Has : V → Type 0) (form : V → List ℕ) (count : ℕ) (bytes : List ℕ) (read : List V) (left : List ℕ) : Type 0 where
  pub whole : bytes ≡ little_bytes 4 count ++ (flat_map form read ++ left)
  pub forms : AllByRecursion Has read

pub under_start : {V : Type 0} (Has : V → Type 0) (form : V → List ℕ) (count : ℕ) (bytes left : List ℕ) → bytes ≡ little_bytes 4 count ++ left → IsUnder Has form count bytes [] left
under_start Has form count bytes left e = record { whole = e; forms = tt }

pub under_more : {V : Type 0} (Has : V → Type 0) (form : V → List ℕ) (count : ℕ) (bytes : List ℕ) (read : List V) (value : V) (left rest : List ℕ) → IsUnder Has form count bytes read left → Has value → left ≡ form value ++ rest → IsUnder Has form count bytes (read ++ value ∷ []) rest
under_more Has form count bytes read value left rest under has e =
    let longer : flat_map form read ++ left ≡ flat_map form (read ++ value ∷ []) ++ rest = list_longer form read value (flat_map form read ++ left) left rest refl e in
    record {
      whole = under.whole ∙ ap (λ (z : List ℕ). little_bytes 4 count ++ z) longer;
      forms = all_push Has read value under.forms has;
    }

pub under_whole : {V : Type 0} (Has : V → Type 0) (form : V → List ℕ) (count : ℕ) (bytes : List ℕ) (list : List V) (rest : List ℕ) → IsUnder Has form count bytes list rest → length list ≡ count → bytes ≡ listed form list ++ rest
under_whole Has form count bytes list rest under size =
    under.whole ∙ ap (λ (n : ℕ). little_bytes 4 n ++ (flat_map form list ++ rest)) (sym size) ∙ sym (listed_parts form list rest)

under_next : {V : Type 0} (Has : V → Type 0) (form : V → List ℕ) → IsOne Has form → (count : ℕ) (bytes : List ℕ) (read list : List V) (left rest : List ℕ) → count < 2 ^ 32 → length read < count → IsUnder Has form count bytes read left → AllByRecursion Has list → length list < 2 ^ 32 → bytes ≡ listed form list ++ rest → Next Has form read list left rest
under_next {V} Has form one count bytes read list left rest fits less under p n f =
    let same = behind_number form list count bytes (flat_map form read ++ left) rest fits n under.whole f in
    let InOrder : List V → Type 0 = λ _. Unit {0} in
    goes_next InOrder Has form one count read list (flat_map form read ++ left) left rest less under.forms (record { order = tt; forms = p; counted = sym same.0 }) refl same.1

-- no list goes on where no value is
pub under_none : {V : Type 0} (Has : V → Type 0) (form : V → List ℕ) → IsOne Has form → (count : ℕ) (bytes : List ℕ) (read list : List V) (left rest : List ℕ) → count < 2 ^ 32 → length read < count → IsUnder Has form count bytes read left → LeadsNone Has (before form) left → AllByRecursion Has list → length list < 2 ^ 32 → bytes ≡ listed form list ++ rest → ⊥
under_none Has form one count bytes read list left rest fits less under none p n f =
    let next = under_next Has form one count bytes read list left rest fits less under p n f in
    none next.value (flat_map form next.more ++ rest) next.form next.behind

-- where a value is, the list goes on with it
pub under_value : {V : Type 0} (Has : V → Type 0) (form : V → List ℕ) → IsOne Has form → (count : ℕ) (bytes : List ℕ) (read list : List V) (value : V) (left behind rest : List ℕ) → count < 2 ^ 32 → length read < count → IsUnder Has form count bytes read left → Has value → left ≡ form value ++ behind → AllByRecursion Has list → length list < 2 ^ 32 → bytes ≡ listed form list ++ rest → (more : List V) × (list ≡ read ++ value ∷ more)
under_value {V} Has form one count bytes read list value left behind rest fits less under has e p n f =
    let next = under_next Has form one count bytes read list left rest fits less under p n f in
    let same = one next.value value left (flat_map form next.more ++ rest) behind next.form has next.behind e in
    (next.more, next.whole ∙ ap (λ (z : V). read ++ z ∷ next.more) same.0)

-- fewer bytes are no list
pub listed_short : {V : Type 0} (form : V → List ℕ) (list : List V) (bytes rest : List ℕ) → length bytes < 4 → bytes ≡ listed form list ++ rest → ⊥
listed_short form list bytes rest short e = word_short 4 (length list) bytes (flat_map form list ++ rest) short (e ∙ listed_parts form list rest)
