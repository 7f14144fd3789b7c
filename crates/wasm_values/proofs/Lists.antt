-- Lists at the front of bytes.
use Rattle.std.proofs.Common.{◌≡◌, ℕ, ◌<◌, ◌+◌, List, [], ◌∷◌, ◌++◌, refl, ap, sym, ◌∙◌, append_assoc, length, length-append, arith, subst}
use Rattle.std.proofs.lemmas.List.{append-nil}
use Rattle.byte_fields.specs.Front.{Begins, BeginsOnly, BeginsNone}
use Rattle.wasm_values.specs.Spelling.{SpellsU32, SpellsEach, each_none, each_next, SpellsList, SpellsBytes}

-- One more text behind the others.
pub each_more : {V : Type 0} {Spells : List ℕ → V → Type 0} {texts text : List ℕ} {values : List V} {value : V} → SpellsEach Spells texts values → Spells text value → SpellsEach Spells (texts ++ text) (values ++ value ∷ [])
each_more {V} {Spells} {texts} {text} {values} {value} each_none s =
    let one : SpellsEach Spells (text ++ []) (value ∷ []) = each_next s each_none in
    rw append-nil at one
each_more {V} {Spells} {texts} {text} {values} {value} (each_next {text = front} {more = more} t ts) s = rw append_assoc (each_next t (each_more ts s))

-- What stands behind the first values of a list.
pub record Later (V : Type 0) (Spells : List ℕ → V → Type 0) (values done : List V) (left rest : List ℕ) : Type 0 where
  pub later : List V
  pub text : List ℕ
  pub spelled : SpellsEach Spells text later
  pub whole : left ≡ text ++ rest
  pub all : values ≡ done ++ later

pub later_start : {V : Type 0} (Spells : List ℕ → V → Type 0) (values : List V) (bytes rest : List ℕ) → Begins (SpellsEach Spells) bytes values rest → Later V Spells values [] bytes rest
later_start Spells values bytes rest (text, s, e) = record { later = values; text = text; spelled = s; whole = e; all = refl }

step : {V : Type 0} (Spells : List ℕ → V → Type 0) (values done : List V) (left rest new : List ℕ) (value : V) (later : List V) (text : List ℕ) → SpellsEach Spells text later → left ≡ text ++ rest → values ≡ done ++ later → length done < length values → BeginsOnly Spells left value new → Later V Spells values (done ++ value ∷ []) new rest
step {V} Spells values done left rest new value [] text s e all short only =
    let n : length values ≡ length done = ap length all ∙ ap length (append-nil done) in
    absurd (omega (arith, n))
step {V} Spells values done left rest new value (v ∷ vs) text (each_next {text = front} {more = more} t ts) e all short only =
    let first = only v (more ++ rest) (front, t, e ∙ append_assoc front more rest) in
    record {
      later = vs;
      text = more;
      spelled = ts;
      whole = sym first.1;
      all = all ∙ ap (λ z. done ++ z ∷ vs) first.0 ∙ sym (append_assoc done (value ∷ []) vs);
    }

pub later_step : {V : Type 0} (Spells : List ℕ → V → Type 0) (values done : List V) (left rest new : List ℕ) (value : V) → Later V Spells values done left rest → length done < length values → BeginsOnly Spells left value new → Later V Spells values (done ++ value ∷ []) new rest
later_step Spells values done left rest new value r short only = step Spells values done left rest new value r.later r.text r.spelled r.whole r.all short only

none : {V : Type 0} (Spells : List ℕ → V → Type 0) (values done : List V) (left rest : List ℕ) (later : List V) (text : List ℕ) → SpellsEach Spells text later → left ≡ text ++ rest → values ≡ done ++ later → length done < length values → BeginsNone Spells left → ⊥
none {V} Spells values done left rest [] text s e all short bad =
    let n : length values ≡ length done = ap length all ∙ ap length (append-nil done) in
    absurd (omega (arith, n))
none {V} Spells values done left rest (v ∷ vs) text (each_next {text = front} {more = more} t ts) e all short bad =
    bad v (more ++ rest) (front, t, e ∙ append_assoc front more rest)

pub later_none : {V : Type 0} (Spells : List ℕ → V → Type 0) (values done : List V) (left rest : List ℕ) → Later V Spells values done left rest → length done < length values → BeginsNone Spells left → ⊥
later_none Spells values done left rest r short bad = none Spells values done left rest r.later r.text r.spelled r.whole r.all short bad

end : {V : Type 0} (Spells : List ℕ → V → Type 0) (values done : List V) (left rest : List ℕ) (later : List V) (text : List ℕ) → SpellsEach Spells text later → left ≡ text ++ rest → values ≡ done ++ later → length values ≡ length done → (values ≡ done) × (rest ≡ left)
end {V} Spells values done left rest [] text each_none e all same = (all ∙ append-nil done, sym e)
end {V} Spells values done left rest (v ∷ vs) text s e all same =
    let n : length values ≡ length done + length (v ∷ vs) = ap length all ∙ length-append done (v ∷ vs) in
    absurd (omega (arith, n))

pub later_end : {V : Type 0} (Spells : List ℕ → V → Type 0) (values done : List V) (left rest : List ℕ) → Later V Spells values done left rest → length values ≡ length done → (values ≡ done) × (rest ≡ left)
later_end Spells values done left rest r same = end Spells values done left rest r.later r.text r.spelled r.whole r.all same

-- A list is its count, and then its entries.
pub list_begins : {V : Type 0} (Spells : List ℕ → V → Type 0) (bytes middle rest texts : List ℕ) (values : List V) (count : ℕ) → Begins SpellsU32 bytes count middle → SpellsEach Spells texts values → middle ≡ texts ++ rest → count ≡ length values → Begins (SpellsList Spells) bytes values rest
list_begins Spells bytes middle rest texts values count (front, s, e) each f same =
    let P : ℕ → Type 0 = λ n. SpellsU32 front n in
    (front ++ texts, (front, texts, subst P same s, each, refl), e ∙ ap (λ z. front ++ z) f ∙ sym (append_assoc front texts rest))

pub list_parts : {V : Type 0} (Spells : List ℕ → V → Type 0) (bytes rest : List ℕ) (values : List V) → Begins (SpellsList Spells) bytes values rest → (middle : List ℕ) × Begins SpellsU32 bytes (length values) middle × Begins (SpellsEach Spells) middle values rest
list_parts Spells bytes rest values (text, (front, texts, s, each, f), e) =
    (texts ++ rest, (front, s, e ∙ ap (λ z. z ++ rest) f ∙ append_assoc front texts rest), (texts, each, refl))

-- The entries behind the count that was read.
pub list_later : {V : Type 0} (Spells : List ℕ → V → Type 0) (bytes middle rest : List ℕ) (values : List V) (count : ℕ) → BeginsOnly SpellsU32 bytes count middle → Begins (SpellsList Spells) bytes values rest → (length values ≡ count) × Begins (SpellsEach Spells) middle values rest
list_later Spells bytes middle rest values count only b =
    let parts = list_parts Spells bytes rest values b in
    let first = only (length values) parts.0 parts.1 in
    (first.0, (parts.2.0, parts.2.1, sym first.1 ∙ parts.2.2))

pub list_none : {V : Type 0} (Spells : List ℕ → V → Type 0) (bytes : List ℕ) → BeginsNone SpellsU32 bytes → BeginsNone (SpellsList Spells) bytes
list_none Spells bytes bad = λ values rest b.
    let parts = list_parts Spells bytes rest values b in
    bad (length values) parts.0 parts.1

-- Two fronts of one length are the same.
front_same : {V : Type 0} (a b x y : List V) → length a ≡ length b → a ++ x ≡ b ++ y → (a ≡ b) × (x ≡ y)
front_same [] [] x y n e = (refl, e)
front_same [] (d ∷ ds) x y n e = absurd (cc)
front_same (c ∷ cs) [] x y n e = absurd (cc)
front_same (c ∷ cs) (d ∷ ds) x y n e =
    let heads : c ≡ d = cc in
    let tails : cs ++ x ≡ ds ++ y = cc in
    let counts : length cs ≡ length ds = omega arith in
    let rest = front_same cs ds x y counts tails in
    let front : cs ≡ ds = rest.0 in
    (cc, rest.1)

-- A list of bytes is its count, and then the bytes.
pub bytes_begins : (bytes middle rest content : List ℕ) (count : ℕ) → Begins SpellsU32 bytes count middle → middle ≡ content ++ rest → length content ≡ count → Begins SpellsBytes bytes content rest
bytes_begins bytes middle rest content count (front, s, e) f same =
    let P : ℕ → Type 0 = λ n. SpellsU32 front n in
    (front ++ content, (front, subst P (sym same) s, refl), e ∙ ap (λ z. front ++ z) f ∙ sym (append_assoc front content rest))

pub bytes_parts : (bytes rest content : List ℕ) → Begins SpellsBytes bytes content rest → (middle : List ℕ) × Begins SpellsU32 bytes (length content) middle × (middle ≡ content ++ rest)
bytes_parts bytes rest content (text, (front, s, f), e) =
    (content ++ rest, (front, s, e ∙ ap (λ z. z ++ rest) f ∙ append_assoc front content rest), refl)

pub bytes_only : (bytes middle rest content : List ℕ) (count : ℕ) → BeginsOnly SpellsU32 bytes count middle → middle ≡ content ++ rest → length content ≡ count → BeginsOnly SpellsBytes bytes content rest
bytes_only bytes middle rest content count only f same = λ other more b.
    let parts = bytes_parts bytes more other b in
    let first = only (length other) parts.0 parts.1 in
    front_same other content more rest (first.0 ∙ sym same) (sym parts.2 ∙ first.1 ∙ f)

pub bytes_none : (bytes : List ℕ) → BeginsNone SpellsU32 bytes → BeginsNone SpellsBytes bytes
bytes_none bytes none = λ content rest b. let parts = bytes_parts bytes rest content b in none (length content) parts.0 parts.1

pub bytes_short : (bytes middle : List ℕ) (count : ℕ) → BeginsOnly SpellsU32 bytes count middle → length middle < count → BeginsNone SpellsBytes bytes
bytes_short bytes middle count only short = λ content rest b.
    let parts = bytes_parts bytes rest content b in
    let first = only (length content) parts.0 parts.1 in
    let n : length middle ≡ length content + length rest = ap length (sym first.1 ∙ parts.2) ∙ length-append content rest in
    absurd (omega (arith, n, first.0))
