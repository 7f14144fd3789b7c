-- Entries in order, and those of them that pass a test.
use Rattle.std.proofs.Common.{◌≡◌, ◌⊎◌, inl, inr, ℕ, ◌<◌, ◌≤◌, ◌==◌, ◌&&◌, ◌||◌, if◌then◌else◌, Bool, true, false, cond, List, [], ◌∷◌, refl, sym, ap, ◌∙◌, arith}
use Rattle.std.specs.Prelude.{nat_lt}
use Rattle.std.specs.List.{AllByRecursion, filter}
use Rattle.std.proofs.lemmas.Bool.{eq-eqb, eqb-true, eqb-false, ltb-true, ltb-false, lt-ltb, and_from, and_parts, or_cases, or_parts, or_left, or_right}
use Rattle.intent_book.specs.declared.intent.Intent.{Intent}
use Rattle.world_rules.specs.Intents.{comes_before, put_in_order, in_order}

-- ---- by player, then by actor

Less : ℕ → ℕ → ℕ → ℕ → Type 0
Less a b c d = (a < c) ⊎ ((a ≡ c) × (b < d))

abbrev lex : ℕ → ℕ → ℕ → ℕ → Bool
lex a b c d = nat_lt a c || ((a == c) && nat_lt b d)

lex_true : (a b c d : ℕ) → lex a b c d ≡ true → Less a b c d
unfolding Less
lex_true a b c d is = elim (or_cases (nat_lt a c) ((a == c) && nat_lt b d) is) [
  | inl less ↦ inl (ltb-true a c less)
  | inr both ↦ let parts = and_parts (a == c) (nat_lt b d) both in inr (eqb-true a c parts.0, ltb-true b d parts.1)
]

lex_from : (a b c d : ℕ) → Less a b c d → lex a b c d ≡ true
unfolding Less
lex_from a b c d (inl less) = or_left (nat_lt a c) ((a == c) && nat_lt b d) (lt-ltb a c less)
lex_from a b c d (inr both) = or_right (nat_lt a c) ((a == c) && nat_lt b d) (and_from (a == c) (nat_lt b d) (eq-eqb a c both.0) (lt-ltb b d both.1))

lex_false : (a b c d : ℕ) → lex a b c d ≡ false → Less a b c d → ⊥
lex_false a b c d is less = let yes : lex a b c d ≡ true = lex_from a b c d less in absurd (cc)

lex_not : (a b c d : ℕ) → (Less a b c d → ⊥) → lex a b c d ≡ false
lex_not a b c d fails = elim (lex a b c d) as (λ t. lex a b c d ≡ t → t ≡ false) [ true ↦ λ is. absurd (fails (lex_true a b c d is)) | false ↦ λ is. refl ] refl

below : (a c e : ℕ) → a ≡ c → e ≤ a → (a ≡ e → ⊥) → e < c
below a c e level most apart = elim (nat_lt e a) as (λ t. nat_lt e a ≡ t → e < c) [
  | true ↦ λ is. let less = ltb-true e a is in omega arith
  | false ↦ λ is. let least : a ≤ e = ltb-false e a is in absurd (apart (omega arith))
] refl

less_trans : (a b c d e f : ℕ) → Less a b c d → (Less e f c d → ⊥) → Less a b e f
unfolding Less
less_trans a b c d e f (inl less) fails = elim (nat_lt a e) as (λ t. nat_lt a e ≡ t → (a < e) ⊎ ((a ≡ e) × (b < f))) [
  | true ↦ λ is. inl (ltb-true a e is)
  | false ↦ λ is. let most : e ≤ a = ltb-false a e is in absurd (fails (inl (omega arith)))
] refl
less_trans a b c d e f (inr both) fails = elim (nat_lt a e) as (λ t. nat_lt a e ≡ t → (a < e) ⊎ ((a ≡ e) × (b < f))) [
  | true ↦ λ is. inl (ltb-true a e is)
  | false ↦ λ is.
      let most : e ≤ a = ltb-false a e is in
      let level : a ≡ c = both.0 in
      let under : b < d = both.1 in
      elim (a == e) as (λ t. (a == e) ≡ t → (a < e) ⊎ ((a ≡ e) × (b < f))) [
        | true ↦ λ at.
            let same : a ≡ e = eqb-true a e at in
            elim (nat_lt b f) as (λ t. nat_lt b f ≡ t → (a < e) ⊎ ((a ≡ e) × (b < f))) [
              | true ↦ λ lt. inr (same, ltb-true b f lt)
              | false ↦ λ lt. let low : f ≤ b = ltb-false b f lt in absurd (fails (inr (omega arith, omega arith)))
            ] refl
        | false ↦ λ at. let apart = eqb-false a e at in absurd (fails (inl (below a c e level most apart)))
      ] refl
] refl

less_apart : (a b c d : ℕ) → Less a b c d → Less c d a b → ⊥
unfolding Less
less_apart a b c d (inl one) (inl other) = absurd (omega arith)
less_apart a b c d (inl one) (inr other) = let same : c ≡ a = other.0 in absurd (omega arith)
less_apart a b c d (inr one) (inl other) = let same : a ≡ c = one.0 in absurd (omega arith)
less_apart a b c d (inr one) (inr other) = let less : b < d = one.1 in let more : d < b = other.1 in absurd (omega arith)

-- what comes before an entry comes before all that do not
pub through : (one first other : Intent) → comes_before one first ≡ true → comes_before other first ≡ false → comes_before one other ≡ true
through one first other less fails =
    lex_from one.player one.actor other.player other.actor
    (less_trans one.player one.actor first.player first.actor other.player other.actor (lex_true one.player one.actor first.player first.actor less) (lex_false other.player other.actor first.player first.actor fails))

pub not_both : (one other : Intent) → comes_before one other ≡ true → comes_before other one ≡ false
not_both one other less = lex_not other.player other.actor one.player one.actor (less_apart one.player one.actor other.player other.actor (lex_true one.player one.actor other.player other.actor less))

-- of two of one actor that of the lesser player comes first
pub less_player : (one other : Intent) → comes_before one other ≡ true → one.actor ≡ other.actor → one.player < other.player
unfolding Less
less_player one other less same = elim (lex_true one.player one.actor other.player other.actor less) [
  | inl first ↦ first
  | inr level ↦ let under : one.actor < other.actor = level.1 in absurd (omega arith)
]

-- two of which neither comes before the other are of one player and actor
pub tie : (one other : Intent) → comes_before one other ≡ false → comes_before other one ≡ false → (one.player ≡ other.player) × (one.actor ≡ other.actor)
tie one other fails also =
    let first = or_parts (nat_lt one.player other.player) ((one.player == other.player) && nat_lt one.actor other.actor) fails in
    let second = or_parts (nat_lt other.player one.player) ((other.player == one.player) && nat_lt other.actor one.actor) also in
    let most : other.player ≤ one.player = ltb-false one.player other.player first.0 in
    let least : one.player ≤ other.player = ltb-false other.player one.player second.0 in
    let player : one.player ≡ other.player = omega arith in
    let high : other.actor ≤ one.actor = ltb-false one.actor other.actor (sym (ap (λ b. b && nat_lt one.actor other.actor) (eq-eqb one.player other.player player)) ∙ first.1) in
    let low : one.actor ≤ other.actor = ltb-false other.actor one.actor (sym (ap (λ b. b && nat_lt other.actor one.actor) (eq-eqb other.player one.player (sym player))) ∙ second.1) in
    (player, omega arith)

-- ---- lists in order

-- none of these comes before the entry
abbrev pub NoneBefore : Intent → List Intent → Type 0
NoneBefore entry list = AllByRecursion (λ other. comes_before other entry ≡ false) list

abbrev pub IsInOrder : List Intent → Type 0
IsInOrder [] = Unit {0}
IsInOrder (entry ∷ later) = NoneBefore entry later × IsInOrder later

-- the entry comes before each of these
abbrev pub IsBefore : Intent → List Intent → Type 0
IsBefore entry list = AllByRecursion (λ other. comes_before entry other ≡ true) list

before_all : (entry first : Intent) (later : List Intent) → comes_before entry first ≡ true → NoneBefore first later → IsBefore entry later
before_all entry first [] less none = tt
before_all entry first (other ∷ later) less none = (through entry first other less none.0, before_all entry first later less none.1)

none_of_before : (entry : Intent) (list : List Intent) → IsBefore entry list → NoneBefore entry list
none_of_before entry [] all = tt
none_of_before entry (other ∷ later) all = (not_both entry other all.0, none_of_before entry later all.1)

none_put : (first entry : Intent) (list : List Intent) → comes_before entry first ≡ false → NoneBefore first list → NoneBefore first (put_in_order entry list)
none_put first entry [] fails none = (fails, tt)
none_put first entry (other ∷ later) fails none =
    let rest = none_put first entry later fails none.1 in
    elim (comes_before entry other) as (λ b. NoneBefore first (if b then entry ∷ other ∷ later else other ∷ put_in_order entry later)) [ true ↦ (fails, none) | false ↦ (none.0, rest) ]

put_ordered : (entry : Intent) (list : List Intent) → IsInOrder list → IsInOrder (put_in_order entry list)
put_ordered entry [] order = (tt, tt)
put_ordered entry (first ∷ later) order =
    let rest = put_ordered entry later order.1 in
    elim (comes_before entry first) as (λ b. comes_before entry first ≡ b → IsInOrder (if b then entry ∷ first ∷ later else first ∷ put_in_order entry later)) [
      | true ↦ λ less. ((not_both entry first less, none_of_before entry later (before_all entry first later less order.0)), order)
      | false ↦ λ fails. (none_put first entry later fails order.0, rest)
    ] refl

pub in_order-ordered : (list : List Intent) → IsInOrder (in_order list)
in_order-ordered [] = tt
in_order-ordered (entry ∷ later) = put_ordered entry (in_order later) (in_order-ordered later)

put_first : (entry : Intent) (list : List Intent) → IsBefore entry list → put_in_order entry list ≡ entry ∷ list
put_first entry [] all = refl
put_first entry (first ∷ later) all = ap (λ b. if b then entry ∷ first ∷ later else first ∷ put_in_order entry later) all.0

shared : (entry first : Intent) (list : List Intent) → comes_before entry first ≡ false → (b : Bool) → first ∷ cond b (put_in_order entry list) list ≡ cond b (put_in_order entry (first ∷ list)) (first ∷ list)
shared entry first list fails true = sym (ap (λ b. if b then entry ∷ first ∷ list else first ∷ put_in_order entry list) fails)
shared entry first list fails false = refl

module _ (test : Intent → Bool) where
  before_filter : (entry : Intent) (list : List Intent) → IsBefore entry list → IsBefore entry (filter test list)
  before_filter entry [] all = tt
  before_filter entry (other ∷ later) all =
      let rest = before_filter entry later all.1 in
      elim (test other) as (λ b. IsBefore entry (cond b (other ∷ filter test later) (filter test later))) [ true ↦ (all.0, rest) | false ↦ rest ]

  filter_put : (entry : Intent) (list : List Intent) → IsInOrder list → filter test (put_in_order entry list) ≡ cond (test entry) (put_in_order entry (filter test list)) (filter test list)
  filter_put entry [] order = refl
  filter_put entry (first ∷ later) order =
      let rest = filter_put entry later order.1 in
      elim (comes_before entry first) as (λ b. comes_before entry first ≡ b → filter test (if b then entry ∷ first ∷ later else first ∷ put_in_order entry later) ≡ cond (test entry) (put_in_order entry (filter test (first ∷ later))) (filter test (first ∷ later))) [
        | true ↦ λ less.
            let all : IsBefore entry (first ∷ later) = (less, before_all entry first later less order.0) in
            ap (λ list. cond (test entry) list (filter test (first ∷ later))) (sym (put_first entry (filter test (first ∷ later)) (before_filter entry (first ∷ later) all)))
        | false ↦ λ fails. elim (test first) as (λ t. cond t (first ∷ filter test (put_in_order entry later)) (filter test (put_in_order entry later)) ≡ cond (test entry) (put_in_order entry (cond t (first ∷ filter test later) (filter test later))) (cond t (first ∷ filter test later) (filter test later))) [
          | true ↦ ap (λ list. first ∷ list) rest ∙ shared entry first (filter test later) fails (test entry)
          | false ↦ rest
        ]
      ] refl

  -- those of a list in order that pass a test are those that pass it, in order
  pub filter_in_order : (list : List Intent) → filter test (in_order list) ≡ in_order (filter test list)
  filter_in_order [] = refl
  filter_in_order (entry ∷ later) =
      filter_put entry (in_order later) (in_order-ordered later)
      ∙ elim (test entry) as (λ b. cond b (put_in_order entry (filter test (in_order later))) (filter test (in_order later)) ≡ in_order (cond b (entry ∷ filter test later) (filter test later))) [
        | true ↦ ap (put_in_order entry) (filter_in_order later)
        | false ↦ filter_in_order later
      ]
