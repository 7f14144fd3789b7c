-- Entries by player, actor and action.
use Rattle.std.proofs.Common.{Less, Equal, Greater, ◌≡◌, ℕ, ◌==◌, ◌&&◌, ◌||◌, nat_lt, not, Bool, true, false, cond, refl, sym, ap, ◌∙◌}
use Rattle.std.specs.Prelude.{nat_eq}
use Rattle.std.specs.declared.cmp.Ordering.{Ordering}
use Rattle.std.specs.Ordering.{nat_cmp, eq_by_cmp, is_eq, is_lt, ordering_then, ordering_reverse}
use Rattle.std.specs.Cmp.{IsTotalOrder, nat_cmp_total, unsigned_tied}
use Rattle.std.specs.List.Sorted.{ties}
use Rattle.std.specs.FinMap.{nat_cmp-IsAntisymmetric}
use Rattle.std.proofs.lemmas.Cmp.{on_total, then_total, alike_right, tied_itself}
use Rattle.game_tables.specs.Actions.{action_number}
use Rattle.intent_book.specs.declared.intent.Intent.{Intent}
use Rattle.intent_book.specs.Records.{place_cmp, place_eq}
use Rattle.world_rules.specs.Intents.{same_entry, comes_before}
use Rattle.kept_entries.specs.inner.Choosing.{Key, key, key_cmp, compared}

-- ---- two numbers and three

pub places_total : IsTotalOrder place_cmp
places_total = then_total (on_total (λ (p : ℕ × ℕ). p.0) nat_cmp_total) (on_total (λ (p : ℕ × ℕ). p.1) nat_cmp_total)

pub keys_total : IsTotalOrder key_cmp
keys_total =
    then_total (then_total (on_total (λ (p : Key). p.0) nat_cmp_total) (on_total (λ (p : Key). p.1) nat_cmp_total))
    (on_total (λ (p : Key). p.2) nat_cmp_total)

pub total : IsTotalOrder compared
total = on_total key keys_total

both_equal : (r s : Ordering) → ordering_then r s ≡ Equal → (r ≡ Equal) × (s ≡ Equal)
both_equal Less s is = absurd (cc)
both_equal Equal s is = (refl, is)
both_equal Greater s is = absurd (cc)

pub places_same : (p q : ℕ × ℕ) → place_cmp p q ≡ Equal → p ≡ q
places_same p q is =
    let both = both_equal (nat_cmp p.0 q.0) (nat_cmp p.1 q.1) is in
    let first = nat_cmp-IsAntisymmetric p.0 q.0 both.0 in
    let second = nat_cmp-IsAntisymmetric p.1 q.1 both.1 in
    λ i. (first i, second i)

pub keys_same : (p q : Key) → key_cmp p q ≡ Equal → p ≡ q
keys_same p q is =
    let last = both_equal (ordering_then (nat_cmp p.0 q.0) (nat_cmp p.1 q.1)) (nat_cmp p.2 q.2) is in
    let both = both_equal (nat_cmp p.0 q.0) (nat_cmp p.1 q.1) last.0 in
    let first = nat_cmp-IsAntisymmetric p.0 q.0 both.0 in
    let second = nat_cmp-IsAntisymmetric p.1 q.1 both.1 in
    let third = nat_cmp-IsAntisymmetric p.2 q.2 last.1 in
    λ i. (first i, second i, third i)

then_equal : (r s : Ordering) → (is_eq r && is_eq s) ≡ is_eq (ordering_then r s)
then_equal Less s = refl
then_equal Equal s = refl
then_equal Greater s = refl

abbrev pub key_eq : Key → Key → Bool
key_eq one other = (nat_eq one.0 other.0 && nat_eq one.1 other.1) && nat_eq one.2 other.2

-- two places tie where both numbers are equal
pub place_ties : (p q : ℕ × ℕ) → place_eq p q ≡ eq_by_cmp place_cmp p q
place_ties p q =
    (λ i. sym (unsigned_tied p.0 q.0) i && sym (unsigned_tied p.1 q.1) i) ∙ then_equal (nat_cmp p.0 q.0) (nat_cmp p.1 q.1)

-- two keys tie where all three numbers are equal
pub key_ties : (p q : Key) → key_eq p q ≡ eq_by_cmp key_cmp p q
key_ties p q =
    (λ i. place_ties (p.0, p.1) (q.0, q.1) i && sym (unsigned_tied p.2 q.2) i)
    ∙ then_equal (ordering_then (nat_cmp p.0 q.0) (nat_cmp p.1 q.1)) (nat_cmp p.2 q.2)

pub is_equal : (r : Ordering) → is_eq r ≡ true → r ≡ Equal
is_equal Less is = absurd (cc)
is_equal Equal is = refl
is_equal Greater is = absurd (cc)

pub tied_same : (p q : Key) → eq_by_cmp key_cmp p q ≡ true → p ≡ q
tied_same p q is = keys_same p q (is_equal (key_cmp p q) is)

-- ---- entries by their keys

moved : (a b c : Bool) → ((a && b) && c) ≡ ((a && c) && b)
moved true true true = refl
moved true true false = refl
moved true false true = refl
moved true false false = refl
moved false b c = refl

-- entries of one player, action and actor tie
pub same_is : (one other : Intent) → same_entry one other ≡ eq_by_cmp key_cmp (key one) (key other)
same_is one other =
    moved (one.player == other.player) (action_number one.action == action_number other.action) (one.actor == other.actor)
    ∙ key_ties (key one) (key other)

ties_as : (r s : Ordering) → s ≡ ordering_reverse r → (not (is_lt r) && not (is_lt s)) ≡ is_eq r
ties_as Less s is = refl
ties_as Equal s is = ap (λ (o : Ordering). not (is_lt o)) is
ties_as Greater s is = ap (λ (o : Ordering). not (is_lt o)) is

pub ties_is : (one other : Intent) → ties (λ x y. is_lt (compared x y)) one other ≡ eq_by_cmp key_cmp (key one) (key other)
ties_is one other = ties_as (compared one other) (compared other one) (total.antisymm other one)

-- ---- which comes first

less_is : (r : Ordering) → is_lt r ≡ true → r ≡ Less
less_is Less is = refl
less_is Equal is = absurd (cc)
less_is Greater is = absurd (cc)

-- one that is below another is below all that aren't below that one
pub through : (one first other : Intent) → is_lt (compared one first) ≡ true → is_lt (compared other first) ≡ false → is_lt (compared one other) ≡ true
through one first other less fails =
    let below = less_is (compared one first) less in
    elim (compared other first) as (λ r. compared other first ≡ r → is_lt r ≡ false → is_lt (compared one other) ≡ true) [
      | Less ↦ λ is no. absurd (cc)
      | Equal ↦ λ is no. ap is_lt (alike_right total other first one is ∙ below)
      | Greater ↦ λ is no. ap is_lt (total.trans one first other below (total.antisymm first other ∙ ap ordering_reverse is))
    ] refl fails

pub not_both : (one other : Intent) → is_lt (compared one other) ≡ true → is_lt (compared other one) ≡ false
not_both one other less = ap is_lt (total.antisymm other one ∙ ap ordering_reverse (less_is (compared one other) less))

less_by : (b e c d : Bool) → (b || (e && c)) ≡ is_lt (ordering_then (cond b Less (cond e Equal Greater)) (cond c Less (cond d Equal Greater)))
less_by true e c d = refl
less_by false false c d = refl
less_by false true true d = refl
less_by false true false true = refl
less_by false true false false = refl

then_tied : (r t : Ordering) → t ≡ Equal → is_lt (ordering_then r t) ≡ is_lt r
then_tied Less t is = refl
then_tied Equal t is = ap is_lt is
then_tied Greater t is = refl

-- of one action an entry comes before another where its key is below
pub before_is : (one other : Intent) → action_number one.action ≡ action_number other.action → comes_before one other ≡ is_lt (compared one other)
before_is one other same =
    less_by (nat_lt one.player other.player) (one.player == other.player) (nat_lt one.actor other.actor) (one.actor == other.actor)
    ∙ sym (then_tied (place_cmp (one.player, one.actor) (other.player, other.actor)) (nat_cmp (action_number one.action) (action_number other.action))
    (ap (λ (n : ℕ). nat_cmp n (action_number other.action)) same ∙ tied_itself nat_cmp_total (action_number other.action)))
