-- Canonical lists rise by the numbers of their intents.
use Rattle.std.proofs.Common.{◌≡◌, ℕ, false, ◌+◌, ◌*◌, ◌^◌, ◌<◌, ◌≤◌, List, [], ◌∷◌, length, get_or, IsSortedByKey, arith}
use Rattle.std.proofs.lemmas.Bool.Decides.{nat_tests}
use Rattle.std.proofs.lemmas.List.Elements.{All-from_recursion, All-get_or, recursion_from_All}
use Rattle.std.proofs.lemmas.Map.Keys.{apart_from_distinct}
use Rattle.std.specs.List.{AllByRecursion, IsDistinct}
use Rattle.std.specs.Ordering.{is_lt}
use Rattle.game_tables.specs.Actions.{action_number}
use Rattle.intent_book.specs.Records.{place, place_cmp, place_eq, same_place}
use Rattle.intent_book.specs.declared.intent.Intent.{Intent}
use Rattle.world_bytes.specs.Forms.{HasIntentForm}
use Rattle.tick_journal.specs.TickForms.{AreCanonicalOf, IsRisingBy}
use Rattle.tick_journal.specs.inner.Reading.{IsIntentOf, rank}
use Rattle.tick_journal.proofs.Rising.{rising_at, rising_from}

-- ---- pairs of numbers

pair_up : (a b c d : ℕ) → b < 2 ^ 64 → d < 2 ^ 64 → is_lt (place_cmp (c, d) (a, b)) ≡ false → place_eq (a, b) (c, d) ≡ false → a * 2 ^ 64 + b < c * 2 ^ 64 + d
pair_up a b c d p q up apart = grind (arith, nat_tests)

pair_not_down : (a b c d : ℕ) → b < 2 ^ 64 → d < 2 ^ 64 → a * 2 ^ 64 + b < c * 2 ^ 64 + d → is_lt (place_cmp (c, d) (a, b)) ≡ false
pair_not_down a b c d p q up = grind (arith, nat_tests)

pair_apart : (a b c d : ℕ) → a * 2 ^ 64 + b < c * 2 ^ 64 + d → place_eq (a, b) (c, d) ≡ false
pair_apart a b c d up = grind (arith, nat_tests)

-- ---- lists

abbrev number : Intent → ℕ
number intent = action_number intent.action

actor_at : (intents : List Intent) (k : ℕ) (d : Intent) → AllByRecursion HasIntentForm intents → k < length intents → (get_or intents k d).actor < 2 ^ 64
actor_at intents k d forms within = (All-get_or HasIntentForm intents k d within (All-from_recursion HasIntentForm intents forms)).actor

canonical_rises : (intents : List Intent) → AllByRecursion HasIntentForm intents → IsSortedByKey place place_cmp intents → IsDistinct same_place intents → IsRisingBy rank intents
canonical_rises intents forms sorted distinct =
    rising_from rank intents (λ k d within.
    let one = get_or intents k d in
    let other = get_or intents (k + 1) d in
    pair_up (number one) one.actor (number other) other.actor (actor_at intents k d forms (omega arith)) (actor_at intents (k + 1) d forms within)
    (sorted k d (omega arith) within) (apart_from_distinct same_place intents k (k + 1) d distinct (omega arith) within))

rising_sorted : (intents : List Intent) → AllByRecursion HasIntentForm intents → IsRisingBy rank intents → IsSortedByKey place place_cmp intents
rising_sorted intents forms rising = λ k d from within.
    let one = get_or intents k d in
    let other = get_or intents (k + 1) d in
    pair_not_down (number one) one.actor (number other) other.actor (actor_at intents k d forms (omega arith)) (actor_at intents (k + 1) d forms within)
    (rising_at rank intents k d rising within)

rising_distinct : (intents : List Intent) → IsRisingBy rank intents → IsDistinct same_place intents
unfolding IsDistinct
rising_distinct [] rising = tt
rising_distinct (x ∷ intents) rising = (apart x intents rising.0, rising_distinct intents rising.1)
  where
    apart : (x : Intent) (intents : List Intent) → AllByRecursion (λ later. rank x < rank later) intents → AllByRecursion (λ later. same_place x later ≡ false) intents
    apart x [] all = tt
    apart x (y ∷ intents) all = (pair_apart (number x) x.actor (number y) y.actor all.0, apart x intents all.1)

-- ---- a player's list

forms_of : (player : ℕ) (intents : List Intent) → AllByRecursion (IsIntentOf player) intents → AllByRecursion HasIntentForm intents
forms_of player [] all = tt
forms_of player (x ∷ intents) all = let first = all.0 in (first.form, forms_of player intents all.1)

owns_of : (player : ℕ) (intents : List Intent) → AllByRecursion (IsIntentOf player) intents → AllByRecursion (λ entry. entry.player ≡ player) intents
owns_of player [] all = tt
owns_of player (x ∷ intents) all = let first = all.0 in (first.own, owns_of player intents all.1)

both_of : (player : ℕ) (intents : List Intent) → AllByRecursion HasIntentForm intents → AllByRecursion (λ entry. entry.player ≡ player) intents → AllByRecursion (IsIntentOf player) intents
both_of player [] forms own = tt
both_of player (x ∷ intents) forms own = (record { form = forms.0; own = own.0 }, both_of player intents forms.1 own.1)

pub rising_canonical : (player : ℕ) (intents : List Intent) → AllByRecursion (IsIntentOf player) intents → IsRisingBy rank intents → length intents ≤ 4096 → AreCanonicalOf player intents
rising_canonical player intents all rising most =
    let forms = forms_of player intents all in
    record {
      own = All-from_recursion (λ (entry : Intent). entry.player ≡ player) intents (owns_of player intents all);
      most = most;
      sorted = rising_sorted intents forms rising;
      distinct = rising_distinct intents rising;
      forms = forms;
    }

pub canonical_intents : (player : ℕ) (intents : List Intent) → AreCanonicalOf player intents → AllByRecursion (IsIntentOf player) intents
canonical_intents player intents are =
    both_of player intents are.forms (recursion_from_All (λ (entry : Intent). entry.player ≡ player) intents are.own)

pub canonical_rising : (player : ℕ) (intents : List Intent) → AreCanonicalOf player intents → IsRisingBy rank intents
canonical_rising player intents are = canonical_rises intents are.forms are.sorted are.distinct

pub canonical_count : (player : ℕ) (intents : List Intent) → AreCanonicalOf player intents → length intents < 2 ^ 32
canonical_count player intents are =
    let most = are.most in
    omega arith
