-- Lists of entries, and the intents that they stand for.
use Rattle.std.proofs.Common.{Less, ◌≡◌, ◌||◌, Bool, true, false, cond, List, [], ◌∷◌, map, reverse, filter, Option, Some, refl, sym, ap, subst, ◌∙◌, ◌++◌, ℕ}
use Rattle.std.specs.List.{AllByRecursion, dedup, dedup_from, list_any}
use Rattle.std.specs.List.Sorted.{IsStrictlySortedBy}
use Rattle.std.proofs.lemmas.List.{reverse-append, map-append}
use Rattle.intent_book.specs.declared.intent.Intent.{Intent}
use Rattle.kept_entries.specs.declared.entries.Entry.{Entry}
use Rattle.kept_entries.specs.Turns.{placed}
use Rattle.kept_entries.specs.inner.Choosing.{with_room, StandFor, compared, entry_cmp}
use Rattle.kept_entries.proofs.Chosen.{same_key}

abbrev pub intent_of : Entry → Intent
intent_of entry = entry.intent

abbrev pub intents_of : List Entry → List Intent
intents_of entries = map intent_of entries

-- the room of the entry is that which is told of its intent
abbrev pub IsAt : (Intent → Option ℕ) → Entry → Type 0
IsAt room entry = Some entry.room ≡ room entry.intent

-- ---- what entries stand for

module _ (room : Intent → Option ℕ) where
  pub stand_intents : (entries : List Entry) (intents : List Intent) → StandFor room entries intents → intents_of entries ≡ intents
  stand_intents [] [] is = refl
  stand_intents [] (intent ∷ later) is = absurd (cc)
  stand_intents (entry ∷ entries) [] is = absurd (cc)
  stand_intents (entry ∷ entries) (intent ∷ later) is =
      let first : placed entry ≡ with_room room intent = cc in
      let more : StandFor room entries later = cc in
      let rest = stand_intents entries later more in
      λ i. (first i).1 ∷ rest i

  pub stand_rooms : (entries : List Entry) (intents : List Intent) → StandFor room entries intents → AllByRecursion (IsAt room) entries
  stand_rooms [] intents is = tt
  stand_rooms (entry ∷ entries) [] is = absurd (cc)
  stand_rooms (entry ∷ entries) (intent ∷ later) is =
      let first : placed entry ≡ with_room room intent = cc in
      let more : StandFor room entries later = cc in
      ((λ i. (first i).0) ∙ sym (λ i. room (first i).1), stand_rooms entries later more)

  stand_own : (entries : List Entry) → AllByRecursion (IsAt room) entries → StandFor room entries (intents_of entries)
  stand_own [] all = refl
  stand_own (entry ∷ entries) all =
      let rest = stand_own entries all.1 in
      let first : Some entry.room ≡ room entry.intent = all.0 in
      λ i. (first i, entry.intent) ∷ rest i

  pub stand_for : (entries : List Entry) (intents : List Intent) → intents_of entries ≡ intents → AllByRecursion (IsAt room) entries → StandFor room entries intents
  stand_for entries intents is all = subst (StandFor room entries) is (stand_own entries all)

-- ---- steps, on entries and on their intents

pub intents_filter : (test : Intent → Bool) (entries : List Entry) → intents_of (filter (λ entry. test entry.intent) entries) ≡ filter test (intents_of entries)
intents_filter test [] = refl
intents_filter test (entry ∷ entries) =
    let rest = intents_filter test entries in
    elim (test entry.intent) as (λ b. intents_of (cond b (entry ∷ filter (λ (e : Entry). test e.intent) entries) (filter (λ (e : Entry). test e.intent) entries)) ≡ cond b (entry.intent ∷ filter test (intents_of entries)) (filter test (intents_of entries))) [
      | true ↦ ap (λ (list : List Intent). entry.intent ∷ list) rest
      | false ↦ rest
    ]

pub intents_any : (test : Intent → Bool) (entries : List Entry) → list_any (λ entry. test entry.intent) entries ≡ list_any test (intents_of entries)
intents_any test [] = refl
intents_any test (entry ∷ entries) = ap (λ (b : Bool). test entry.intent || b) (intents_any test entries)

pub intents_reverse : (entries : List Entry) → intents_of (reverse entries) ≡ reverse (intents_of entries)
intents_reverse [] = refl
intents_reverse (entry ∷ entries) =
    ap intents_of (reverse-append (entry ∷ []) entries)
    ∙ map-append intent_of (reverse entries) (entry ∷ [])
    ∙ ap (λ (list : List Intent). list ++ entry.intent ∷ []) (intents_reverse entries)
    ∙ sym (reverse-append (entry.intent ∷ []) (intents_of entries))

abbrev pub same_entry_key : Entry → Entry → Bool
same_entry_key one other = same_key one.intent other.intent

dedup_more : (first : Entry) (entries : List Entry) → intents_of (dedup_from same_entry_key first entries) ≡ dedup_from same_key first.intent (intents_of entries)
dedup_more first [] = refl
dedup_more first (entry ∷ entries) =
    let again = dedup_more first entries in
    let rest = dedup_more entry entries in
    elim (same_key entry.intent first.intent) as (λ b. intents_of (cond b (dedup_from same_entry_key first entries) (first ∷ dedup_from same_entry_key entry entries)) ≡ cond b (dedup_from same_key first.intent (intents_of entries)) (first.intent ∷ dedup_from same_key entry.intent (intents_of entries))) [
      | true ↦ again
      | false ↦ ap (λ (list : List Intent). first.intent ∷ list) rest
    ]

pub intents_dedup : (entries : List Entry) → intents_of (dedup same_entry_key entries) ≡ dedup same_key (intents_of entries)
intents_dedup [] = refl
intents_dedup (entry ∷ entries) = dedup_more entry entries

all_less : (entry : Entry) (entries : List Entry) → AllByRecursion (λ other. entry_cmp entry other ≡ Less) entries → AllByRecursion (λ other. compared entry.intent other ≡ Less) (intents_of entries)
all_less entry [] all = tt
all_less entry (other ∷ entries) all = (all.0, all_less entry entries all.1)

pub intents_sorted : (entries : List Entry) → IsStrictlySortedBy entry_cmp entries → IsStrictlySortedBy compared (intents_of entries)
unfolding IsStrictlySortedBy
intents_sorted [] up = tt
intents_sorted (entry ∷ entries) up = (all_less entry entries up.0, intents_sorted entries up.1)
