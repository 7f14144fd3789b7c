-- What each step makes of entries.
use Rattle.std.proofs.Common.{Less, Equal, Greater, ◌≡◌, ℕ, suc, ◌≤◌, ◌==◌, ◌&&◌, not, Bool, List, [], ◌∷◌, reverse, filter, sym, ap, subst, ◌∙◌, arith, IsPermutation, IsSortedByKey}
use Rattle.std.specs.declared.cmp.Ordering.{Ordering}
use Rattle.std.specs.Ordering.{nat_cmp, is_lt, is_eq, ordering_reverse}
use Rattle.std.specs.Cmp.{nat_cmp_total, unsigned_tied}
use Rattle.std.specs.List.{AllByRecursion, dedup, list_any}
use Rattle.std.specs.List.Sorted.{IsNonDecreasingBy, IsStableByKey, IsStrictlySortedBy, ties}
use Rattle.std.proofs.lemmas.List.Elements.{All-from_recursion, recursion_from_All}
use Rattle.std.proofs.lemmas.List.Filters.{All-dedup}
use Rattle.std.proofs.lemmas.List.Sorted.{All-permutation, IsNonDecreasingBy-from_sort, IsPermutation-reverse}
use Rattle.room_table.proofs.Rising.{all_filter}
use Rattle.game_tables.specs.Actions.{action_number}
use Rattle.game_tables.specs.declared.action.Action.{Action}
use Rattle.intent_book.specs.declared.intent.Intent.{Intent}
use Rattle.world_rules.specs.Intents.{last_of_each, overrules, undropped}
use Rattle.kept_entries.specs.declared.entries.Entry.{Entry}
use Rattle.kept_entries.specs.inner.Choosing.{Key, key, key_cmp, compared, entry_cmp, by_actor, by_action, is_of, stays, Makes}
use Rattle.kept_entries.proofs.Chosen.{kept_by_actor, same_key}
use Rattle.kept_entries.proofs.Standing.{intents_of, IsAt, stand_intents, stand_rooms, stand_for, intents_filter, intents_any, intents_reverse, intents_dedup, intents_sorted, same_entry_key}
use Rattle.kept_entries.proofs.Turns.{number_of, IsByNumber, by_action_is}

abbrev pub entry_key : Entry → Key
entry_key entry = key entry.intent

abbrev pub entry_number : Entry → ℕ
entry_number entry = number_of entry.intent

moved : (P : Entry → Type 0) (one other : List Entry) → IsPermutation one other → AllByRecursion P one → AllByRecursion P other
moved P one other same all = recursion_from_All P other (All-permutation P one other same (All-from_recursion P one all))

-- ---- the last of each

ties_alike : (turned sorted : List Entry) → IsStableByKey entry_key key_cmp turned sorted → (x : Intent) → filter (ties (λ a b. is_lt (compared a b)) x) (intents_of sorted) ≡ filter (ties (λ a b. is_lt (compared a b)) x) (intents_of turned)
ties_alike turned sorted stable x =
    let test : Intent → Bool = ties (λ a b. is_lt (compared a b)) x in
    sym (intents_filter test sorted) ∙ ap intents_of (stable (record { room = 0; intent = x })) ∙ intents_filter test turned

pub makes_last : (old sorted left : List Entry) → left ≡ dedup same_entry_key sorted → IsStrictlySortedBy entry_cmp left → IsPermutation (reverse old) sorted → IsStableByKey entry_key key_cmp (reverse old) sorted
    → Makes (λ intents. by_actor (last_of_each intents)) old left
makes_last old sorted left is strict same stable room intents stand =
    let wanted = stand_intents room old intents stand in
    let turned : intents_of (reverse old) ≡ reverse intents = intents_reverse old ∙ ap reverse wanted in
    let made : intents_of left ≡ dedup same_key (intents_of sorted) = ap intents_of is ∙ intents_dedup sorted in
    let order : IsStrictlySortedBy compared (dedup same_key (intents_of sorted)) = subst (IsStrictlySortedBy compared) made (intents_sorted left strict) in
    let alike : (x : Intent) → filter (ties (λ a b. is_lt (compared a b)) x) (intents_of sorted) ≡ filter (ties (λ a b. is_lt (compared a b)) x) (reverse intents) = λ x. ties_alike (reverse old) sorted stable x ∙ ap (filter (ties (λ a b. is_lt (compared a b)) x)) turned in
    let rooms = moved (IsAt room) (reverse old) sorted same (moved (IsAt room) old (reverse old) (IsPermutation-reverse old) (stand_rooms room old intents stand)) in
    let kept = recursion_from_All (IsAt room) (dedup same_entry_key sorted) (All-dedup same_entry_key (IsAt room) sorted (All-from_recursion (IsAt room) sorted rooms)) in
    stand_for room left (by_actor (last_of_each intents)) (made ∙ kept_by_actor intents (intents_of sorted) order alike) (subst (AllByRecursion (IsAt room)) (sym is) kept)

-- ---- without those that are overruled

stays_alike : (entries : List Entry) (intent : Intent) → not (list_any (λ (other : Entry). overrules other.intent intent) entries) ≡ not (list_any (λ one. overrules one intent) (intents_of entries))
stays_alike entries intent = ap not (intents_any (λ one. overrules one intent) entries)

pub makes_undropped : (entries : List Entry) → Makes undropped entries (filter (stays entries) entries)
makes_undropped entries room intents stand =
    let wanted = stand_intents room entries intents stand in
    let test : Intent → Bool = λ intent. not (list_any (λ (other : Entry). overrules other.intent intent) entries) in
    let same : intents_of (filter (stays entries) entries) ≡ undropped (intents_of entries) = intents_filter test entries ∙ (λ i. filter (λ intent. stays_alike entries intent i) (intents_of entries)) in
    stand_for room (filter (stays entries) entries) (undropped intents) (same ∙ ap undropped wanted) (all_filter (IsAt room) (stays entries) entries (stand_rooms room entries intents stand))

-- ---- action by action

number_ties_as : (r s : Ordering) → s ≡ ordering_reverse r → (not (is_lt r) && not (is_lt s)) ≡ is_eq s
number_ties_as Less s is = ap is_eq (sym is)
number_ties_as Equal s is = ap (λ (o : Ordering). not (is_lt o)) is ∙ ap is_eq (sym is)
number_ties_as Greater s is = ap (λ (o : Ordering). not (is_lt o)) is ∙ ap is_eq (sym is)

number_ties : (m n : ℕ) → (not (is_lt (nat_cmp m n)) && not (is_lt (nat_cmp n m))) ≡ (n == m)
number_ties m n = number_ties_as (nat_cmp m n) (nat_cmp n m) (nat_cmp_total.antisymm n m) ∙ unsigned_tied n m

-- an entry of an action
abbrev of_action : Action → Entry
of_action action = record { room = 0; intent = record { player = 0; action = action; actor = 0; target = 0; amount = 0; body = [] } }

actions_alike : (old sorted : List Entry) → IsStableByKey entry_number nat_cmp old sorted → (action : Action) → filter (is_of action) (intents_of sorted) ≡ filter (is_of action) (intents_of old)
actions_alike old sorted stable action =
    sym (intents_filter (is_of action) sorted)
    ∙ ap intents_of ((λ i. filter (λ (entry : Entry). sym (number_ties (action_number action) (entry_number entry)) i) sorted)
    ∙ stable (of_action action)
    ∙ (λ i. filter (λ (entry : Entry). number_ties (action_number action) (entry_number entry) i) old))
    ∙ intents_filter (is_of action) old

all_up : (number : ℕ) (entries : List Entry) → AllByRecursion (λ entry. number ≤ entry_number entry) entries → AllByRecursion (λ intent. number ≤ number_of intent) (intents_of entries)
all_up number [] all = tt
all_up number (entry ∷ entries) all = (all.0, all_up number entries all.1)

by_number : (entries : List Entry) → IsNonDecreasingBy entry_number entries → IsByNumber (intents_of entries)
by_number [] up = tt
by_number (entry ∷ entries) up = (
  all_up (entry_number entry) entries (recursion_from_All (λ other. entry_number entry ≤ entry_number other) entries (λ k d within. up 0 (suc k) d (omega arith) (omega arith))),
  by_number entries (λ i j d less within. up (suc i) (suc j) d (omega arith) (omega arith)),
)

pub makes_by_action : (old sorted : List Entry) → IsPermutation old sorted → IsSortedByKey entry_number nat_cmp sorted → IsStableByKey entry_number nat_cmp old sorted → Makes by_action old sorted
makes_by_action old sorted same up stable room intents stand =
    let wanted = stand_intents room old intents stand in
    stand_for room sorted (by_action intents)
    (by_action_is (intents_of old) (intents_of sorted) (by_number sorted (IsNonDecreasingBy-from_sort entry_number sorted up)) (actions_alike old sorted stable) ∙ ap by_action wanted)
    (moved (IsAt room) old sorted same (stand_rooms room old intents stand))
