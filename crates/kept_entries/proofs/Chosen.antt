-- The last entry of each player, actor and action, by their keys, is what a stable sort of the list from its end leaves of the first of each.
use Rattle.std.proofs.Common.{Less, Equal, Greater, ◌≡◌, ◌&&◌, ◌||◌, if◌then◌else◌, Bool, true, false, cond, T, List, [], ◌∷◌, ◌++◌, map, reverse, filter, Option, Some, None, is_some, refl, sym, ap, subst, ◌∙◌}
use Rattle.std.specs.declared.cmp.Ordering.{Ordering}
use Rattle.std.specs.Ordering.{eq_by_cmp, is_eq, is_lt}
use Rattle.std.specs.List.{AllByRecursion, dedup, dedup_from, list_any}
use Rattle.std.specs.List.Sorted.{ties, IsStrictlySortedBy}
use Rattle.std.specs.Option.{option_or}
use Rattle.std.specs.FinMap.Entries.{by_order, find, put, below_all, is_sorted, is_sorted-put, find-put, same_entries}
use Rattle.std.proofs.lemmas.List.{reverse-append}
use Rattle.intent_book.specs.declared.intent.Intent.{Intent}
use Rattle.world_rules.specs.Intents.{same_entry, last_of_each}
use Rattle.kept_entries.specs.inner.Choosing.{Key, key, key_cmp, compared, put_by_actor, by_actor}
use Rattle.kept_entries.proofs.Keys.{keys_total, keys_same, key_eq, key_ties, tied_same, same_is, ties_is}

-- ---- lists of entries by their keys

abbrev Keyed : Type 0
Keyed = List (Key × Intent)

abbrev keyed : List Intent → Keyed
keyed list = map (λ intent. (key intent, intent)) list

abbrev found : Key → List Intent → Option Intent
found q list = find key_cmp q (keyed list)

unkeyed : (list : List Intent) → map (λ (e : Key × Intent). e.1) (keyed list) ≡ list
unkeyed [] = refl
unkeyed (intent ∷ later) = ap (λ (rest : List Intent). intent ∷ rest) (unkeyed later)

-- Each key stands once.
abbrev AreOnce : List Intent → Type 0
AreOnce [] = Unit {0}
AreOnce (intent ∷ later) = (found (key intent) later ≡ None) × AreOnce later

put_is : (intent : Intent) (list : List Intent) → found (key intent) list ≡ None → keyed (put_by_actor intent list) ≡ put key_cmp (key intent) intent (keyed list)
put_is intent [] none = refl
put_is intent (first ∷ later) none =
    let rest = put_is intent later in
    elim (compared intent first) as (λ r. cond (is_eq r) (Some first) (found (key intent) later) ≡ None
    → keyed (if is_lt r then intent ∷ first ∷ later else first ∷ put_by_actor intent later) ≡ by_order r ((key intent, intent) ∷ keyed (first ∷ later)) ((key first, intent) ∷ keyed later) ((key first, first) ∷ put key_cmp (key intent) intent (keyed later))) [
      | Less ↦ λ is. refl
      | Equal ↦ λ is. absurd (cc)
      | Greater ↦ λ is. ap (λ (more : Keyed). (key first, first) ∷ more) (rest is)
    ] none

-- entries in order are sorted, and the same is found in them
record IsInOrder (list : List Intent) : Type 0 where
  sorted : T (is_sorted key_cmp (keyed (by_actor list)))
  finds : (q : Key) → found q (by_actor list) ≡ found q list

in_order_is : (list : List Intent) → AreOnce list → IsInOrder list
in_order_is [] once = record { sorted = tt; finds = λ q. refl }
in_order_is (intent ∷ later) once =
    let rest = in_order_is later once.1 in
    let is = put_is intent (by_actor later) (rest.finds (key intent) ∙ once.0) in
    record {
      sorted = subst (λ (es : Keyed). T (is_sorted key_cmp es)) (sym is) (is_sorted-put key_cmp keys_total (key intent) intent (keyed (by_actor later)) rest.sorted);
      finds = λ q. ap (find key_cmp q) is ∙ find-put key_cmp keys_total q (key intent) intent (keyed (by_actor later)) ∙ ap (cond (eq_by_cmp key_cmp q (key intent)) (Some intent)) (rest.finds q);
    }

-- ---- the last of each

-- the last entry of a key
abbrev last : Key → List Intent → Option Intent
last q [] = None
last q (intent ∷ later) = option_or (last q later) (cond (eq_by_cmp key_cmp q (key intent)) (Some intent) None)

found_append : (q : Key) (xs ys : List Intent) → found q (xs ++ ys) ≡ option_or (found q xs) (found q ys)
found_append q [] ys = refl
found_append q (x ∷ xs) ys =
    let rest = found_append q xs ys in
    elim (eq_by_cmp key_cmp q (key x)) as (λ b. cond b (Some x) (found q (xs ++ ys)) ≡ option_or (cond b (Some x) (found q xs)) (found q ys)) [ true ↦ refl | false ↦ rest ]

found_reverse : (q : Key) (list : List Intent) → found q (reverse list) ≡ last q list
found_reverse q [] = refl
found_reverse q (intent ∷ later) = ap (found q) (reverse_cons intent later) ∙ found_append q (reverse later) (intent ∷ []) ∙ ap (λ (o : Option Intent). option_or o (cond (eq_by_cmp key_cmp q (key intent)) (Some intent) None)) (found_reverse q later)
  where
    reverse_cons : (x : Intent) (xs : List Intent) → reverse (x ∷ xs) ≡ reverse xs ++ x ∷ []
    reverse_cons x xs = reverse-append (x ∷ []) xs

or_some : (b : Bool) (rest : Option Intent) (o : Intent) → (b || is_some rest) ≡ is_some (option_or rest (cond b (Some o) None))
or_some true None o = refl
or_some true (Some r) o = refl
or_some false None o = refl
or_some false (Some r) o = refl

any_is : (intent : Intent) (list : List Intent) → list_any (same_entry intent) list ≡ is_some (last (key intent) list)
any_is intent [] = refl
any_is intent (first ∷ later) =
    (λ i. same_is intent first i || any_is intent later i) ∙ or_some (eq_by_cmp key_cmp (key intent) (key first)) (last (key intent) later) first

is_none : (o : Option Intent) → is_some o ≡ false → o ≡ None
is_none None is = refl
is_none (Some x) is = absurd (cc)

or_none : (o : Option Intent) → o ≡ option_or o None
or_none None = refl
or_none (Some x) = refl

shadowed : (o other : Option Intent) → is_some o ≡ true → o ≡ option_or o other
shadowed None other is = absurd (cc)
shadowed (Some x) other is = refl

record IsLastOfEach (list : List Intent) : Type 0 where
  once : AreOnce (last_of_each list)
  finds : (q : Key) → found q (last_of_each list) ≡ last q list

kept_later : (intent : Intent) (later : List Intent) (q : Key) → is_some (last (key intent) later) ≡ true → last q later ≡ last q (intent ∷ later)
kept_later intent later q some =
    elim (eq_by_cmp key_cmp q (key intent)) as (λ b. eq_by_cmp key_cmp q (key intent) ≡ b → last q later ≡ option_or (last q later) (cond b (Some intent) None)) [
      | true ↦ λ tie. shadowed (last q later) (Some intent) (ap (λ (k : Key). is_some (last k later)) (tied_same q (key intent) tie) ∙ some)
      | false ↦ λ tie. or_none (last q later)
    ] refl

kept_here : (intent : Intent) (later : List Intent) (q : Key) → is_some (last (key intent) later) ≡ false → cond (eq_by_cmp key_cmp q (key intent)) (Some intent) (last q later) ≡ last q (intent ∷ later)
kept_here intent later q none =
    elim (eq_by_cmp key_cmp q (key intent)) as (λ b. eq_by_cmp key_cmp q (key intent) ≡ b → cond b (Some intent) (last q later) ≡ option_or (last q later) (cond b (Some intent) None)) [
      | true ↦ λ tie. ap (λ (o : Option Intent). option_or o (Some intent)) (sym (is_none (last q later) (ap (λ (k : Key). is_some (last k later)) (tied_same q (key intent) tie) ∙ none)))
      | false ↦ λ tie. or_none (last q later)
    ] refl

last_is : (list : List Intent) → IsLastOfEach list
last_is [] = record { once = tt; finds = λ q. refl }
last_is (intent ∷ later) =
    let rest = last_is later in
    let any = any_is intent later in
    let both = elim (list_any (same_entry intent) later) as (λ b. list_any (same_entry intent) later ≡ b → (AreOnce (if b then last_of_each later else intent ∷ last_of_each later)) × ((q : Key) → found q (if b then last_of_each later else intent ∷ last_of_each later) ≡ last q (intent ∷ later))) [
      | true ↦ λ is. (rest.once, λ q. rest.finds q ∙ kept_later intent later q (sym any ∙ is))
      | false ↦ λ is. ((rest.finds (key intent) ∙ is_none (last (key intent) later) (sym any ∙ is), rest.once), λ q. ap (cond (eq_by_cmp key_cmp q (key intent)) (Some intent)) (rest.finds q) ∙ kept_here intent later q (sym any ∙ is))
    ] refl in
    record { once = both.0; finds = both.1 }

-- ---- a stable sort

abbrev head : List Intent → Option Intent
head [] = None
head (intent ∷ later) = Some intent

-- what is found under an entry's key is the first that ties with the entry
found_first : (one : Intent) (list : List Intent) → found (key one) list ≡ head (filter (ties (λ x y. is_lt (compared x y)) one) list)
found_first one [] = refl
found_first one (intent ∷ later) =
    let rest = found_first one later in
    let test : Intent → Bool = ties (λ x y. is_lt (compared x y)) one in
    ap (λ (b : Bool). cond b (Some intent) (found (key one) later)) (sym (ties_is one intent))
    ∙ elim (test intent) as (λ b. cond b (Some intent) (found (key one) later) ≡ head (cond b (intent ∷ filter test later) (filter test later))) [ true ↦ refl | false ↦ rest ]

-- an entry that is found has the key
found_key : (q : Key) (list : List Intent) (one : Intent) → found q list ≡ Some one → key one ≡ q
found_key q [] one is = absurd (cc)
found_key q (intent ∷ later) one is =
    elim (eq_by_cmp key_cmp q (key intent)) as (λ b. eq_by_cmp key_cmp q (key intent) ≡ b → cond b (Some intent) (found q later) ≡ Some one → key one ≡ q) [
      | true ↦ λ tie found_it. let same : intent ≡ one = cc in sym (tied_same q (key intent) tie ∙ ap key same)
      | false ↦ λ tie found_it. found_key q later one found_it
    ] refl is

-- ---- the first of each

abbrev pub same_key : Intent → Intent → Bool
same_key one other = key_eq (key one) (key other)

dedup_finds : (q : Key) (first : Intent) (list : List Intent) → found q (dedup_from same_key first list) ≡ found q (first ∷ list)
dedup_finds q first [] = refl
dedup_finds q first (intent ∷ later) =
    let again = dedup_finds q first later in
    let rest = dedup_finds q intent later in
    elim (same_key intent first) as (λ b. same_key intent first ≡ b → found q (cond b (dedup_from same_key first later) (first ∷ dedup_from same_key intent later)) ≡ found q (first ∷ intent ∷ later)) [
      | true ↦ λ is.
          let keys : key intent ≡ key first = tied_same (key intent) (key first) (sym (key_ties (key intent) (key first)) ∙ is) in
          again ∙ hidden (eq_by_cmp key_cmp q (key first)) (eq_by_cmp key_cmp q (key intent)) (ap (eq_by_cmp key_cmp q) keys) (Some first) (Some intent) (found q later)
      | false ↦ λ is. ap (cond (eq_by_cmp key_cmp q (key first)) (Some first)) rest
    ] refl
  where
    hidden : (b c : Bool) → c ≡ b → (x y z : Option Intent) → cond b x z ≡ cond b x (cond c y z)
    hidden true c is x y z = refl
    hidden false true is x y z = absurd (cc)
    hidden false false is x y z = refl

both : (a b : Bool) → T a → T b → T (a && b)
both true b one other = other
both false b one other = absurd one

below_from : (x : Intent) (list : List Intent) → AllByRecursion (λ y. compared x y ≡ Less) list → T (below_all key_cmp (key x) (keyed list))
below_from x [] all = tt
below_from x (y ∷ list) all = both _ _ (subst (λ (r : Ordering). T (is_lt r)) (sym all.0) tt) (below_from x list all.1)

sorted_from : (list : List Intent) → IsStrictlySortedBy compared list → T (is_sorted key_cmp (keyed list))
unfolding IsStrictlySortedBy
sorted_from [] up = tt
sorted_from (x ∷ list) up = both _ _ (below_from x list up.0) (sorted_from list up.1)

finds_all : (q : Key) (list : List Intent) → found q (dedup same_key list) ≡ found q list
finds_all q [] = refl
finds_all q (first ∷ list) = dedup_finds q first list

-- ---- both are one list

-- the same is found in two lists whose entries tie with each entry alike
found_alike : (one other : List Intent) → ((x : Intent) → filter (ties (λ a b. is_lt (compared a b)) x) one ≡ filter (ties (λ a b. is_lt (compared a b)) x) other) → (q : Key) → found q one ≡ found q other
found_alike one other stable q =
    elim (found q one) as (λ o. found q one ≡ o → o ≡ found q other) [
      | Some x ↦ λ is. sym is ∙ at x (found_key q one x is)
      | None ↦ λ is. elim (found q other) as (λ o. found q other ≡ o → None ≡ o) [
        | Some y ↦ λ also. sym is ∙ at y (found_key q other y also) ∙ also
        | None ↦ λ also. refl
      ] refl
    ] refl
  where
    at : (x : Intent) → key x ≡ q → found q one ≡ found q other
    at x is =
        subst (λ (k : Key). found k one ≡ found k other) is (found_first x one ∙ ap head (stable x) ∙ sym (found_first x other))

pub kept_by_actor : (list sorted : List Intent) → IsStrictlySortedBy compared (dedup same_key sorted)
    → ((x : Intent) → filter (ties (λ a b. is_lt (compared a b)) x) sorted ≡ filter (ties (λ a b. is_lt (compared a b)) x) (reverse list))
    → dedup same_key sorted ≡ by_actor (last_of_each list)
kept_by_actor list sorted strict stable =
    let lasts = last_is list in
    let order = in_order_is (last_of_each list) lasts.once in
    sym (unkeyed (dedup same_key sorted))
    ∙ ap (map (λ (e : Key × Intent). e.1)) (same_entries key_cmp keys_total keys_same (keyed (dedup same_key sorted)) (keyed (by_actor (last_of_each list))) (sorted_from _ strict) order.sorted
    (λ q. finds_all q sorted ∙ found_alike sorted (reverse list) stable q ∙ found_reverse q list ∙ sym (lasts.finds q) ∙ sym (order.finds q)))
    ∙ unkeyed (by_actor (last_of_each list))
