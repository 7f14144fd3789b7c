-- How the counts of a record's entries follow a put, and what they say of other actors.
use mir.Val.{bool_byte}
use Rattle.std.proofs.Common.{◌≡◌, ℕ, ◌+◌, ◌<◌, ◌≤◌, ◌/◌, ◌==◌, ◌&&◌, ◌||◌, Bool, true, false, cond, not, if◌then◌else◌, nat_eq, List, [], ◌∷◌, ◌++◌, length, map, refl, sym, ap, ◌∙◌, arith}
use Rattle.std.specs.List.{filter, list_any, AllByRecursion, IsDistinct}
use Rattle.std.specs.Cmp.{nat_eq_equiv}
use Rattle.std.proofs.lemmas.Bool.{and_parts, eqb-true}
use Rattle.std.proofs.lemmas.List.{append-nil, length-append, length-map, map-append}
use Rattle.std.proofs.lemmas.List.Sums.{length-filter, count_by-le-length}
use Rattle.std.proofs.lemmas.List.Elements.{filter-append, filter_agree}
use Rattle.game_tables.specs.Actions.{action_number}
use Rattle.game_tables.specs.declared.action.Action.{Action}
use Rattle.game_tables.specs.declared.action.Action.TheVariants.{ClaimController, CreateSite}
use Rattle.intent_book.specs.declared.intent.Intent.{Intent}
use Rattle.intent_book.specs.Records.{place, place_eq, put_last, same_place}
use Rattle.counted_record.specs.Others.{is_of, others_of, others_in}
use Rattle.counted_record.specs.inner.Planned.{IsCounting, is_apart, is_beside, planned_of}
use Rattle.counted_record.specs.declared.counted.Planned.{Planned}

-- by what a test answers
by_answer : {P : Type 0} (b : Bool) → (b ≡ true → P) → (b ≡ false → P) → P
by_answer true p q = p refl
by_answer false p q = q refl

-- ---- filters of filters, and of what is mapped

-- A filter of a filter keeps what passes both.
filter_twice : {X : Type 0} (p q : X → Bool) (xs : List X) → filter p (filter q xs) ≡ filter (λ x. q x && p x) xs
filter_twice p q [] = refl
filter_twice p q (x ∷ xs) = elim (q x) as (λ b. filter p (cond b (x ∷ filter q xs) (filter q xs)) ≡ cond (b && p x) (x ∷ filter (λ y. q y && p y) xs) (filter (λ y. q y && p y) xs)) [
  | true ↦ ap (λ l. cond (p x) (x ∷ l) l) (filter_twice p q xs)
  | false ↦ filter_twice p q xs
]

-- A filter of what is mapped keeps what passes when it is mapped.
filter_map_is : {X Y : Type 0} (f : X → Y) (p : Y → Bool) (xs : List X) → filter p (map f xs) ≡ map f (filter (λ x. p (f x)) xs)
filter_map_is f p [] = refl
filter_map_is f p (x ∷ xs) = elim (p (f x)) as (λ b. cond b (f x ∷ filter p (map f xs)) (filter p (map f xs)) ≡ map f (cond b (x ∷ filter (λ y. p (f y)) xs) (filter (λ y. p (f y)) xs))) [
  | true ↦ ap (λ l. f x ∷ l) (filter_map_is f p xs)
  | false ↦ filter_map_is f p xs
]

-- ---- an action's entries after a put

-- The entries for others are those of the action without the actor's.
others_are : (action : Action) (actor : ℕ) (entries : List Intent) → others_of action actor entries ≡ filter (λ entry. not (entry.actor == actor)) (filter (is_of action) entries)
others_are action actor entries = sym (filter_twice (λ entry. not (entry.actor == actor)) (is_of action) entries)

-- An entry of an action is never at the place of one of another action.
apart_other : (put action number putter actor : ℕ) → nat_eq put action ≡ false → (not (nat_eq put number && nat_eq putter actor) && nat_eq number action) ≡ nat_eq number action
apart_other put action number putter actor other = by_answer (nat_eq put number)
    (λ h.
    let is_no : nat_eq number action ≡ false = ap (λ n. nat_eq n action) (sym (eqb-true put number h)) ∙ other in
    rw (h, is_no) (both_false (nat_eq putter actor)))
    (λ h. rw h refl)
  where
    both_false : (b : Bool) → (not b && false) ≡ false
    both_false true = refl
    both_false false = refl

-- An entry of an action is at the place of one of the same action where it has the same actor.
apart_same : (put action number putter actor : ℕ) → nat_eq put action ≡ true → (not (nat_eq put number && nat_eq putter actor) && nat_eq number action) ≡ (nat_eq number action && not (nat_eq actor putter))
apart_same put action number putter actor same =
    let is = eqb-true put action same in
    (λ j. not (nat_eq (is j) number && nat_eq putter actor) && nat_eq number action)
    ∙ (λ j. not (nat_eq_equiv.symm action number j && nat_eq_equiv.symm putter actor j) && nat_eq number action)
    ∙ both (nat_eq number action) (nat_eq actor putter)
  where
    both : (b d : Bool) → (not (b && d) && b) ≡ (b && not d)
    both true true = refl
    both true false = refl
    both false d = refl

-- An entry that a put of an intent leaves in the list.
abbrev is_elsewhere : Intent → Intent → Bool
is_elsewhere intent entry = not (same_place intent entry)

-- A put of another action changes none of the action's entries.
put_other : (action : Action) (intent : Intent) (entries : List Intent) → is_of action intent ≡ false → filter (is_of action) (put_last entries intent) ≡ filter (is_of action) entries
put_other action intent entries other =
    filter-append (is_of action) (filter (is_elsewhere intent) entries) (intent ∷ [])
    ∙ (λ j. filter_twice (is_of action) (is_elsewhere intent) entries j ++ cond (other j) (intent ∷ []) [])
    ∙ append-nil _
    ∙ filter_agree (λ x. is_elsewhere intent x && is_of action x) (is_of action) (λ x. apart_other (action_number intent.action) (action_number action) (action_number x.action) intent.actor x.actor other) entries

-- A put of the action takes out the actor's entry and adds its own at the end.
put_same : (action : Action) (intent : Intent) (entries : List Intent) → is_of action intent ≡ true → filter (is_of action) (put_last entries intent) ≡ others_of action intent.actor entries ++ intent ∷ []
put_same action intent entries same =
    filter-append (is_of action) (filter (is_elsewhere intent) entries) (intent ∷ [])
    ∙ (λ j. filter_twice (is_of action) (is_elsewhere intent) entries j ++ cond (same j) (intent ∷ []) [])
    ∙ ap (λ l. l ++ intent ∷ []) (filter_agree (λ x. is_elsewhere intent x && is_of action x) (λ x. is_of action x && not (x.actor == intent.actor)) (λ x. apart_same (action_number intent.action) (action_number action) (action_number x.action) intent.actor x.actor same) entries)

-- ---- all of an action's entries and those for others

module _ (action : Action) (actor : ℕ) where
  -- There is an entry of the action and the actor.
  abbrev pub stands : List Intent → Bool
  stands entries = list_any (λ entry. place_eq (action_number action, actor) (place entry)) entries

  -- Behind an entry of the action and the actor there is no other one.
  none_beside : (entry : Intent) (entries : List Intent) → action_number entry.action ≡ action_number action → entry.actor ≡ actor → AllByRecursion (λ y. same_place entry y ≡ false) entries → stands entries ≡ false
  none_beside entry [] n a apart = refl
  none_beside entry (other ∷ entries) n a apart =
      (λ j. place_eq (sym n j, sym a j) (place other) || stands entries)
      ∙ (λ j. apart.0 j || none_beside entry entries n a apart.1 j)

  -- The step: the first entry is of the action or isn't, and is the actor's or isn't.
  counts : (of his : Bool) (entry : Intent) (all others : List Intent) (there : Bool) → length all ≡ length others + cond there 1 0 → ((of && his) ≡ true → there ≡ false)
      → length (cond of (entry ∷ all) all) ≡ length (cond (of && not his) (entry ∷ others) others) + cond ((of && his) || there) 1 0
  counts true true entry all others there rest none = let e = rest ∙ ap (λ b. length others + cond b 1 0) (none refl) in omega (arith, e)
  counts true false entry all others there rest none = omega (arith, rest)
  counts false his entry all others there rest none = rest

  -- The action's entries are those for others, and one more where the actor's stands.
  length_others : (entries : List Intent) → IsDistinct same_place entries → length (filter (is_of action) entries) ≡ length (others_of action actor entries) + cond (stands entries) 1 0
  unfolding IsDistinct
  length_others [] distinct = refl
  length_others (entry ∷ entries) distinct =
      counts (is_of action entry) (entry.actor == actor) entry (filter (is_of action) entries) (others_of action actor entries) (stands entries) (length_others entries distinct.1)
      (λ h. let both = and_parts (is_of action entry) (entry.actor == actor) h in none_beside entry entries (eqb-true _ _ both.0) (eqb-true _ _ both.1) distinct.0)
      ∙ ap (λ b. length (others_of action actor (entry ∷ entries)) + cond (b || stands entries) 1 0) (λ j. nat_eq_equiv.symm (action_number entry.action) (action_number action) j && nat_eq_equiv.symm entry.actor actor j)

-- ---- what is kept beside the entries

-- Three tests are joined from either side.
and_assoc : (a b d : Bool) → ((a && b) && d) ≡ (a && (b && d))
and_assoc true b d = refl
and_assoc false b d = refl

-- A filter keeps at most what there is.
pub length_filter : {X : Type 0} (p : X → Bool) (xs : List X) → length (filter p xs) ≤ length xs
length_filter p xs = omega (arith, length-filter p xs, count_by-le-length p xs)

-- The entries for others are fewer than all are after a put.
pub others_fit : (action : Action) (intent : Intent) (entries : List Intent) → is_of action intent ≡ true → length (others_of action intent.actor entries) < length (put_last entries intent)
others_fit action intent entries same =
    omega (arith, ap length (put_same action intent entries same), length-append (others_of action intent.actor entries) (intent ∷ []), length_filter (is_of action) (put_last entries intent))

-- Every other action has another number than that for sites, and than that for claims.
no_site : (action : Action) → (action ≡ CreateSite → ⊥) → (action_number action == action_number CreateSite) ≡ false
no_site CreateSite other = absurd (other refl)
no_site _ other = refl

no_claim : (action : Action) → (action ≡ ClaimController → ⊥) → (action_number action == action_number ClaimController) ≡ false
no_claim ClaimController other = absurd (other refl)
no_claim _ other = refl

module _ (entries : List Intent) (planned : List Planned) (count : ℕ) (counting : IsCounting entries planned count) where
  -- There are at most as many sites as entries.
  pub planned_fit : length planned ≤ length entries
  planned_fit = omega (arith, ap length counting.sites, length-map (filter (is_of CreateSite) entries) planned_of, length_filter (is_of CreateSite) entries)

  -- The sites on other tiles are those of the entries for them.
  planned_apart : (tile : ℕ) → filter (is_apart tile) planned ≡ map planned_of (others_of CreateSite tile entries)
  planned_apart tile =
      ap (filter (is_apart tile)) counting.sites
      ∙ filter_map_is planned_of (is_apart tile) (filter (is_of CreateSite) entries)
      ∙ ap (map planned_of) (sym (others_are CreateSite tile entries))

  -- So there are as many.
  pub length_apart : (tile : ℕ) → length (filter (is_apart tile) planned) ≡ length (others_of CreateSite tile entries)
  length_apart tile = ap length (planned_apart tile) ∙ length-map (others_of CreateSite tile entries) planned_of

  -- And as many of them are in its room and for the kind.
  pub length_beside : (tile number : ℕ) → length (filter (is_beside tile number) planned) ≡ length (others_in tile number entries)
  length_beside tile number =
      ap length (filter_agree (is_beside tile number) (λ site. is_apart tile site && here site) (λ site. and_assoc (is_apart tile site) (site.tile / 2500 == tile / 2500) (site.number == number)) planned
      ∙ sym (filter_twice here (is_apart tile) planned)
      ∙ ap (filter here) (planned_apart tile)
      ∙ filter_map_is planned_of here (others_of CreateSite tile entries))
      ∙ length-map (others_in tile number entries) planned_of
    where
      here : Planned → Bool
      here site = (site.tile / 2500 == tile / 2500) && (site.number == number)

  -- An intent for neither changes nothing, taken or not.
  pub counting_other : (taken : Bool) (intent : Intent) → (intent.action ≡ CreateSite → ⊥) → (intent.action ≡ ClaimController → ⊥) → IsCounting (if taken then put_last entries intent else entries) planned count
  counting_other true intent site claim = record {
    sites = counting.sites ∙ ap (map planned_of) (sym (put_other CreateSite intent entries (no_site intent.action site)));
    claims = counting.claims ∙ ap length (sym (put_other ClaimController intent entries (no_claim intent.action claim)));
  }
  counting_other false intent site claim = counting

  -- An intent for a site takes out that of its tile and adds its own at the end.
  pub counting_site : (intent : Intent) → intent.action ≡ CreateSite → IsCounting (put_last entries intent) (filter (is_apart intent.actor) planned ++ planned_of intent ∷ []) count
  counting_site intent site = record {
    sites = ap (λ l. l ++ planned_of intent ∷ []) (planned_apart intent.actor)
        ∙ sym (map-append planned_of (others_of CreateSite intent.actor entries) (intent ∷ []))
        ∙ ap (map planned_of) (sym (put_same CreateSite intent entries (ap (λ a. action_number a == action_number CreateSite) site)));
    claims = counting.claims ∙ ap length (sym (put_other ClaimController intent entries (ap (λ a. action_number a == action_number ClaimController) site)));
  }

  -- An intent for a claim is one more where the creep's doesn't stand.
  pub counting_claim : (intent : Intent) → intent.action ≡ ClaimController → IsDistinct same_place entries → (now : ℕ) → now + cond (stands ClaimController intent.actor entries) 1 0 ≡ count + 1 → IsCounting (put_last entries intent) planned now
  counting_claim intent claim distinct now more = record {
    sites = counting.sites ∙ ap (map planned_of) (sym (put_other CreateSite intent entries (ap (λ a. action_number a == action_number CreateSite) claim)));
    claims =
        let others = others_of ClaimController intent.actor entries in
        let put = ap length (put_same ClaimController intent entries (ap (λ a. action_number a == action_number ClaimController) claim)) in
        omega (arith, counting.claims, put, length-append others (intent ∷ []), length_others ClaimController intent.actor entries distinct, more);
  }

  -- The claims are those of others, and one more where the creep's stands.
  pub claims_are : (creep : ℕ) → IsDistinct same_place entries → (held : Bool) → held ≡ stands ClaimController creep entries → count ≡ length (others_of ClaimController creep entries) + bool_byte held
  claims_are creep distinct held is =
      counting.claims ∙ length_others ClaimController creep entries distinct
      ∙ ap (λ b. length (others_of ClaimController creep entries) + cond b 1 0) (sym is)
      ∙ ap (λ n. length (others_of ClaimController creep entries) + n) (as_number held)
    where
      as_number : (b : Bool) → cond b 1 0 ≡ bool_byte b
      as_number true = refl
      as_number false = refl

  -- There are at most as many claims as entries.
  pub claims_fit : count ≤ length entries
  claims_fit = omega (arith, counting.claims, length_filter (is_of ClaimController) entries)
