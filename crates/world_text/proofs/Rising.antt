-- Lists in the order of their numbers, each number once: their numbers rise.
use Rattle.std.proofs.Common.{◌≡◌, ℕ, zero, suc, ◌+◌, ◌<◌, ◌≤◌, ◌==◌, List, [], ◌∷◌, ◌++◌, map, length, get_or, cond, refl, sym, ap, ◌∙◌, arith, inl, inr}
use Rattle.std.specs.List.{AllByRecursion, count_by}
use Rattle.std.specs.List.Sorted.{IsPermutation, IsNonDecreasingBy}
use Rattle.std.proofs.lemmas.Bool.{cases_lt, eq-eqb}
use Rattle.std.proofs.lemmas.List.{length-append, length-map}
use Rattle.std.proofs.lemmas.List.Sums.{sum_by-cons, sum_by-append}
use Rattle.std.proofs.lemmas.List.Sorted.{sum_by-IsPermutation}
use Rattle.game_tables.specs.Limits.{most_objects}
use Rattle.room_table.specs.declared.object.Object.{Object}
use Rattle.object_store.specs.declared.account.Account.{Account}
use Rattle.room_table.specs.Tables.{IsRising}
use Rattle.object_store.specs.Stored.{AreRising}
use Rattle.world_rules.specs.declared.rule.Rule.TheVariants as rules
use Rattle.world_rules.specs.World.{Placed, Listing, placed_from, placed}
use Rattle.world_rules.specs.Rules.{KeepsRules}
use Rattle.world_form.specs.Facts.{Player}
use Rattle.world_form.specs.Files.{HaveRisingNumbers, told_tokens}
use Rattle.world_form.proofs.InFile.{few_objects}
use Rattle.rule_check.proofs.Found.{times}
use Rattle.world_text.specs.declared.draft.RoomDraft.{RoomDraft}
use Rattle.world_text.specs.inner.Drafts.{drafted_room, IsOrderedDraft, IsRisingDraft}

-- how often a number is there
abbrev count : {A : Type 0} → (A → ℕ) → ℕ → List A → ℕ
count number q xs = count_by (λ x. number x == q) xs

-- Each number is there once.
abbrev pub HasEachOnce : {A : Type 0} → (A → ℕ) → List A → Type 0
HasEachOnce number xs = (q : ℕ) → count number q xs < 2

here : {A : Type 0} (number : A → ℕ) (q : ℕ) (x : A) (xs : List A) → number x ≡ q → count number q (x ∷ xs) ≡ 1 + count number q xs
here number q x xs same = sum_by-cons _ x xs ∙ ap (λ b. cond b 1 0 + count number q xs) (eq-eqb (number x) q same)

grows : {A : Type 0} (number : A → ℕ) (q : ℕ) (x : A) (xs : List A) → count number q xs ≤ count number q (x ∷ xs)
grows {A} number q x xs = omega (arith, sum_by-cons (λ (y : A). cond (number y == q) 1 0) x xs)

counted : {A : Type 0} (number : A → ℕ) (q : ℕ) (xs : List A) (k : ℕ) (d : A) → k < length xs → number (get_or xs k d) ≡ q → 1 ≤ count number q xs
counted number q [] k d lt e = absurd (omega arith)
counted number q (x ∷ xs) zero d lt e = omega (arith, here number q x xs e)
counted number q (x ∷ xs) (suc k) d lt e = let rest : 1 ≤ count number q xs = counted number q xs k d (omega arith) e in omega (arith, grows number q x xs)

above : {A : Type 0} (number : A → ℕ) (n : ℕ) (rest : List A) → ((k : ℕ) (d : A) → k < length rest → (n ≤ number (get_or rest k d)) × (number (get_or rest k d) ≡ n → ⊥)) → AllByRecursion (λ later. n < number later) rest
above number n [] h = tt
above number n (x ∷ rest) h =
    let first : n ≤ number x = (h 0 x (omega arith)).0 in
    let apart : number x ≡ n → ⊥ = (h 0 x (omega arith)).1 in
    (omega arith, above number n rest (λ k d lt. h (suc k) d (omega arith)))

-- Numbers that don't fall, and are there once, rise: the first is below the later ones, and so on.
first_rises : {A : Type 0} (number : A → ℕ) (x : A) (xs : List A) → IsNonDecreasingBy number (x ∷ xs) → HasEachOnce number (x ∷ xs) → AllByRecursion (λ later. number x < number later) xs
first_rises {A} number x xs up once =
    let apart = λ (k : ℕ) (d : A) (lt : k < length xs) (same : number (get_or xs k d) ≡ number x). (
    let many : 1 ≤ count number (number x) xs = counted number (number x) xs k d lt same in
    let few : count number (number x) (x ∷ xs) < 2 = once (number x) in
    let bad : ⊥ = omega (arith, here number (number x) x xs refl) in
    bad
    ) in
    above number (number x) xs (λ k d lt. (up 0 (suc k) d (omega arith) (omega arith), apart k d lt))

rest_up : {A : Type 0} (number : A → ℕ) (x : A) (xs : List A) → IsNonDecreasingBy number (x ∷ xs) → IsNonDecreasingBy number xs
rest_up number x xs up i j d le lt = up (suc i) (suc j) d (omega arith) (omega arith)

rest_once : {A : Type 0} (number : A → ℕ) (x : A) (xs : List A) → HasEachOnce number (x ∷ xs) → HasEachOnce number xs
rest_once number x xs once q = let few : count number q (x ∷ xs) < 2 = once q in omega (arith, grows number q x xs)

pub objects_rise : (objects : List Object) → IsNonDecreasingBy (λ object. object.id) objects → HasEachOnce (λ object. object.id) objects → IsRising objects
objects_rise [] up once = tt
objects_rise (object ∷ objects) up once = (first_rises (λ o. o.id) object objects up once, objects_rise objects (rest_up (λ o. o.id) object objects up) (rest_once (λ o. o.id) object objects once))

pub accounts_rise : (accounts : List Account) → IsNonDecreasingBy (λ account. account.player) accounts → HasEachOnce (λ account. account.player) accounts → AreRising accounts
accounts_rise [] up once = tt
accounts_rise (account ∷ accounts) up once =
    (first_rises (λ a. a.player) account accounts up once, accounts_rise accounts (rest_up (λ a. a.player) account accounts up) (rest_once (λ a. a.player) account accounts once))

pub tokens_rise : (tokens : List (ℕ × List ℕ)) → IsNonDecreasingBy (λ token. token.0) tokens → HasEachOnce (λ token. token.0) tokens → HaveRisingNumbers tokens
tokens_rise [] up once = tt
tokens_rise (token ∷ tokens) up once = (first_rises (λ t. t.0) token tokens up once, tokens_rise tokens (rest_up (λ t. t.0) token tokens up) (rest_once (λ t. t.0) token tokens once))

pub once_permuted : {A : Type 0} (number : A → ℕ) (xs ys : List A) → IsPermutation xs ys → HasEachOnce number xs → HasEachOnce number ys
once_permuted {A} number xs ys moved once q = rw (sum_by-IsPermutation (λ (x : A). cond (number x == q) 1 0) xs ys moved) (once q)

-- ---- the players of a listing

pub players_once : (listing : Listing) → KeepsRules listing → HasEachOnce (λ account. account.player) listing.accounts
players_once listing keeps q = elim (cases_lt (count (λ (account : Account). account.player) q listing.accounts) 2) [ inl lt ↦ lt | inr le ↦ absurd (keeps rules.PlayerTwice q le) ]

token_count : (q : ℕ) (players : List Player) → count (λ (token : ℕ × List ℕ). token.0) q (told_tokens players) ≡ count (λ (account : Account). account.player) q (map (λ player. player.account) players)
token_count q [] = refl
token_count q (player ∷ players) =
    sum_by-cons (λ (token : ℕ × List ℕ). cond (token.0 == q) 1 0) (player.account.player, player.token) (told_tokens players)
    ∙ ap (λ m. cond (player.account.player == q) 1 0 + m) (token_count q players)
    ∙ sym (sum_by-cons (λ (account : Account). cond (account.player == q) 1 0) player.account (map (λ p. p.account) players))

pub tokens_once : (players : List Player) → HasEachOnce (λ account. account.player) (map (λ player. player.account) players) → HasEachOnce (λ token. token.0) (told_tokens players)
tokens_once players once q = rw token_count (once q)

-- ---- the objects of each room

abbrev tagged : ℕ → Object → ℕ × Placed
tagged index object = (object.id, record { room = index; object = object })

tagged_times : (q index : ℕ) (objects : List Object) → times q (map (tagged index) objects) ≡ count (λ (object : Object). object.id) q objects
tagged_times q index [] = refl
tagged_times q index (object ∷ objects) =
    sum_by-cons (λ (e : ℕ × Placed). cond (e.0 == q) 1 0) (tagged index object) (map (tagged index) objects)
    ∙ ap (λ m. cond (object.id == q) 1 0 + m) (tagged_times q index objects)
    ∙ sym (sum_by-cons (λ (o : Object). cond (o.id == q) 1 0) object objects)

split_times : (q index : ℕ) (objects : List Object) (later : List (ℕ × Placed)) → times q (map (tagged index) objects ++ later) ≡ count (λ (object : Object). object.id) q objects + times q later
split_times q index objects later = sum_by-append (λ (e : ℕ × Placed). cond (e.0 == q) 1 0) (map (tagged index) objects) later ∙ ap (λ m. m + times q later) (tagged_times q index objects)

rooms_rise : (index : ℕ) (drafts : List RoomDraft) → ((q : ℕ) → times q (placed_from index (map drafted_room drafts)) < 2) → length (placed_from index (map drafted_room drafts)) ≤ most_objects → AllByRecursion IsOrderedDraft drafts
    → AllByRecursion IsRisingDraft drafts
rooms_rise index [] once few ordered = tt
rooms_rise index (draft ∷ drafts) once few ordered =
    let objects = draft.objects.items in
    let later = placed_from (suc index) (map drafted_room drafts) in
    let mine : HasEachOnce (λ (object : Object). object.id) objects = λ q. (let all : times q (map (tagged index) objects ++ later) < 2 = once q in omega (arith, split_times q index objects later)) in
    let others : (q : ℕ) → times q later < 2 = λ q. (let all : times q (map (tagged index) objects ++ later) < 2 = once q in omega (arith, split_times q index objects later)) in
    let long : length (map (tagged index) objects ++ later) ≡ length objects + length later = length-append (map (tagged index) objects) later ∙ ap (λ m. m + length later) (length-map objects (tagged index)) in
    let all : length (map (tagged index) objects ++ later) ≤ most_objects = few in (
      record { rising = objects_rise objects ordered.0.order mine; within = omega arith },
      rooms_rise (suc index) drafts others (omega arith) ordered.1,
    )

pub drafts_rise : (listing : Listing) (drafts : List RoomDraft) → map drafted_room drafts ≡ listing.rooms → KeepsRules listing → AllByRecursion IsOrderedDraft drafts → AllByRecursion IsRisingDraft drafts
drafts_rise listing drafts are keeps ordered =
    rooms_rise 0 drafts
    (λ q. rw are (elim (cases_lt (times q (placed listing)) 2) [ inl lt ↦ lt | inr le ↦ absurd (keeps rules.IdTwice q le) ]))
    (rw are (few_objects listing keeps)) ordered
