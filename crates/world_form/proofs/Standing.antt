-- By the rules, each object that is listed stands in the world.
use Rattle.std.proofs.Common.{◌≡◌, ℕ, suc, ◌+◌, ◌<◌, ◌≤◌, ◌==◌, cond, List, [], ◌∷◌, ◌++◌, map, Some, refl, sym, ap, ◌∙◌, arith, inl, inr}
use Rattle.std.specs.List.{AllByRecursion}
use Rattle.std.specs.Ordering.{nat_cmp}
use Rattle.std.specs.Cmp.{unsigned_tied, nat_cmp_total}
use Rattle.std.specs.FinMap.{find, get-from_entries}
use Rattle.std.proofs.lemmas.Bool.{cases_eq, cases_lt, eq-eqb, ne_eqb}
use Rattle.room_table.specs.declared.object.Object.{Object}
use Rattle.object_store.specs.declared.world.Room.{Room}
use Rattle.world_rules.specs.declared.rule.Rule.TheVariants as rules
use Rattle.world_rules.specs.World.{Placed, World, Listing, placed, placed_from, world_listed, listed_room}
use Rattle.world_rules.specs.Rules.{KeepsRules, Stands}
use Rattle.world_rules.proofs.Entries.{Entries, times, times_cons}

-- ---- what holds of each of a list

pub all_weaker : {A : Type 0} (P Q : A → Type 0) → ((x : A) → P x → Q x) → (xs : List A) → AllByRecursion P xs → AllByRecursion Q xs
all_weaker P Q follows [] all = tt
all_weaker P Q follows (x ∷ xs) all = (follows x all.0, all_weaker P Q follows xs all.1)

all_front : {A : Type 0} (P : A → Type 0) (xs ys : List A) → AllByRecursion P (xs ++ ys) → AllByRecursion P xs
all_front P [] ys all = tt
all_front P (x ∷ xs) ys all = (all.0, all_front P xs ys all.1)

all_back : {A : Type 0} (P : A → Type 0) (xs ys : List A) → AllByRecursion P (xs ++ ys) → AllByRecursion P ys
all_back P [] ys all = all
all_back P (x ∷ xs) ys all = all_back P xs ys all.1

all_unmap : {A B : Type 0} (f : A → B) (P : B → Type 0) (xs : List A) → AllByRecursion P (map f xs) → AllByRecursion (λ x. P (f x)) xs
all_unmap f P [] all = tt
all_unmap f P (x ∷ xs) all = (all.0, all_unmap f P xs all.1)

-- ---- looking up ids

-- The entry's id is in the list, and the entry is found where the id is there once.
abbrev IsFoundOnce : Entries → ℕ × Placed → Type 0
IsFoundOnce es e = (1 ≤ times e.0 es) × (times e.0 es < 2 → find nat_cmp e.0 es ≡ Some e.1)

tied_find : (q : ℕ) (e : ℕ × Placed) (es : Entries) → find nat_cmp q (e ∷ es) ≡ cond (q == e.0) (Some e.1) (find nat_cmp q es)
tied_find q e es = ap (λ b. cond b (Some e.1) (find nat_cmp q es)) (unsigned_tied q e.0)

times_here : (q : ℕ) (e : ℕ × Placed) (es : Entries) → e.0 ≡ q → times q (e ∷ es) ≡ 1 + times q es
times_here q e es same = times_cons q e es ∙ ap (λ b. cond b 1 0 + times q es) (eq-eqb e.0 q same)

times_more : (q : ℕ) (e : ℕ × Placed) (es : Entries) → times q es ≤ times q (e ∷ es)
times_more q e es = omega (arith, times_cons q e es)

found_first : (e : ℕ × Placed) (es : Entries) → IsFoundOnce (e ∷ es) e
found_first e es = (omega (arith, times_here e.0 e es refl), λ few. tied_find e.0 e es ∙ ap (λ b. cond b (Some e.1) (find nat_cmp e.0 es)) (eq-eqb e.0 e.0 refl))

found_later : (e : ℕ × Placed) (es : Entries) (f : ℕ × Placed) → IsFoundOnce es f → IsFoundOnce (e ∷ es) f
found_later e es f found =
    let some : 1 ≤ times f.0 es = found.0 in
    let more = times_more f.0 e es in (
      omega arith,
      λ few. elim (cases_eq f.0 e.0) [
        | inl same ↦ absurd (let two = times_here f.0 e es (sym same) in omega arith)
        | inr apart ↦ tied_find f.0 e es ∙ ap (λ b. cond b (Some e.1) (find nat_cmp f.0 es)) (ne_eqb f.0 e.0 apart) ∙ found.1 (omega arith)
      ],
    )

each_found : (es : Entries) → AllByRecursion (IsFoundOnce es) es
each_found [] = tt
each_found (e ∷ es) = (found_first e es, all_weaker (IsFoundOnce es) (IsFoundOnce (e ∷ es)) (found_later e es) es (each_found es))

all_stand : (listing : Listing) → KeepsRules listing → AllByRecursion (λ e. Stands (world_listed listing) e.0 e.1) (placed listing)
all_stand listing keeps =
    all_weaker (IsFoundOnce (placed listing)) (λ e. Stands (world_listed listing) e.0 e.1)
    (λ e found.
    let few : times e.0 (placed listing) < 2 = elim (cases_lt 1 (times e.0 (placed listing))) [ inl lt ↦ absurd (keeps rules.IdTwice e.0 lt) | inr le ↦ omega arith ] in
    get-from_entries nat_cmp_total (placed listing) e.0 ∙ found.1 few)
    (placed listing) (each_found (placed listing))

-- ---- the objects of each room

-- The object stands in one of the world's rooms.
abbrev pub StandsThere : World → Object → Type 0
StandsThere world o = (room : ℕ) × Stands world o.id (record { room = room; object = o })

rooms_stand : (world : World) (index : ℕ) (rooms : List Room) → AllByRecursion (λ e. Stands world e.0 e.1) (placed_from index (map listed_room rooms)) → AllByRecursion (λ room. AllByRecursion (StandsThere world) room.table.objects) rooms
rooms_stand world index [] all = tt
rooms_stand world index (room ∷ rooms) all =
    let tagged : Object → ℕ × Placed = λ o. (o.id, record { room = index; object = o }) in
    let here = map tagged room.table.objects in
    let later = placed_from (suc index) (map listed_room rooms) in
    let Stood : ℕ × Placed → Type 0 = λ e. Stands world e.0 e.1 in (
      all_weaker (λ o. Stood (tagged o)) (StandsThere world) (λ o stands. (index, stands)) room.table.objects (all_unmap tagged Stood room.table.objects (all_front Stood here later all)),
      rooms_stand world (suc index) rooms (all_back Stood here later all),
    )

pub objects_stand : (listing : Listing) (rooms : List Room) → map listed_room rooms ≡ listing.rooms → KeepsRules listing → AllByRecursion (λ room. AllByRecursion (StandsThere (world_listed listing)) room.table.objects) rooms
objects_stand listing rooms are keeps = rooms_stand (world_listed listing) 0 rooms (rw are (all_stand listing keeps))
