-- Two listings of the same rooms, objects and accounts in other orders break the same rules first, and list the same world where they break none.
use Rattle.std.proofs.Common.{◌≡◌, ℕ, zero, suc, ◌+◌, ◌<◌, ◌==◌, ◌&&◌, List, [], ◌∷◌, map, length, get_or, true, cond, Some, None, refl, sym, ap, subst, ◌∙◌, arith, inl, inr}
use Rattle.std.specs.Prelude.{slice_get}
use Rattle.std.specs.List.{Contains, count_by}
use Rattle.std.specs.List.Sorted.{IsPermutation}
use Rattle.std.specs.Ordering.{nat_cmp}
use Rattle.std.specs.Cmp.{nat_cmp_total}
use Rattle.std.specs.FinMap.{FinMap, find, get, from_entries, get-from_entries, same_map, nat_cmp-IsAntisymmetric}
use Rattle.std.proofs.lemmas.Bool.{cases_lt}
use Rattle.std.proofs.lemmas.List.{length-map}
use Rattle.std.proofs.lemmas.List.Sums.{sum_by-cons}
use Rattle.std.proofs.lemmas.List.Sorted.{IsPermutation-map, IsPermutation-sym, Contains-permutation, length_permutation, sum_by-IsPermutation}
use Rattle.room_table.specs.declared.object.Object.{Object}
use Rattle.object_store.specs.declared.account.Account.{Account}
use Rattle.world_rules.specs.declared.rule.Rule.{Rule}
use Rattle.world_rules.specs.declared.rule.Rule.TheVariants as rules
use Rattle.game_tables.specs.Kinds.{is_controller, is_site}
use Rattle.world_rules.specs.World.{Placed, Frame, ListedRoom, World, Listing, placed, world_listed}
use Rattle.world_rules.proofs.Rooms.{frame_listed}
use Rattle.world_rules.specs.Rules.{Broken, KeepsRules, IsFirstBroken, rule_place, IsWithinCounts, Stands, IsRoom, IsPlayer, HasEarlierName, HasOpenCorner, HasNoBirth, IsOnWrongTile, IsInTheWay, HasWrongOwner, IsInRangeAs}
use Rattle.rule_check.proofs.Found.{times, found_at, at_found, once_found}

-- ---- places after a reordering

contains_at : {A : Type 0} (xs : List A) (k : ℕ) (x : A) → slice_get xs k ≡ Some x → Contains xs x
contains_at [] k x e = absurd cc
contains_at (y ∷ xs) zero x e = let same : y ≡ x = cc in (0, omega arith, same)
contains_at (y ∷ xs) (suc k) x e = let rest = contains_at xs k x e in (suc rest.0, (let inside = rest.1 in omega arith), rest.2)

at_contains : {A : Type 0} (xs : List A) (x : A) (k : ℕ) → k < length xs → get_or xs k x ≡ x → slice_get xs k ≡ Some x
at_contains [] x k lt e = absurd (omega arith)
at_contains (y ∷ xs) x zero lt e = ap Some e
at_contains (y ∷ xs) x (suc k) lt e = at_contains xs x k (omega arith) e

moved_at : {A : Type 0} (xs ys : List A) → IsPermutation xs ys → (k : ℕ) (x : A) → slice_get xs k ≡ Some x → (m : ℕ) × (slice_get ys m ≡ Some x)
moved_at xs ys moved k x e = let there = Contains-permutation xs ys x moved (contains_at xs k x e) in (there.0, at_contains ys x there.0 there.1 there.2)

-- ---- entries after a reordering

found_moved : {V : Type 0} (q : ℕ) (es fs : List (ℕ × V)) → IsPermutation es fs → (v : V) → find nat_cmp q es ≡ Some v → (w : V) × (find nat_cmp q fs ≡ Some w)
found_moved {V} q es fs moved v e = let here = found_at q es v e in let there = moved_at es fs moved here.0 (q, v) here.1 in at_found q fs there.0 v there.1

found_same : {V : Type 0} (q : ℕ) (es fs : List (ℕ × V)) → IsPermutation es fs → times q es < 2 → find nat_cmp q fs ≡ find nat_cmp q es
found_same {V} q es fs moved few =
    elim (find nat_cmp q es) as (λ o. find nat_cmp q es ≡ o → find nat_cmp q fs ≡ o) [
      | None ↦ λ none. elim (find nat_cmp q fs) as (λ o. find nat_cmp q fs ≡ o → o ≡ None) [
        | None ↦ λ here. refl
        | Some w ↦ λ here. absurd (let back = found_moved q fs es (IsPermutation-sym es fs moved) w here in let some : find nat_cmp q es ≡ Some back.0 = back.1 in cc)
      ] refl
      | Some v ↦ λ some. (
          let here = found_at q es v some in
          let there = moved_at es fs moved here.0 (q, v) here.1 in
          once_found q fs there.0 v there.1 (rw (sum_by-IsPermutation (λ (e : ℕ × V). cond (e.0 == q) 1 0) es fs moved) few)
          )
    ] refl

same_entries : {V : Type 0} (es fs : List (ℕ × V)) → IsPermutation es fs → ((q : ℕ) → times q es < 2) → from_entries {R = nat_cmp} es ≡ from_entries fs
same_entries es fs moved once =
    same_map nat_cmp_total nat_cmp-IsAntisymmetric _ _ (λ q. get-from_entries nat_cmp_total es q ∙ sym (found_same q es fs moved (once q)) ∙ sym (get-from_entries nat_cmp_total fs q))

-- ---- listings

-- The rooms are the same, and the objects and accounts are the same in other orders.
pub record IsReordered (one other : Listing) : Type 0 where
  pub rules : one.rules ≡ other.rules
  pub tick : one.tick ≡ other.tick
  pub frames : map (λ room. room.frame) one.rooms ≡ map (λ room. room.frame) other.rooms
  pub objects : IsPermutation (placed one) (placed other)
  pub accounts : IsPermutation one.accounts other.accounts

pub turned : (one other : Listing) → IsReordered one other → IsReordered other one
turned one other r = record {
  rules = sym r.rules;
  tick = sym r.tick;
  frames = sym r.frames;
  objects = IsPermutation-sym (placed one) (placed other) r.objects;
  accounts = IsPermutation-sym one.accounts other.accounts r.accounts;
}

-- Each id is there once.
abbrev IsOnce : Listing → Type 0
IsOnce listing = (q : ℕ) → times q (placed listing) < 2

once_moved : (one other : Listing) → IsReordered one other → IsOnce one → IsOnce other
once_moved one other r once q = rw (sum_by-IsPermutation (λ (e : ℕ × Placed). cond (e.0 == q) 1 0) (placed one) (placed other) r.objects) (once q)

once_kept : (listing : Listing) → ((q : ℕ) → Broken rules.IdTwice q listing → ⊥) → IsOnce listing
once_kept listing kept q = elim (cases_lt (times q (placed listing)) 2) [ inl lt ↦ lt | inr le ↦ absurd (kept q le) ]

stands_moved : (one other : Listing) → IsReordered one other → (n : ℕ) (p : Placed) → Stands (world_listed one) n p → (o : Placed) × Stands (world_listed other) n o
stands_moved one other r n p stands =
    let found = found_moved n (placed one) (placed other) r.objects p (sym (get-from_entries nat_cmp_total (placed one) n) ∙ stands) in
    (found.0, get-from_entries nat_cmp_total (placed other) n ∙ found.1)

abbrev entry_of : Account → ℕ × Account
entry_of account = (account.player, account)

player_moved : (one other : Listing) → IsReordered one other → (n : ℕ) → IsPlayer (world_listed one) n → IsPlayer (world_listed other) n
player_moved one other r n player =
    let entries = map entry_of one.accounts in
    let others = map entry_of other.accounts in
    let found = found_moved n entries others (IsPermutation-map entry_of one.accounts other.accounts r.accounts) player.0 (sym (get-from_entries nat_cmp_total entries n) ∙ player.1) in
    (found.0, get-from_entries nat_cmp_total others n ∙ found.1)

within_moved : (one other : Listing) → IsReordered one other → IsWithinCounts one → IsWithinCounts other
within_moved one other r w =
    let rooms : length one.rooms ≡ length other.rooms = sym (length-map one.rooms (λ (room : ListedRoom). room.frame)) ∙ ap length r.frames ∙ length-map other.rooms (λ (room : ListedRoom). room.frame) in
    let objects : length (placed other) ≡ length (placed one) = length_permutation (placed one) (placed other) r.objects in
    let accounts : length other.accounts ≡ length one.accounts = length_permutation one.accounts other.accounts r.accounts in
    record { some = rw (← rooms) w.some; rooms = rw (← rooms) w.rooms; objects = rw objects w.objects; players = rw accounts w.players }

-- the rooms of the worlds that they list
rooms_same : (one other : Listing) → IsReordered one other → (world_listed one).rooms ≡ (world_listed other).rooms
rooms_same one other r =
    same_map nat_cmp_total nat_cmp-IsAntisymmetric _ _
    (λ k. frame_listed one k ∙ ap (λ (frames : List Frame). slice_get frames k) r.frames ∙ sym (frame_listed other k))

-- what is true of the rooms alone
rooms_moved : (one other : Listing) → IsReordered one other → (P : FinMap nat_cmp Frame → Type 0) → P (world_listed one).rooms → P (world_listed other).rooms
rooms_moved one other r P p = subst P (rooms_same one other r) p

-- what is true of the rooms and the objects, where each id is there once
objects_moved : (one other : Listing) → IsReordered one other → IsOnce one → (P : World → Type 0) → P (record (world_listed one) { accounts = (world_listed other).accounts }) → P (world_listed other)
objects_moved one other r once P p =
    let objects = same_entries (placed one) (placed other) r.objects once in
    let worlds : record (world_listed one) { accounts = (world_listed other).accounts } ≡ world_listed other =
    λ i. record {
      rules = r.rules i;
      tick = r.tick i;
      rooms = rooms_same one other r i;
      objects = objects i;
      accounts = (world_listed other).accounts;
    } in
    subst P worlds p

wrong_moved : (one other : World) → ((n : ℕ) → IsPlayer other n → IsPlayer one n) → (object : Object) → HasWrongOwner one object → HasWrongOwner other object
wrong_moved one other back object (inl (some, inl none)) = inl (some, inl (λ player. none (back object.owner player)))
wrong_moved one other back object (inl (some, inr may)) = inl (some, inr may)
wrong_moved one other back object (inr (some, inl none)) = inr (some, inl (λ player. none (back object.other player)))
wrong_moved one other back object (inr (some, inr may)) = inr (some, inr may)

broken_moved : (one other : Listing) → IsReordered one other → (rule : Rule) (n : ℕ) → (5 < rule_place rule → IsOnce one) → Broken rule n one → Broken rule n other
broken_moved one other r rules.Counts n once broken = (broken.0, λ fits. broken.1 (within_moved other one (turned one other r) fits))
broken_moved one other r rules.RoomTwice n once broken = rooms_moved one other r (λ rooms. HasEarlierName (record (world_listed one) { rooms = rooms }) n) broken
broken_moved one other r rules.Corner n once broken = rooms_moved one other r (λ rooms. (frame : Frame) × (get rooms n ≡ Some frame) × HasOpenCorner frame.grounds) broken
broken_moved one other r rules.Serial n once broken =
    let stands = stands_moved one other r n broken.0 broken.1 in
    (stands.0, stands.1, rooms_moved one other r (λ rooms. HasNoBirth (record (world_listed one) { rooms = rooms }) n) broken.2)
broken_moved one other r rules.IdTwice n once broken = rw (sum_by-IsPermutation (λ (e : ℕ × Placed). cond (e.0 == n) 1 0) (placed one) (placed other) r.objects) broken
broken_moved one other r rules.Tile n once broken =
    objects_moved one other r (once (omega arith)) (λ w. (object : Placed) × (frame : Frame) × Stands w n object × IsRoom w object.room frame × IsOnWrongTile frame.grounds object.object) broken
broken_moved one other r rules.Shared n once broken =
    objects_moved one other r (once (omega arith)) (λ w. (lesser : ℕ) × (first : Placed) × (second : Placed) × (lesser < n) × Stands w lesser first × Stands w n second × IsInTheWay first second) broken
broken_moved one other r rules.Owner n once broken = (
  broken.0,
  objects_moved one other r (once (omega arith)) (λ w. Stands w n broken.0) broken.1,
  wrong_moved (world_listed one) (world_listed other) (player_moved other one (turned one other r)) broken.0.object broken.2,
)
broken_moved one other r rules.Controllers n once broken =
    objects_moved one other r (once (omega arith)) (λ w. (lesser : ℕ) × (greater : ℕ) × (first : Placed) × (second : Placed) × (lesser < greater) × Stands w lesser first × Stands w greater second
    × (first.room ≡ n) × (second.room ≡ n) × (is_controller first.object.kind ≡ true) × (is_controller second.object.kind ≡ true)) broken
broken_moved one other r rules.Range n once broken = objects_moved one other r (once (omega arith)) (λ w. (object : Placed) × Stands w n object × ¬ IsInRangeAs object.object.kind object.object) broken
broken_moved one other r rules.PlayerTwice n once broken = rw (sum_by-IsPermutation (λ (account : Account). cond (account.player == n) 1 0) one.accounts other.accounts r.accounts) broken
broken_moved one other r rules.Sites n once broken = (
  player_moved one other r n broken.0,
  rw (sum_by-IsPermutation (λ (e : ℕ × Placed). cond (is_site e.1.object.kind && (e.1.object.owner == n)) 1 0) (placed one) (placed other) r.objects) broken.1,
)

-- The first broken rule of the one is that of the other.
pub first_moved : (one other : Listing) → IsReordered one other → (rule : Rule) (n : ℕ) → IsFirstBroken rule n one → IsFirstBroken rule n other
first_moved one other r rule n first =
    let once = λ (late : 5 < rule_place rule). once_kept one (λ q broken. first.earlier rules.IdTwice q late broken) in
    let once_there = λ (late : 5 < rule_place rule). once_moved one other r (once late) in
    let back = turned one other r in
    record {
      broken = broken_moved one other r rule n once first.broken;
      earlier = λ before m less broken. first.earlier before m less (broken_moved other one back before m (λ late. once_there (omega arith)) broken);
      least = λ m less broken. first.least m less (broken_moved other one back rule m once_there broken);
    }

-- The other keeps the rules where the one does.
pub kept_moved : (one other : Listing) → IsReordered one other → KeepsRules one → KeepsRules other
kept_moved one other r keeps rule n broken =
    keeps rule n (broken_moved other one (turned one other r) rule n (λ late. once_moved one other r (once_kept one (keeps rules.IdTwice))) broken)

-- ---- the world

entry_times : (q : ℕ) (accounts : List Account) → times q (map entry_of accounts) ≡ count_by (λ account. account.player == q) accounts
entry_times q [] = refl
entry_times q (account ∷ accounts) =
    sum_by-cons (λ (e : ℕ × Account). cond (e.0 == q) 1 0) (entry_of account) (map entry_of accounts)
    ∙ ap (λ m. cond (account.player == q) 1 0 + m) (entry_times q accounts)
    ∙ sym (sum_by-cons (λ (a : Account). cond (a.player == q) 1 0) account accounts)

-- Where the rules are kept both list the same world.
pub world_moved : (one other : Listing) → IsReordered one other → KeepsRules one → world_listed one ≡ world_listed other
world_moved one other r keeps =
    let objects = same_entries (placed one) (placed other) r.objects (once_kept one (keeps rules.IdTwice)) in
    let few : (q : ℕ) → times q (map entry_of one.accounts) < 2 = λ q. elim (cases_lt (times q (map entry_of one.accounts)) 2) [
      | inl lt ↦ lt
      | inr le ↦ absurd (keeps rules.PlayerTwice q (rw entry_times at le))
    ] in
    let accounts = same_entries (map entry_of one.accounts) (map entry_of other.accounts) (IsPermutation-map entry_of one.accounts other.accounts r.accounts) few in
    λ i. record {
      rules = r.rules i;
      tick = r.tick i;
      rooms = rooms_same one other r i;
      objects = objects i;
      accounts = accounts i;
    }
