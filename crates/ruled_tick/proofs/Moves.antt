-- The moves of a room among the entries in their turn are those that count there.
use Rattle.std.proofs.Common.{◌≡◌, ℕ, ◌==◌, ◌&&◌, if◌then◌else◌, Bool, true, false, cond, List, [], ◌∷◌, ◌++◌, map, Option, refl, sym, ap, subst, ◌∙◌}
use Rattle.std.specs.List.{AllByRecursion, filter, flat_map}
use Rattle.std.proofs.lemmas.Bool.{eqb-true}
use Rattle.game_tables.specs.Actions.{action_number}
use Rattle.game_tables.specs.declared.action.Action.{Action}
use Rattle.game_tables.specs.declared.action.Action.TheVariants.{Move}
use Rattle.intent_book.specs.declared.intent.Intent.{Intent}
use Rattle.kept_entries.specs.declared.entries.Entry.{Entry}
use Rattle.kept_entries.specs.Turns.{in_turn, placed, placed_in, AreKept}
use Rattle.world_rules.specs.World.{World}
use Rattle.world_rules.specs.Intents.{all_actions, comes_before, entries_of, in_order, is_at, is_in, kept, put_in_order, those_in}
use Rattle.room_rules.specs.Calls.{AreActorsOnce}
use Rattle.room_commutes.proofs.ActorsOnce.{moves_once}
use Rattle.ruled_tick.specs.inner.Ticked.{is_move_in, moves_in}

abbrev pub is_move : Intent → Bool
is_move entry = action_number entry.action == action_number Move

-- ---- entries and their rooms

abbrev picked : ℕ → List (Option ℕ × Intent) → List Intent
picked k pairs = map (λ pair. pair.1) (filter (λ pair. is_at k pair.0 && is_move pair.1) pairs)

of_entries : (k : ℕ) (entries : List Entry) → moves_in k entries ≡ picked k (map placed entries)
of_entries k [] = refl
of_entries k (entry ∷ entries) =
    let rest = of_entries k entries in
    elim (is_move_in k entry) as (λ b. map (λ (e : Entry). e.intent) (cond b (entry ∷ filter (is_move_in k) entries) (filter (is_move_in k) entries))
    ≡ map (λ (pair : Option ℕ × Intent). pair.1) (cond b (placed entry ∷ filter (λ pair. is_at k pair.0 && is_move pair.1) (map placed entries)) (filter (λ pair. is_at k pair.0 && is_move pair.1) (map placed entries)))) [
      | true ↦ ap (λ (more : List Intent). entry.intent ∷ more) rest
      | false ↦ rest
    ]

of_intents : (world : World) (k : ℕ) (list : List Intent) → picked k (map (placed_in world) list) ≡ filter (is_in world k) (filter is_move list)
of_intents world k [] = refl
of_intents world k (entry ∷ list) =
    let rest = of_intents world k list in
    let tail : List (Option ℕ × Intent) = filter (λ pair. is_at k pair.0 && is_move pair.1) (map (placed_in world) list) in
    let left : List Intent = filter (is_in world k) (filter is_move list) in
    elim (is_move entry) as (λ b. map (λ (pair : Option ℕ × Intent). pair.1) (cond (is_in world k entry && b) (placed_in world entry ∷ tail) tail) ≡ filter (is_in world k) (cond b (entry ∷ filter is_move list) (filter is_move list))) [
      | true ↦ elim (is_in world k entry) as (λ b. map (λ (pair : Option ℕ × Intent). pair.1) (cond (b && true) (placed_in world entry ∷ tail) tail) ≡ cond b (entry ∷ left) left) [
        | true ↦ ap (λ (more : List Intent). entry ∷ more) rest
        | false ↦ rest
      ]
      | false ↦ elim (is_in world k entry) as (λ b. map (λ (pair : Option ℕ × Intent). pair.1) (cond (b && false) (placed_in world entry ∷ tail) tail) ≡ left) [ true ↦ rest | false ↦ rest ]
    ]

-- ---- the moves among the entries in their turn

abbrev AreOf : ℕ → List Intent → Type 0
AreOf n list = AllByRecursion (λ entry. (action_number entry.action == n) ≡ true) list

put_of : (n : ℕ) (entry : Intent) (list : List Intent) → (action_number entry.action == n) ≡ true → AreOf n list → AreOf n (put_in_order entry list)
put_of n entry [] is all = (is, tt)
put_of n entry (first ∷ later) is all =
    elim (comes_before entry first) as (λ b. AreOf n (if b then entry ∷ first ∷ later else first ∷ put_in_order entry later)) [
      | true ↦ (is, all)
      | false ↦ (all.0, put_of n entry later is all.1)
    ]

order_of : (n : ℕ) (list : List Intent) → AreOf n list → AreOf n (in_order list)
order_of n [] all = tt
order_of n (entry ∷ later) all = put_of n entry (in_order later) all.0 (order_of n later all.1)

filter_of : (n : ℕ) (list : List Intent) → AreOf n (filter (λ entry. action_number entry.action == n) list)
filter_of n [] = tt
filter_of n (entry ∷ list) =
    elim (action_number entry.action == n) as (λ b. (action_number entry.action == n) ≡ b → AreOf n (cond b (entry ∷ filter (λ entry. action_number entry.action == n) list) (filter (λ entry. action_number entry.action == n) list))) [
      | true ↦ λ is. (is, filter_of n list)
      | false ↦ λ is. filter_of n list
    ] refl

-- of entries of one action all are moves or none is
moves_of : (n : ℕ) (list : List Intent) → AreOf n list → filter is_move list ≡ (if n == action_number Move then list else [])
moves_of n [] all =
    let nothing : List Intent = [] in
    elim (n == action_number Move) as (λ b. nothing ≡ (if b then nothing else nothing)) [ true ↦ refl | false ↦ refl ]
moves_of n (entry ∷ list) all =
    let number : action_number entry.action ≡ n = eqb-true (action_number entry.action) n all.0 in
    let rest = moves_of n list all.1 in
    ap (λ (m : ℕ). cond (m == action_number Move) (entry ∷ filter is_move list) (filter is_move list)) number
    ∙ elim (n == action_number Move) as (λ b. filter is_move list ≡ (if b then list else []) → cond b (entry ∷ filter is_move list) (filter is_move list) ≡ (if b then entry ∷ list else [])) [
      | true ↦ λ same. ap (λ (more : List Intent). entry ∷ more) same
      | false ↦ λ same. same
    ] rest

filter_append : (one other : List Intent) → filter is_move (one ++ other) ≡ filter is_move one ++ filter is_move other
filter_append [] other = refl
filter_append (entry ∷ one) other =
    let rest = filter_append one other in
    elim (is_move entry) as (λ b. cond b (entry ∷ filter is_move (one ++ other)) (filter is_move (one ++ other)) ≡ cond b (entry ∷ filter is_move one) (filter is_move one) ++ filter is_move other) [
      | true ↦ ap (λ (more : List Intent). entry ∷ more) rest
      | false ↦ rest
    ]

abbrev if_move : List Intent → Action → List Intent
if_move list action = if action_number action == action_number Move then entries_of action list else []

turns_of : (list : List Intent) (actions : List Action) → filter is_move (flat_map (λ action. entries_of action list) actions) ≡ flat_map (if_move list) actions
turns_of list [] = refl
turns_of list (action ∷ later) =
    let of_action : AreOf (action_number action) (entries_of action list) = order_of (action_number action) (filter (λ entry. action_number entry.action == action_number action) list) (filter_of (action_number action) list) in
    filter_append (entries_of action list) (flat_map (λ action. entries_of action list) later)
    ∙ (λ i. moves_of (action_number action) (entries_of action list) of_action i ++ turns_of list later i)

with_nothing : (list : List Intent) → list ++ [] ≡ list
with_nothing [] = refl
with_nothing (entry ∷ list) = ap (λ (more : List Intent). entry ∷ more) (with_nothing list)

pub moves_in_turn : (list : List Intent) → filter is_move (in_turn list) ≡ entries_of Move list
moves_in_turn list = turns_of list all_actions ∙ with_nothing (entries_of Move list)

pub moves_kept : (world : World) (list : List Intent) (entries : List Entry) → AreKept world list entries → (k : ℕ) → moves_in k entries ≡ those_in world k (entries_of Move (kept world list))
moves_kept world list entries are k =
    of_entries k entries
    ∙ ap (picked k) are
    ∙ of_intents world k (in_turn (kept world list))
    ∙ ap (filter (is_in world k)) (moves_in_turn (kept world list))

pub actors_once : (world : World) (list : List Intent) (entries : List Entry) → AreKept world list entries → (k : ℕ) → AreActorsOnce (moves_in k entries)
actors_once world list entries are k = subst AreActorsOnce (sym (moves_kept world list entries are k)) (moves_once world list k)
