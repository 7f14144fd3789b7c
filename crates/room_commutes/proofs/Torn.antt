-- What entries do to objects is left by the rules of their action: only a dismantle both harms and changes something, and
-- it changes nothing that a dismantle reads.
use Rattle.std.proofs.Common.{◌≡◌, ℕ, ◌+◌, ◌-◌, ◌^◌, ◌<◌, ◌==◌, ◌&&◌, ◌||◌, min, Bool, true, false, cond, List, [], get_or, Option, Some, None, option_map, refl, sym, ap, subst, ◌∙◌, arith}
use Rattle.std.specs.Prelude.{nat_lt, if◌then◌else◌}
use Rattle.std.specs.Ordering.{nat_cmp}
use Rattle.std.specs.Cmp.{nat_cmp_total, unsigned_tied}
use Rattle.std.specs.FinMap.{FinMap, get, insert, values, entries, entries_sorted, get-entries, get-insert}
use Rattle.std.proofs.lemmas.Bool.{eqb-true, and_parts, ltb-true, or_left, or_right}
use Rattle.std.proofs.lemmas.List.Elements.{Contains-get_or}
use Rattle.game_tables.specs.Actions.{action_number}
use Rattle.game_tables.specs.Kinds.{is_building, is_creep, is_pile}
use Rattle.game_tables.specs.declared.action.Action.{Action}
use Rattle.game_tables.specs.declared.action.Action.TheVariants as actions
use Rattle.game_tables.specs.declared.kind.Kind.{Kind}
use Rattle.game_tables.specs.declared.kind.Kind.TheVariants.{Pile}
use Rattle.object_store.specs.Stored.{Stored}
use Rattle.room_table.specs.Stores.{free_room}
use Rattle.room_table.specs.declared.object.Object.{Object}
use Rattle.intent_book.specs.declared.intent.Intent.{Intent}
use Rattle.world_rules.specs.World.{Placed, world_of}
use Rattle.world_rules.specs.RoomParts.{RoomPart, controller_of}
use Rattle.world_rules.specs.RuleBook.{Harm, no_harm}
use Rattle.world_rules.specs.Changes.{put, with_object, next_id, with_new}
use Rattle.world_rules.specs.Checks.{both_of, takes_effect, may_take_effect, parties, between}
use Rattle.world_rules.specs.Drops.{is_pile_on, pile_bound, pile_on, pile_of, fallen_on, fallen}
use Rattle.world_rules.specs.Loads.{with_more}
use Rattle.world_rules.specs.Work.{live_work}
use Rattle.world_rules.specs.Fights.{harm_between, harm_by_parties, torn_by, salvage, dismantled_by, dismantled}
use Rattle.world_rules.specs.Intents.{all_actions, entries_of, kept}
use Rattle.world_rules.specs.Tick.{acted, begun, rule_of, harm_by, book}
use Rattle.world_rules.specs.Sound.{IsSound}
use Rattle.world_rules.proofs.Keys.{once_of_sorted}
use Rattle.world_rules.proofs.Orderly.{book_orderly}
use Rattle.room_commutes.specs.Running.{running_actions, LeavesHarm, LeaveHarms}
use Rattle.room_commutes.specs.Serials.{AreOwnSerialsUsed}
use Rattle.room_commutes.specs.Standing.{AreKeyed}
use Rattle.room_commutes.proofs.ActorsOnce.{entry_of}
use Rattle.room_commutes.proofs.Births.{used_stored}
use Rattle.room_commutes.proofs.CreepsApart.{first_has}
use Rattle.room_commutes.proofs.Harmed.{running_all}
use Rattle.room_commutes.proofs.Keyed.{book_keyed, keyed_object, keyed_stored}
use Rattle.room_commutes.proofs.Members.{map_has, has_found}

-- ---- what a dismantle reads

-- It is a creep or a building.
abbrev is_read : Kind → Bool
is_read kind = is_creep kind || is_building kind

-- what a dismantle reads of what stands under an id: a creep or a building, but for its energy
abbrev read_of : Option Object → Option Object
read_of None = None
read_of (Some object) = if is_read object.kind then Some (record object { energy = 0 }) else None

abbrev placed_at : ℕ → Object → Placed
placed_at room object = record { room = room; object = object }

-- what a dismantle does with what stands under the ids of its actor and its target
abbrev torn_with : Intent → ℕ → Option Object → Option Object → Harm
torn_with entry room actor target =
    harm_between torn_by (if takes_effect actions.Dismantle entry [] (option_map (placed_at room) actor) (option_map (placed_at room) target) then both_of actor target else None)

-- It does nothing without a creep and a building.
no_actor : (entry : Intent) (room : ℕ) (target : Option Object) → torn_with entry room None target ≡ no_harm
no_actor entry room target = refl

no_creep : (entry : Intent) (room : ℕ) (actor : Object) (target : Option Object) → is_creep actor.kind ≡ false → torn_with entry room (Some actor) target ≡ no_harm
no_creep entry room actor target other = rw other refl

none_between : (b : Bool) → harm_between torn_by (if b then None else None) ≡ no_harm
none_between true = refl
none_between false = refl

no_target : (entry : Intent) (room : ℕ) (actor : Object) → torn_with entry room (Some actor) None ≡ no_harm
no_target entry room actor = none_between (takes_effect actions.Dismantle entry [] (Some (placed_at room actor)) None)

fails : (a b c e : Bool) (found : Option (Object × Object)) → harm_between torn_by (if (a && (b && (c && false))) && e then found else None) ≡ no_harm
fails false b c e found = refl
fails true false c e found = refl
fails true true false e found = refl
fails true true true e found = refl

no_building : (entry : Intent) (room : ℕ) (actor target : Object) → is_building target.kind ≡ false → torn_with entry room (Some actor) (Some target) ≡ no_harm
no_building entry room actor target other =
    rw other (fails (is_creep actor.kind) (actor.owner == entry.player) (nat_lt 0 (live_work actor)) (nat_lt 0 actor.hits) (Some (actor, target)))

no_creep_read : (entry : Intent) (room : ℕ) (actor : Object) (target : Option Object) → is_creep actor.kind ≡ false → torn_with entry room (read_of (Some actor)) target ≡ no_harm
no_creep_read entry room actor target other = elim (is_read actor.kind) as (λ b. torn_with entry room (if b then Some (record actor { energy = 0 }) else None) target ≡ no_harm) [
  | true ↦ no_creep entry room (record actor { energy = 0 }) target other
  | false ↦ no_actor entry room target
]

no_building_read : (entry : Intent) (room : ℕ) (actor target : Object) → is_building target.kind ≡ false → torn_with entry room (Some actor) (read_of (Some target)) ≡ no_harm
no_building_read entry room actor target other = elim (is_read target.kind) as (λ b. torn_with entry room (Some actor) (if b then Some (record target { energy = 0 }) else None) ≡ no_harm) [
  | true ↦ no_building entry room actor (record target { energy = 0 }) other
  | false ↦ no_target entry room actor
]

read_is : (object : Object) → is_read object.kind ≡ true → read_of (Some object) ≡ Some (record object { energy = 0 })
read_is object is = ap (λ (b : Bool). if b then Some (record object { energy = 0 }) else None) is

torn_if : (b : Bool) (creep target : Object)
    → harm_between torn_by (if b then Some (creep, target) else None) ≡ harm_between torn_by (if b then Some (record creep { energy = 0 }, record target { energy = 0 }) else None)
torn_if true creep target = refl
torn_if false creep target = refl

-- of a creep, by what is read of the target
creep_read : (entry : Intent) (room : ℕ) (creep target : Object) → torn_with entry room (Some creep) (Some target) ≡ torn_with entry room (Some (record creep { energy = 0 })) (read_of (Some target))
creep_read entry room creep target = elim (is_building target.kind) as (λ b. is_building target.kind ≡ b → torn_with entry room (Some creep) (Some target) ≡ torn_with entry room (Some (record creep { energy = 0 })) (read_of (Some target))) [
  | true ↦ λ is.
      torn_if (takes_effect actions.Dismantle entry [] (Some (placed_at room creep)) (Some (placed_at room target))) creep target
      ∙ sym (ap (torn_with entry room (Some (record creep { energy = 0 }))) (read_is target (or_right (is_creep target.kind) (is_building target.kind) is)))
  | false ↦ λ other. no_building entry room creep target other ∙ sym (no_building_read entry room (record creep { energy = 0 }) target other)
] refl

-- A dismantle is told by what it reads.
torn_read : (entry : Intent) (room : ℕ) (actor target : Option Object) → torn_with entry room actor target ≡ torn_with entry room (read_of actor) (read_of target)
torn_read entry room None target = refl
torn_read entry room (Some actor) target = elim (is_creep actor.kind) as (λ b. is_creep actor.kind ≡ b → torn_with entry room (Some actor) target ≡ torn_with entry room (read_of (Some actor)) (read_of target)) [
  | true ↦ λ is.
      elim target as (λ t. torn_with entry room (Some actor) t ≡ torn_with entry room (Some (record actor { energy = 0 })) (read_of t)) [
        | None ↦ no_target entry room actor ∙ sym (no_target entry room (record actor { energy = 0 }))
        | Some object ↦ creep_read entry room actor object
      ]
      ∙ sym (ap (λ found. torn_with entry room found (read_of target)) (read_is actor (or_left (is_creep actor.kind) (is_building actor.kind) is)))
  | false ↦ λ other. no_creep entry room actor target other ∙ sym (no_creep_read entry room actor (read_of target) other)
] refl

-- ---- what a dismantle leaves

-- The same is read of what stands under each id.
abbrev IsReadSame : RoomPart → RoomPart → Type 0
IsReadSame part after = (id : ℕ) → read_of (get after.objects id) ≡ read_of (get part.objects id)

-- Nothing is read under the room's next id.
abbrev IsFree : RoomPart → Type 0
IsFree part = nat_lt part.next (2 ^ 32) ≡ true → None ≡ read_of (get part.objects (next_id part))

read_insert : (m : FinMap nat_cmp Object) (k : ℕ) (object : Object) → read_of (Some object) ≡ read_of (get m k) → (id : ℕ) → read_of (get (insert m k object) id) ≡ read_of (get m id)
read_insert m k object same id =
    ap read_of (get-insert nat_cmp_total m k object id ∙ ap (λ (b : Bool). cond b (Some object) (get m id)) (unsigned_tied id k))
    ∙ elim (id == k) as (λ b. (id == k) ≡ b → read_of (cond b (Some object) (get m id)) ≡ read_of (get m id)) [
      | true ↦ λ at. same ∙ ap (λ n. read_of (get m n)) (sym (eqb-true id k at))
      | false ↦ λ at. refl
    ] refl

read_put : (object : Object) (part : RoomPart) (old : Option Object) → read_of (Some object) ≡ read_of (get part.objects object.id) → IsReadSame part (put object part old)
read_put object part None same = λ id. refl
read_put object part (Some old) same = read_insert part.objects object.id object same

free_put : (object : Object) (part : RoomPart) (old : Option Object) → IsReadSame part (put object part old) → IsFree part → IsFree (put object part old)
free_put object part None same free = free
free_put object part (Some old) same free = λ less. free less ∙ sym (same (next_id part))

read_new : (make : ℕ → Object) (part : RoomPart) → read_of (Some (make (next_id part))) ≡ None → IsFree part → IsReadSame part (with_new make part)
read_new make part none free id =
    let more : RoomPart = record part { next = part.next + 1; objects = insert part.objects (next_id part) (make (next_id part)) } in
    elim (nat_lt part.next (2 ^ 32)) as (λ b. nat_lt part.next (2 ^ 32) ≡ b → read_of (get (if b then more else part).objects id) ≡ read_of (get part.objects id)) [
      | true ↦ λ less. read_insert part.objects (next_id part) (make (next_id part)) (none ∙ free less) id
      | false ↦ λ most. refl
    ] refl

pile_unread : (kind : Kind) → is_pile kind ≡ true → is_read kind ≡ false
pile_unread Pile is = refl
pile_unread _ is = absurd (cc)

unread : (object : Object) → is_read object.kind ≡ false → read_of (Some object) ≡ None
unread object other = ap (λ (b : Bool). if b then Some (record object { energy = 0 }) else None) other

-- The pile of a tile stands under its id.
pile_stands : (x y : ℕ) (part : RoomPart) (pile : Object) → AreKeyed part → pile_on x y part ≡ Some pile → (get part.objects pile.id ≡ Some pile) × (is_pile pile.kind ≡ true)
pile_stands x y part pile keyed is =
    let has = first_has (is_pile_on x y) (values part.objects) pile is in
    let from = map_has (λ (e : ℕ × Object). e.1) (entries part.objects) pile has.0 in
    let there : get part.objects from.0.0 ≡ Some pile = get-entries part.objects from.0.0 ∙ has_found (entries part.objects) (once_of_sorted (entries part.objects) (entries_sorted part.objects)) from.0 from.1 ∙ ap Some from.2 in
    (ap (get part.objects) (keyed from.0.0 pile there) ∙ there, (and_parts (is_pile pile.kind) (pile.x == x) (and_parts (is_pile pile.kind && (pile.x == x)) (pile.y == y) has.1).0).0)

read_fallen_on : (x y amount : ℕ) (part : RoomPart) (found : Option Object) → AreKeyed part → IsFree part → pile_on x y part ≡ found → IsReadSame part (fallen_on found x y amount part)
read_fallen_on x y amount part None keyed free is = read_new (λ id. pile_of id x y (min pile_bound amount)) part refl free
read_fallen_on x y amount part (Some pile) keyed free is =
    let stands = pile_stands x y part pile keyed is in
    let more : Object = record pile { energy = min pile_bound (pile.energy + amount) } in
    read_put more part (get part.objects pile.id) (unread more (pile_unread pile.kind stands.1) ∙ sym (unread pile (pile_unread pile.kind stands.1)) ∙ sym (ap read_of stands.0))

read_fallen : (x y amount : ℕ) (part : RoomPart) → AreKeyed part → IsFree part → IsReadSame part (fallen x y amount part)
read_fallen x y amount part keyed free id = elim (amount == 0) as (λ b. read_of (get (if b then part else fallen_on (pile_on x y part) x y amount part).objects id) ≡ read_of (get part.objects id)) [
  | true ↦ refl
  | false ↦ read_fallen_on x y amount part (pile_on x y part) keyed free refl id
]

read_dismantled_by : (creep building : Object) (part : RoomPart) → AreKeyed part → IsFree part → get part.objects creep.id ≡ Some creep → IsReadSame part (dismantled_by creep building part)
read_dismantled_by creep building part keyed free is id =
    let amount : ℕ = salvage creep building in
    let taken : ℕ = min amount (free_room (controller_of part) creep) in
    let more : Object = with_more taken creep in
    let same : IsReadSame part (with_object more part) = read_put more part (get part.objects creep.id) (sym (ap read_of is)) in
    read_fallen creep.x creep.y (amount - taken) (with_object more part) (keyed_object more part keyed) (free_put more part (get part.objects creep.id) same free) id ∙ same id

actor_stands : (b : Bool) (actor target : Option Object) (found : Object × Object) → (if b then both_of actor target else None) ≡ Some found → actor ≡ Some found.0
actor_stands false actor target found is = absurd (cc)
actor_stands true None target found is = absurd (cc)
actor_stands true (Some creep) None found is = absurd (cc)
actor_stands true (Some creep) (Some target) found is = let same : (creep, target) ≡ found = cc in ap (λ (f : Object × Object). Some f.0) same

read_between : (entry : Intent) (part : RoomPart) (found : Option (Object × Object)) → AreKeyed part → IsFree part → parties actions.Dismantle entry part ≡ found → IsReadSame part (between dismantled_by found part)
read_between entry part None keyed free is = λ id. refl
read_between entry part (Some found) keyed free is =
    let there : get part.objects entry.actor ≡ Some found.0 = actor_stands (may_take_effect actions.Dismantle entry part) (get part.objects entry.actor) (get part.objects entry.target) found is in
    read_dismantled_by found.0 found.1 part keyed free (ap (get part.objects) (keyed entry.actor found.0 there) ∙ there)

free_used : (part : RoomPart) → AreOwnSerialsUsed part → IsFree part
free_used part used less = elim (get part.objects (next_id part)) as (λ found. get part.objects (next_id part) ≡ found → None ≡ read_of found) [
  | None ↦ λ is. refl
  | Some object ↦ λ is. let own : part.next < part.next = used part.next object (ltb-true part.next (2 ^ 32) less) is in absurd (omega arith)
] refl

-- A dismantle leaves what another does to objects.
torn_left : (one other : Intent) (part : RoomPart) → AreKeyed part → AreOwnSerialsUsed part → harm_by_parties actions.Dismantle torn_by other (dismantled one part) ≡ harm_by_parties actions.Dismantle torn_by other part
torn_left one other part keyed used =
    let after : RoomPart = dismantled one part in
    let same : IsReadSame part after = read_between one part (parties actions.Dismantle one part) keyed (free_used part used) refl in
    let index : after.index ≡ part.index = (book_orderly.effect (record one { action = actions.Dismantle }) part).index in
    torn_read other after.index (get after.objects other.actor) (get after.objects other.target)
    ∙ (λ i. torn_with other (index i) (same other.actor i) (same other.target i))
    ∙ sym (torn_read other part.index (get part.objects other.actor) (get part.objects other.target))

-- ---- all actions

-- The rule of an action leaves what another entry of it does to objects.
harm_left : (action : Action) (one other : Intent) (part : RoomPart) → AreKeyed part → AreOwnSerialsUsed part → harm_by action other (rule_of action one part).part ≡ harm_by action other part
harm_left actions.Dismantle one other part keyed used = torn_left one other part keyed used
harm_left _ one other part keyed used = refl

action_numbered : (action : Action) → get_or all_actions (action_number action - 1) actions.Move ≡ action
action_numbered actions.DropLoad = refl
action_numbered _ = refl

-- Actions of one number are one.
pub same_action : (one other : Action) → action_number one ≡ action_number other → one ≡ other
same_action one other same = sym (action_numbered one) ∙ ap (λ (n : ℕ). get_or all_actions (n - 1) actions.Move) same ∙ action_numbered other

pub leaves_harm : (one other : Intent) → action_number one.action ≡ action_number other.action → LeavesHarm book one other
leaves_harm one other same part keyed used =
    subst (λ action. harm_by action other (rule_of one.action one part).part ≡ harm_by action other part) (same_action one.action other.action same) (harm_left one.action one other part keyed used)

-- By the rules in force the rule of each entry leaves what later entries of its action do to objects.
pub harms_left : (list : List Intent) (action : Action) → LeaveHarms book (entries_of action list)
harms_left list action i j d less within =
    let those : List Intent = entries_of action list in
    leaves_harm (get_or those i d) (get_or those j d)
    ((entry_of action list (get_or those i d) (Contains-get_or those i d (omega arith))).1 ∙ sym (entry_of action list (get_or those j d) (Contains-get_or those j d within)).1)

-- By the rules in force harms may be read as the rules run.
pub game_running : (stored : Stored) → IsSound stored → (list : List Intent)
    → running_actions book (world_of stored) all_actions (kept (world_of stored) list) (begun (world_of stored)) ≡ acted book (world_of stored) list
game_running stored sound list = running_all book book_orderly book_keyed (world_of stored) all_actions (kept (world_of stored) list) (begun (world_of stored)) (used_stored stored sound) (keyed_stored stored) (harms_left (kept (world_of stored) list))
