-- What is gathered of one room more.
use Rattle.std.proofs.Common.{◌≡◌, ℕ, zero, suc, ◌+◌, ◌<◌, ◌==◌, ◌&&◌, ◌||◌, Bool, true, false, cond, if◌then◌else◌, List, [], ◌∷◌, ◌++◌, map, length, Option, Some, None, option_map, option_and_then, refl, sym, ap, subst, ◌∙◌, inl, inr, arith, append_assoc}
use Rattle.std.specs.List.{AllByRecursion, count_by, find, list_any}
use Rattle.std.specs.Option.{option_or}
use Rattle.std.proofs.lemmas.Bool.{cases_eq, eq-eqb, ne_eqb}
use Rattle.std.specs.Prelude.{slice_get}
use Rattle.std.proofs.lemmas.List.{map-append, append-nil, length-append}
use Rattle.std.proofs.lemmas.List.Folds.{find-append}
use Rattle.std.proofs.lemmas.List.Sums.{sum_by-cons, sum_by_push}
use Rattle.room_table.specs.declared.object.Object.{Object}
use Rattle.object_store.specs.declared.world.Room.{Room}
use Rattle.object_store.proofs.Accounts.{all_push}
use Rattle.room_table.proofs.Rising.{Rises, all_weaker}
use Rattle.game_tables.specs.Kinds.{is_building, is_controller, is_creep, is_site}
use Rattle.world_rules.specs.Sights.{gives_sight}
use Rattle.visible_view.specs.Sights.{SeenRoom}
use Rattle.visible_view.specs.inner.Gathered.{shown_room, is_controller_of, is_seen, is_site_of, from_each, kept_objects, objects_if_seen, room_if_seen, controllers_at, sites_at, KeepsRoomIf, IsAdded, IsGathered}
use Rattle.visible_view.specs.declared.gather.RoomInView.{RoomInView}
use Rattle.visible_view.specs.declared.gather.Gathered.{Gathered}

from_each_push : {A : Type 0} (taken : ℕ → Room → List A) (index : ℕ) (rooms : List Room) (room : Room) → from_each taken index (rooms ++ room ∷ []) ≡ from_each taken index rooms ++ taken (index + length rooms) room
from_each_push taken index [] room = append-nil (taken index room) ∙ ap (λ (n : ℕ). taken n room) (omega arith)
from_each_push {A} taken index (first ∷ rooms) room =
    let rest = from_each_push taken (suc index) rooms room in
    let place : suc index + length rooms ≡ index + suc (length rooms) = omega arith in
    ap (λ (more : List A). taken index first ++ more) (rest ∙ ap (λ (n : ℕ). from_each taken (suc index) rooms ++ taken n room) place)
    ∙ sym (append_assoc (taken index first) (from_each taken (suc index) rooms) (taken (index + suc (length rooms)) room))

-- ---- rooms that rise

rises_push : {X : Type 0} (key : X → ℕ) (xs : List X) (x : X) → Rises key xs → AllByRecursion (λ earlier. key earlier < key x) xs → Rises key (xs ++ x ∷ [])
rises_push key [] x rising below = (tt, tt)
rises_push key (first ∷ xs) x rising below = (all_push (λ later. key first < key later) xs x rising.0 below.0, rises_push key xs x rising.1 below.1)

none_of_index : (index : ℕ) (rooms : List RoomInView) → AllByRecursion (λ room. room.index < index) rooms → find (λ (room : RoomInView). room.index == index) rooms ≡ None
none_of_index index [] below = refl
none_of_index index (room ∷ rooms) below =
    let less : room.index < index = below.0 in
    rw (ne_eqb room.index index (λ same. omega arith)) (none_of_index index rooms below.1)

-- ---- tables

push_here : (taken : List Room) (room : Room) → slice_get (taken ++ room ∷ []) (length taken) ≡ Some room
push_here [] room = refl
push_here (first ∷ taken) room = push_here taken room

push_there : (taken : List Room) (room : Room) (q : ℕ) → (q ≡ length taken → ⊥) → slice_get (taken ++ room ∷ []) q ≡ slice_get taken q
push_there [] room zero apart = absurd (apart refl)
push_there [] room (suc q) apart = refl
push_there (first ∷ taken) room zero apart = refl
push_there (first ∷ taken) room (suc q) apart = push_there taken room q (λ same. apart (ap suc same))

or_none : {X : Type 0} (one : Option X) → option_or one None ≡ one
or_none None = refl
or_none (Some x) = refl

abbrev has_index : ℕ → RoomInView → Bool
has_index q room = room.index == q

abbrev objects_of : RoomInView → List Object
objects_of room = room.room.now.table.objects

kept_push : (q : ℕ) (old : List RoomInView) (kept : RoomInView) (b : Bool) → (kept.index == q) ≡ b → kept_objects q (old ++ kept ∷ []) ≡ option_map objects_of (option_or (find (has_index q) old) (cond b (Some kept) None))
kept_push q old kept b is =
    ap (option_map objects_of) (find-append (has_index q) old (kept ∷ []) ∙ ap (λ (c : Bool). option_or (find (has_index q) old) (cond c (Some kept) None)) is)

-- The tables that are kept are those of the rooms that are seen.
abbrev HaveSeen : ℕ → List RoomInView → List Room → Type 0
HaveSeen player kept rooms = (q : ℕ) → kept_objects q kept ≡ option_and_then (objects_if_seen player) (slice_get rooms q)

abbrev told_if : Bool → Room → Option (List Object)
told_if b room = if b then Some room.table.objects else None

-- at the index of the room that is added
table_here : (index : ℕ) (room : Room) (b : Bool) (old new : List RoomInView) → AllByRecursion (λ r. r.index < index) old → KeepsRoomIf b index room old new → kept_objects index new ≡ told_if b room
table_here index room true old new below keeps =
    let kept = keeps.kept in
    let at : (kept.index == index) ≡ true = eq-eqb kept.index index keeps.place in
    ap (kept_objects index) keeps.last
    ∙ kept_push index old kept true at
    ∙ ap (λ (found : Option RoomInView). option_map objects_of (option_or found (Some kept))) (none_of_index index old below)
    ∙ ap (λ (r : Room). Some r.table.objects) keeps.stored
table_here index room false old new below same =
    ap (kept_objects index) same ∙ ap (option_map objects_of) (none_of_index index old below)

-- at any other
table_there : (q index : ℕ) (room : Room) (b : Bool) (old new : List RoomInView) → (q ≡ index → ⊥) → KeepsRoomIf b index room old new → kept_objects q new ≡ kept_objects q old
table_there q index room true old new apart keeps =
    let kept = keeps.kept in
    let at : (kept.index == q) ≡ false = ne_eqb kept.index q (λ same. apart (sym same ∙ keeps.place)) in
    ap (kept_objects q) keeps.last
    ∙ kept_push q old kept false at
    ∙ ap (option_map objects_of) (or_none (find (has_index q) old))
table_there q index room false old new apart same = ap (kept_objects q) same

tables_more : (player index : ℕ) (taken : List Room) (room : Room) (old new : List RoomInView) → index ≡ length taken → AllByRecursion (λ r. r.index < index) old → HaveSeen player old taken
    → KeepsRoomIf (is_seen player room) index room old new → HaveSeen player new (taken ++ room ∷ [])
tables_more player index taken room old new place below have keeps q =
    elim (cases_eq q index) [
      | inl same ↦
          ap (λ (n : ℕ). kept_objects n new) same
          ∙ table_here index room (is_seen player room) old new below keeps
          ∙ ap (option_and_then (objects_if_seen player)) (sym (ap (slice_get (taken ++ room ∷ [])) (same ∙ place) ∙ push_here taken room))
      | inr apart ↦
          table_there q index room (is_seen player room) old new apart keeps
          ∙ have q
          ∙ ap (option_and_then (objects_if_seen player)) (sym (push_there taken room q (λ same. apart (same ∙ sym place))))
    ]

-- ---- one room more

grown : (taken : List Room) (room : Room) → length (taken ++ room ∷ []) ≡ suc (length taken)
grown taken room = length-append taken (room ∷ []) ∙ omega arith

shown_more : (player index : ℕ) (room : Room) (b : Bool) (old new : List RoomInView) → is_seen player room ≡ b → KeepsRoomIf b index room old new → map shown_room new ≡ map shown_room old ++ room_if_seen player index room
shown_more player index room true old new is keeps =
    let last : List SeenRoom = record { index = index; name = room.name; grounds = room.terrain } ∷ [] in
    let one : shown_room keeps.kept ∷ [] ≡ last = λ i. record { index = keeps.place i; name = (keeps.stored i).name; grounds = (keeps.stored i).terrain } ∷ [] in
    ap (map shown_room) keeps.last ∙ map-append shown_room old (keeps.kept ∷ []) ∙ ap (λ (rest : List SeenRoom). map shown_room old ++ rest) one
    ∙ ap (λ (c : Bool). map shown_room old ++ (if c then last else [])) (sym is)
shown_more player index room false old new is same =
    let last : List SeenRoom = record { index = index; name = room.name; grounds = room.terrain } ∷ [] in
    ap (map shown_room) same ∙ sym (append-nil (map shown_room old)) ∙ ap (λ (c : Bool). map shown_room old ++ (if c then last else [])) (sym is)

rising_more : (index : ℕ) (room : Room) (b : Bool) (old new : List RoomInView) → AllByRecursion (λ r. r.index < index) old → Rises (λ r. r.index) old → KeepsRoomIf b index room old new → Rises (λ r. r.index) new
rising_more index room true old new below rising keeps =
    let last = subst (λ (n : ℕ). AllByRecursion (λ (r : RoomInView). r.index < n) old) (sym keeps.place) below in
    subst (Rises (λ (r : RoomInView). r.index)) (sym keeps.last) (rises_push (λ (r : RoomInView). r.index) old keeps.kept rising last)
rising_more index room false old new below rising same = subst (Rises (λ (r : RoomInView). r.index)) (sym same) rising

below_more : (index : ℕ) (room : Room) (b : Bool) (old new : List RoomInView) → AllByRecursion (λ r. r.index < index) old → KeepsRoomIf b index room old new → AllByRecursion (λ r. r.index < suc index) new
below_more index room true old new below keeps =
    let place = keeps.place in
    let last : keeps.kept.index < suc index = omega arith in
    let weaker = all_weaker (λ (r : RoomInView). r.index < index) (λ (r : RoomInView). r.index < suc index) (λ r less. omega arith) old below in
    subst (AllByRecursion (λ (r : RoomInView). r.index < suc index)) (sym keeps.last) (all_push (λ (r : RoomInView). r.index < suc index) old keeps.kept weaker last)
below_more index room false old new below same =
    subst (AllByRecursion (λ (r : RoomInView). r.index < suc index)) (sym same) (all_weaker (λ (r : RoomInView). r.index < index) (λ (r : RoomInView). r.index < suc index) (λ r less. omega arith) old below)

pub gathered_more : (player index : ℕ) (taken : List Room) (room : Room) (old new : Gathered) → index ≡ length taken → IsGathered player taken old → IsAdded player index room old new → IsGathered player (taken ++ room ∷ []) new
gathered_more player index taken room old new place so added =
    let below = subst (λ (n : ℕ). AllByRecursion (λ (r : RoomInView). r.index < n) old.rooms.items) (sym place) so.below in
    record {
      shown = shown_more player index room (is_seen player room) old.rooms.items new.rooms.items refl added.rooms
          ∙ (λ i. so.shown i ++ room_if_seen player (place i) room)
          ∙ sym (from_each_push (room_if_seen player) 0 taken room ∙ ap (λ (n : ℕ). from_each (room_if_seen player) 0 taken ++ room_if_seen player n room) (omega arith));
      flags = added.flags ∙ ap (λ (flags : List Bool). flags ++ is_seen player room ∷ []) so.flags ∙ sym (map-append (is_seen player) taken (room ∷ []));
      sites = added.sites ∙ ap (λ (n : ℕ). n + sites_at player room) so.sites ∙ sym (sum_by_push (sites_at player) taken room);
      controllers = added.controllers ∙ ap (λ (n : ℕ). n + controllers_at player room) so.controllers ∙ sym (sum_by_push (controllers_at player) taken room);
      rising = rising_more index room (is_seen player room) old.rooms.items new.rooms.items below so.rising added.rooms;
      below = subst (λ (n : ℕ). AllByRecursion (λ (r : RoomInView). r.index < n) new.rooms.items) (ap suc place ∙ sym (grown taken room)) (below_more index room (is_seen player room) old.rooms.items new.rooms.items below added.rooms);
      tables = tables_more player index taken room old.rooms.items new.rooms.items place below so.tables added.rooms;
    }

-- ---- a room in which the player owns nothing

pub none_seen : (player : ℕ) (objects : List Object) → list_any (λ (o : Object). o.owner == player) objects ≡ false → list_any (gives_sight player) objects ≡ false
none_seen player [] none = refl
none_seen player (o ∷ objects) none =
    elim (o.owner == player) as (λ b. (b || list_any (λ (p : Object). p.owner == player) objects) ≡ false → (b && (is_creep o.kind || is_building o.kind || is_controller o.kind) || list_any (gives_sight player) objects) ≡ false) [
      | true ↦ λ is. absurd (cc)
      | false ↦ λ is. none_seen player objects is
    ] none

-- nothing is counted that is his alone
none_counted : (player : ℕ) (kinds : Object → Bool) (objects : List Object) → list_any (λ (o : Object). o.owner == player) objects ≡ false → count_by (λ (o : Object). kinds o && (o.owner == player)) objects ≡ 0
none_counted player kinds [] none = refl
none_counted player kinds (o ∷ objects) none =
    let all = sum_by-cons (λ (p : Object). cond {A = ℕ} (kinds p && (p.owner == player)) 1 0) o objects in
    elim (o.owner == player) as (λ b. (o.owner == player) ≡ b → (b || list_any (λ (p : Object). p.owner == player) objects) ≡ false → count_by (λ (p : Object). kinds p && (p.owner == player)) (o ∷ objects) ≡ 0) [
      | true ↦ λ same is. absurd (cc)
      | false ↦ λ other is. (
          let zeroth : cond {A = ℕ} (kinds o && (o.owner == player)) 1 0 ≡ 0 = ap (λ (b : Bool). cond {A = ℕ} (kinds o && b) 1 0) other ∙ neither (kinds o) in
          let rest = none_counted player kinds objects is in
          omega arith
          )
    ] refl none
  where
    neither : (b : Bool) → cond {A = ℕ} (b && false) 1 0 ≡ 0
    neither true = refl
    neither false = refl

pub none_sited : (player : ℕ) (objects : List Object) → list_any (λ (o : Object). o.owner == player) objects ≡ false → count_by (is_site_of player) objects ≡ 0
none_sited player objects none = none_counted player (λ (o : Object). is_site o.kind) objects none

pub none_controlled : (player : ℕ) (objects : List Object) → list_any (λ (o : Object). o.owner == player) objects ≡ false → count_by (is_controller_of player) objects ≡ 0
none_controlled player objects none = none_counted player (λ (o : Object). is_controller o.kind) objects none
