-- The changes of which rules are made keep the rules of a room.
use Rattle.std.proofs.Common.{◌≡◌, ℕ, ◌+◌, ◌/◌, ◌%◌, ◌^◌, ◌<◌, ◌≤◌, ◌==◌, nat_lt, if◌then◌else◌, Bool, true, false, cond, List, [], ◌∷◌, Option, Some, None, option_and_then, refl, sym, ap, subst, ◌∙◌, arith}
use Rattle.std.specs.Cmp.{nat_cmp_total, unsigned_tied}
use Rattle.std.specs.FinMap.{get, insert, keys, get-insert, get-remove}
use Rattle.std.proofs.lemmas.Bool.{eqb-true, ltb-true}
use Rattle.room_terrain.specs.declared.terrain.Ground.{Ground}
use Rattle.game_tables.specs.declared.kind.Kind.{Kind}
use Rattle.room_table.specs.declared.object.Object.{Object}
use Rattle.room_table.specs.Tables.{IsOnTile}
use Rattle.game_tables.specs.Kinds.{clash, is_controller, may_have_owner}
use Rattle.world_rules.specs.RoomParts.{RoomPart}
use Rattle.world_rules.specs.Changes.{put, with_object, without, with_new, next_id}
use Rattle.world_rules.specs.Steps.{by_object, over_ids, over_objects, with_left, each}
use Rattle.world_rules.specs.Rules.{IsOnWrongTile}
use Rattle.room_commutes.specs.Standing.{AreKeyed, KeepsIds}
use Rattle.room_commutes.proofs.CreepsApart.{each_get, each_rest}
use Rattle.room_rules.specs.Within.{Stage, IsInRangeIn}
use Rattle.room_rules.specs.RoomRules.{Holds, HasRightOwner, KeepsRoomRules}

-- An object after a change: where it stood, as what, and whose.
pub record IsSame (before after : Object) : Type 0 where
  pub id : after.id ≡ before.id
  pub kind : after.kind ≡ before.kind
  pub x : after.x ≡ before.x
  pub y : after.y ≡ before.y
  pub owner : after.owner ≡ before.owner
  pub other : after.other ≡ before.other

pub IsSame-refl : (o : Object) → IsSame o o
IsSame-refl o = record { id = refl; kind = refl; x = refl; y = refl; owner = refl; other = refl }

-- An object after a change: where it stood, and as what.
pub record IsPlaced (before after : Object) : Type 0 where
  pub id : after.id ≡ before.id
  pub kind : after.kind ≡ before.kind
  pub x : after.x ≡ before.x
  pub y : after.y ≡ before.y

pub same_placed : (before after : Object) → IsSame before after → IsPlaced before after
same_placed before after same = record { id = same.id; kind = same.kind; x = same.x; y = same.y }

wrong_tile : (grounds : List Ground) (one other : Object) → IsPlaced other one → IsOnWrongTile grounds one → IsOnWrongTile grounds other
wrong_tile grounds one other same h =
    let kind = subst (λ (k : Kind). IsOnWrongTile grounds (record one { kind = k })) same.kind h in
    let x = subst (λ (n : ℕ). IsOnWrongTile grounds (record one { kind = other.kind; x = n })) same.x kind in
    subst (λ (n : ℕ). IsOnWrongTile grounds (record one { kind = other.kind; x = other.x; y = n })) same.y x

right_owner : (players : ℕ → Bool) (one other : Object) → IsSame one other → HasRightOwner players one → HasRightOwner players other
right_owner players one other same right = record {
  owner = λ some. (let r = right.owner (λ none. some (same.owner ∙ none)) in (ap players same.owner ∙ r.0, ap may_have_owner same.kind ∙ r.1));
  other = λ some. (let r = right.other (λ none. some (same.other ∙ none)) in (ap players same.other ∙ r.0, ap is_controller same.kind ∙ r.1));
}

-- An object that is found after one was put is that, or was found before.
pub put_or_before : {P : Type 0} (part : RoomPart) (key : ℕ) (o : Object) (id : ℕ) (p : Object) → get (insert part.objects key o) id ≡ Some p → (id ≡ key → o ≡ p → P) → (Holds part id p → P) → P
put_or_before {P} part key o id p is put before =
    elim (id == key) as (λ b. (id == key) ≡ b → cond b (Some o) (get part.objects id) ≡ Some p → P) [
      | true ↦ λ same got. (let one : o ≡ p = cc in put (eqb-true id key same) one)
      | false ↦ λ apart got. before got
    ] refl (sym (get-insert nat_cmp_total part.objects key o id ∙ ap (λ (b : Bool). cond b (Some o) (get part.objects id)) (unsigned_tied id key)) ∙ is)

pub only_one : (one other : Object) (found : Option Object) → found ≡ Some one → found ≡ Some other → one ≡ other
only_one one other found is at = cc

-- ---- from one stage to another

module _ (players : ℕ → Bool) (early late : Stage) where
  -- The object stood there as the same, and it is in its ranges at the later stage if that was at the earlier.
  abbrev pub Came : RoomPart → ℕ → Object → Type 0
  Came part id o = (q : Object) × Holds part id q × IsSame q o × (IsInRangeIn q.kind early q → IsInRangeIn o.kind late o)

  -- It stood there, and who owns and reserves it may do so.
  abbrev pub Stems : RoomPart → ℕ → Object → Type 0
  Stems part id o = (q : Object) × Holds part id q × IsPlaced q o × HasRightOwner players o × (IsInRangeIn q.kind early q → IsInRangeIn o.kind late o)

  -- where all objects stood before
  pub keeps_stems : (part after : RoomPart) → KeepsRoomRules players early part → after.index ≡ part.index → after.grounds ≡ part.grounds → part.next ≤ after.next
      → ((id : ℕ) (o : Object) → Holds after id o → Stems part id o) → KeepsRoomRules players late after
  keeps_stems part after k index grounds later stood = record {
    begun = let first : 1 ≤ part.next = k.begun in omega arith;
    ids = λ id o h. (let w = stood id o h in w.2.id ∙ k.ids id w.0 w.1);
    born = λ id o h at. (let w = stood id o h in let b = k.born id w.0 w.1 (at ∙ index) in (b.0, omega (arith, b.1)));
    inside = λ id o h. (let w = stood id o h in let i = k.inside id w.0 w.1 in record { column = subst (λ (n : ℕ). n ≤ 49) (sym w.2.x) i.column; row = subst (λ (n : ℕ). n ≤ 49) (sym w.2.y) i.row });
    tiles = λ id o h wrong. (let w = stood id o h in k.tiles id w.0 w.1 (wrong_tile part.grounds o w.0 w.2 (subst (λ (g : List Ground). IsOnWrongTile g o) grounds wrong)));
    shared = λ one other first second apart h g x y c. (
        let w = stood one first h in
        let v = stood other second g in
        k.shared one other w.0 v.0 apart w.1 v.1 (sym w.2.x ∙ x ∙ v.2.x) (sym w.2.y ∙ y ∙ v.2.y) ((λ i. clash (sym w.2.kind i) (sym v.2.kind i)) ∙ c));
    owners = λ id o h. (let w = stood id o h in w.3);
    controllers = λ one other first second apart h g a b. (
        let w = stood one first h in
        let v = stood other second g in
        k.controllers one other w.0 v.0 apart w.1 v.1 (ap is_controller (sym w.2.kind) ∙ a) (ap is_controller (sym v.2.kind) ∙ b));
    ranges = λ id o h out. (let w = stood id o h in k.ranges id w.0 w.1 (λ r. out (w.4 r)));
  }

  -- where all objects stood before, as the same
  pub keeps_came : (part after : RoomPart) → KeepsRoomRules players early part → after.index ≡ part.index → after.grounds ≡ part.grounds → part.next ≤ after.next
      → ((id : ℕ) (o : Object) → Holds after id o → Came part id o) → KeepsRoomRules players late after
  keeps_came part after k index grounds later stood =
      keeps_stems part after k index grounds later
      (λ id o h. (let w = stood id o h in (w.0, w.1, same_placed w.0 o w.2, right_owner players w.0 o w.2 (k.owners id w.0 w.1), w.3)))

module _ (players : ℕ → Bool) (stage : Stage) where
  abbrev Kept : RoomPart → Type 0
  Kept part = KeepsRoomRules players stage part

  -- The object stood there before as the same, and it is in its ranges if that was.
  abbrev pub Stood : RoomPart → ℕ → Object → Type 0
  Stood part id o = Came players stage stage part id o

  -- where all objects stood before, as the same
  pub keeps_same : (part after : RoomPart) → Kept part → after.index ≡ part.index → after.grounds ≡ part.grounds → part.next ≤ after.next
      → ((id : ℕ) (o : Object) → Holds after id o → Stood part id o) → Kept after
  keeps_same = keeps_came players stage stage

  pub stood_itself : (part : RoomPart) (id : ℕ) (o : Object) → Holds part id o → Stood part id o
  stood_itself part id o h = (o, h, IsSame-refl o, λ r. r)

  -- ---- an object in the place of one

  put_owned : (part : RoomPart) → Kept part → (object : Object) (found : Option Object) → get part.objects object.id ≡ found
      → ((old : Object) → Holds part object.id old → IsPlaced old object × HasRightOwner players object × (IsInRangeIn old.kind stage old → IsInRangeIn object.kind stage object)) → Kept (put object part found)
  put_owned part k object None is alike = k
  put_owned part k object (Some old) is alike =
      let new = alike old is in
      keeps_stems players stage stage part (record part { objects = insert part.objects object.id object }) k refl refl (omega arith) (λ id o h.
      put_or_before part object.id object id o h
      (λ at one. subst (Stems players stage stage part id) one (subst (λ (n : ℕ). Stems players stage stage part n object) (sym at) (old, is, new.0, new.1, new.2)))
      (λ before. (o, before, same_placed o o (IsSame-refl o), k.owners id o before, λ r. r)))

  pub keeps_owned : (part : RoomPart) → Kept part → (object : Object)
      → ((old : Object) → Holds part object.id old → IsPlaced old object × HasRightOwner players object × (IsInRangeIn old.kind stage old → IsInRangeIn object.kind stage object)) → Kept (with_object object part)
  keeps_owned part k object alike = put_owned part k object (get part.objects object.id) refl alike

  pub keeps_object : (part : RoomPart) → Kept part → (object : Object)
      → ((old : Object) → Holds part object.id old → IsSame old object × (IsInRangeIn old.kind stage old → IsInRangeIn object.kind stage object)) → Kept (with_object object part)
  keeps_object part k object alike =
      keeps_owned part k object (λ old there. (let same = alike old there in (same_placed old object same.0, right_owner players old object same.0 (k.owners object.id old there), same.1)))

  -- An object of the room changes, and stays in its ranges.
  pub keeps_changed : (part : RoomPart) → Kept part → (id : ℕ) (old new : Object) → Holds part id old → IsSame old new → (IsInRangeIn old.kind stage old → IsInRangeIn new.kind stage new) → Kept (with_object new part)
  keeps_changed part k id old new h same range =
      keeps_object part k new (λ other there.
      (let here : Holds part new.id old = subst (λ (n : ℕ). Holds part n old) (sym (same.id ∙ k.ids id old h)) h in
      let one : old ≡ other = only_one old other (get part.objects new.id) here there in
      subst (λ (o : Object). IsSame o new × (IsInRangeIn o.kind stage o → IsInRangeIn new.kind stage new)) one (same, range)))

  -- An object of the room may come to others, and stays in its ranges.
  pub keeps_given : (part : RoomPart) → Kept part → (id : ℕ) (old new : Object) → Holds part id old → IsPlaced old new → HasRightOwner players new → (IsInRangeIn old.kind stage old → IsInRangeIn new.kind stage new) → Kept (with_object new part)
  keeps_given part k id old new h same right range =
      keeps_owned part k new (λ other there.
      (let here : Holds part new.id old = subst (λ (n : ℕ). Holds part n old) (sym (same.id ∙ k.ids id old h)) h in
      let one : old ≡ other = only_one old other (get part.objects new.id) here there in
      subst (λ (o : Object). IsPlaced o new × HasRightOwner players new × (IsInRangeIn o.kind stage o → IsInRangeIn new.kind stage new)) one (same, right, range)))

  -- ---- an object less

  pub keeps_without : (part : RoomPart) → Kept part → (id : ℕ) → Kept (without id part)
  keeps_without part k id =
      keeps_same part (without id part) k refl refl (omega arith) (λ q o h.
      elim (q == id) as (λ b. cond b None (get part.objects q) ≡ Some o → Stood part q o) [
        | true ↦ λ got. absurd (cc)
        | false ↦ λ got. stood_itself part q o got
      ] (sym (get-remove nat_cmp_total part.objects id q ∙ ap (λ (b : Bool). cond b None (get part.objects q)) (unsigned_tied q id)) ∙ h))

  -- ---- an object more

  -- The object may come into the room, where serials up to the next were given.
  pub record Joins (part : RoomPart) (next : ℕ) (object : Object) : Type 0 where
    pub born : object.id / 2 ^ 32 ≡ part.index → (1 ≤ object.id % 2 ^ 32) × (object.id % 2 ^ 32 < next)
    pub inside : IsOnTile object
    pub tile : IsOnWrongTile part.grounds object → ⊥
    pub alone : (m : ℕ) (q : Object) → Holds part m q → q.x ≡ object.x → q.y ≡ object.y → (clash object.kind q.kind ≡ true → ⊥) × (clash q.kind object.kind ≡ true → ⊥)
    pub owner : HasRightOwner players object
    pub controller : is_controller object.kind ≡ false
    pub range : (IsInRangeIn object.kind stage object → ⊥) → ⊥

  pub keeps_joined : (part : RoomPart) → Kept part → (next : ℕ) → part.next ≤ next → (object : Object) → Joins part next object → Kept (record part { next = next; objects = insert part.objects object.id object })
  keeps_joined part k next later object joins = record {
    begun = let first : 1 ≤ part.next = k.begun in omega arith;
    ids = λ id p h. put_or_before part object.id object id p h (λ at one. ap (λ (o : Object). o.id) (sym one) ∙ sym at) (λ before. k.ids id p before);
    born = λ id p h at. put_or_before part object.id object id p h
        (λ here one. subst (λ (n : ℕ). (1 ≤ n % 2 ^ 32) × (n % 2 ^ 32 < next)) (sym here) (joins.born (ap (λ (n : ℕ). n / 2 ^ 32) (sym here) ∙ at)))
        (λ before. (let b = k.born id p before at in (b.0, omega (arith, b.1, later))));
    inside = λ id p h. put_or_before part object.id object id p h (λ at one. subst IsOnTile one joins.inside) (λ before. k.inside id p before);
    tiles = λ id p h wrong. put_or_before part object.id object id p h (λ at one. joins.tile (subst (IsOnWrongTile part.grounds) (sym one) wrong)) (λ before. k.tiles id p before wrong);
    shared = λ one other first second apart h g x y c. put_or_before part object.id object one first h
        (λ at same. put_or_before part object.id object other second g
        (λ there mate. apart (at ∙ sym there))
        (λ before. (joins.alone other second before (sym (ap (λ (o : Object). o.x) same ∙ x)) (sym (ap (λ (o : Object). o.y) same ∙ y))).0 (ap (λ (o : Object). clash o.kind second.kind) same ∙ c)))
        (λ stood. put_or_before part object.id object other second g
        (λ there mate. (joins.alone one first stood (x ∙ sym (ap (λ (o : Object). o.x) mate)) (y ∙ sym (ap (λ (o : Object). o.y) mate))).1 (ap (λ (o : Object). clash first.kind o.kind) mate ∙ c))
        (λ before. k.shared one other first second apart stood before x y c));
    owners = λ id p h. put_or_before part object.id object id p h (λ at one. subst (HasRightOwner players) one joins.owner) (λ before. k.owners id p before);
    controllers = λ one other first second apart h g a b. put_or_before part object.id object one first h
        (λ at same. clash_bool (is_controller object.kind) joins.controller (ap (λ (o : Object). is_controller o.kind) same ∙ a))
        (λ stood. put_or_before part object.id object other second g
        (λ there mate. clash_bool (is_controller object.kind) joins.controller (ap (λ (o : Object). is_controller o.kind) mate ∙ b))
        (λ before. k.controllers one other first second apart stood before a b));
    ranges = λ id p h out. put_or_before part object.id object id p h (λ at one. joins.range (λ r. out (subst (λ (o : Object). IsInRangeIn o.kind stage o) one r))) (λ before. k.ranges id p before out);
  }
    where
      clash_bool : (b : Bool) → b ≡ false → b ≡ true → ⊥
      clash_bool b no_ yes_ = cc

  -- ---- a new object

  -- The object may be new in the room.
  pub record Fits (part : RoomPart) (object : Object) : Type 0 where
    pub id : object.id ≡ next_id part
    pub inside : IsOnTile object
    pub tile : IsOnWrongTile part.grounds object → ⊥
    pub alone : (m : ℕ) (q : Object) → Holds part m q → q.x ≡ object.x → q.y ≡ object.y → (clash object.kind q.kind ≡ true → ⊥) × (clash q.kind object.kind ≡ true → ⊥)
    pub owner : HasRightOwner players object
    pub controller : is_controller object.kind ≡ false
    pub range : IsInRangeIn object.kind stage object

  more_keeps : (part : RoomPart) → Kept part → part.next < 2 ^ 32 → (object : Object) → Fits part object → Kept (record part { next = part.next + 1; objects = insert part.objects (next_id part) object })
  more_keeps part k room object fits =
      let first : 1 ≤ part.next = k.begun in
      subst (λ (n : ℕ). Kept (record part { next = part.next + 1; objects = insert part.objects n object })) fits.id
      (keeps_joined part k (part.next + 1) (omega arith) object (record {
        born = λ at. (omega (arith, fits.id, room), omega (arith, fits.id, room));
        inside = fits.inside;
        tile = fits.tile;
        alone = fits.alone;
        owner = fits.owner;
        controller = fits.controller;
        range = λ out. out fits.range;
      }))

  pub keeps_new : (part : RoomPart) → Kept part → (make : ℕ → Object) → Fits part (make (next_id part)) → Kept (with_new make part)
  keeps_new part k make fits =
      elim (nat_lt part.next (2 ^ 32)) as (λ b. nat_lt part.next (2 ^ 32) ≡ b → Kept (if b then record part { next = part.next + 1; objects = insert part.objects (next_id part) (make (next_id part)) } else part)) [
        | true ↦ λ is. more_keeps part k (ltb-true part.next (2 ^ 32) is) (make (next_id part)) fits
        | false ↦ λ is. k
      ] refl

  -- ---- a step over all objects

  module _ (change : Object → RoomPart → RoomPart) (keeps : (object : Object) (part : RoomPart) → Holds part object.id object → Kept part → Kept (change object part)) where
    pub by_keeps : (part : RoomPart) → Kept part → (id : ℕ) (found : Option Object) → get part.objects id ≡ found → Kept (by_object change part found)
    by_keeps part k id None is = k
    by_keeps part k id (Some object) is = keeps object part (subst (λ (n : ℕ). Holds part n object) (sym (k.ids id object is)) is) k

    over_keeps : (ids : List ℕ) (part : RoomPart) → Kept part → Kept (over_ids change ids part)
    over_keeps [] part k = k
    over_keeps (id ∷ later) part k = over_keeps later (by_object change part (get part.objects id)) (by_keeps part k id (get part.objects id) refl)

    pub keeps_over : (part : RoomPart) → Kept part → Kept (over_objects change part)
    keeps_over part k = over_keeps (keys part.objects) part k

  -- a step in which each object changes by itself, or goes
  module _ (change : Object → Option Object) (same : (object after : Object) → change object ≡ Some after → IsSame object after × (IsInRangeIn object.kind stage object → IsInRangeIn after.kind stage after)) where
    left_keeps : (object : Object) (part : RoomPart) → Holds part object.id object → Kept part → (left : Option Object) → change object ≡ left → Kept (with_left object.id part left)
    left_keeps object part h k None is = keeps_without part k object.id
    left_keeps object part h k (Some after) is =
        let alike = same object after is in
        keeps_changed part k object.id object after h alike.0 alike.1

    pub keeps_each : (part : RoomPart) → Kept part → Kept (each change part)
    keeps_each = keeps_over (λ object part. with_left object.id part (change object)) (λ object part h k. left_keeps object part h k (change object) refl)

-- ---- what stands after each object changed

-- An object that stands after each changed comes of one that stood before.
pub each_came : (change : Object → Option Object) → KeepsIds change → (part : RoomPart) → AreKeyed part → (id : ℕ) (o : Object) → Holds (each change part) id o
    → (q : Object) × Holds part id q × (change q ≡ Some o)
each_came change keeps part keyed id o h = came_of (get part.objects id) refl (sym (each_get change keeps part keyed id) ∙ h)
  where
    came_of : (found : Option Object) → get part.objects id ≡ found → option_and_then change found ≡ Some o → (q : Object) × Holds part id q × (change q ≡ Some o)
    came_of None is got = absurd (cc)
    came_of (Some q) is got = (q, is, got)

module _ (players : ℕ → Bool) (early late : Stage) (change : Object → Option Object) where
  module _ (stays : (object after : Object) → change object ≡ Some after → IsPlaced object after × (HasRightOwner players object → HasRightOwner players after) × (IsInRangeIn object.kind early object → IsInRangeIn after.kind late after)) where
    ids_stay : KeepsIds change
    ids_stay object after is = (stays object after is).0.id

    -- Each object changes by itself, or goes; it may come to others, and is in its ranges of the later stage.
    pub keeps_changes : (part : RoomPart) → KeepsRoomRules players early part → KeepsRoomRules players late (each change part)
    keeps_changes part k =
        let rest = each_rest change ids_stay part k.ids in
        let serial : (each change part).next ≡ part.next = ap (λ (p : RoomPart). p.next) rest in
        keeps_stems players early late part (each change part) k (ap (λ (p : RoomPart). p.index) rest) (ap (λ (p : RoomPart). p.grounds) rest) (omega (arith, serial))
        (λ id o h. (let came = each_came change ids_stay part k.ids id o h in let alike = stays came.0 o came.2 in (came.0, came.1, alike.0, alike.1 (k.owners id came.0 came.1), alike.2)))

  module _ (same : (object after : Object) → change object ≡ Some after → IsSame object after × (IsInRangeIn object.kind early object → IsInRangeIn after.kind late after)) where
    -- Each object changes by itself, or goes, and is in its ranges of the later stage.
    pub keeps_turned : (part : RoomPart) → KeepsRoomRules players early part → KeepsRoomRules players late (each change part)
    keeps_turned = keeps_changes (λ object after is. (let alike = same object after is in (same_placed object after alike.0, right_owner players object after alike.0, alike.1)))
