-- What objects pay, one after the other.
use Rattle.std.proofs.Common.{◌≡◌, ℕ, zero, suc, ◌+◌, ◌-◌, ◌<◌, ◌≤◌, ◌==◌, ◌&&◌, min, Bool, true, false, cond, if◌then◌else◌, List, [], ◌∷◌, ◌++◌, length, map, drop, Option, Some, slice_get, refl, sym, ap, subst, ◌∙◌, arith}
use Rattle.std.specs.List.{AllByRecursion, filter}
use Rattle.std.specs.FinMap.{get}
use Rattle.std.proofs.lemmas.Bool.{eqb-true, eq-eqb}
use Rattle.game_tables.specs.Numbers.{kind_number}
use Rattle.game_tables.specs.declared.kind.Kind.{Kind}
use Rattle.room_terrain.specs.declared.terrain.Ground.{Ground}
use Rattle.room_table.specs.declared.object.Object.{Object}
use Rattle.room_table.specs.Tables.{Table, IsOnTile, IsRising, find_object, with_object}
use Rattle.world_rules.specs.RoomParts.{RoomPart, table_part}
use Rattle.world_rules.specs.Changes.{with_object as with_in_part}
use Rattle.world_rules.specs.Loads.{with_less}
use Rattle.world_rules.specs.Spawns.{paid, share, those_of}
use Rattle.world_rules.specs.Steps.{by_object}
use Rattle.world_rules.proofs.TableParts.{get_table_part, part_replaced, tiles_replaced}
use Rattle.upkeep_rules.proofs.Passing.{found_there}
use Rattle.upkeep_rules.proofs.Split.{drop_at}
use Rattle.upkeep_rules.proofs.Turns.{nothing_ahead}
use Rattle.spawn_rules.specs.inner.Paying.{is_one, unpaid, HasThoseOf, IsPaidAt, IsPaidTo}

-- ---- lists that are joined

abbrev pay_of : ℕ → Option Object → Object → RoomPart → RoomPart
pay_of cost payer object = with_in_part (with_less (share cost payer) object)

paid_joined : (xs ys : List ℕ) (cost : ℕ) (part : RoomPart) → paid (xs ++ ys) cost part ≡ paid ys (unpaid xs cost part) (paid xs cost part)
paid_joined [] ys cost part = refl
paid_joined (id ∷ xs) ys cost part =
    let payer : Option Object = get part.objects id in
    paid_joined xs ys (cost - share cost payer) (by_object (pay_of cost payer) part payer)

-- ---- those of a kind and an owner

-- One that is of them is the first of them, and else it is passed over.
those_first : (kind : Kind) (owner : ℕ) (object : Object) (rest : List Object) (b : Bool) → is_one kind owner object ≡ b → those_of kind owner (object ∷ rest) ≡ cond b (object.id ∷ those_of kind owner rest) (those_of kind owner rest)
those_first kind owner object rest true is = ap (λ (b : Bool). map (λ (o : Object). o.id) (cond b (object ∷ filter (is_one kind owner) rest) (filter (is_one kind owner) rest))) is
those_first kind owner object rest false is = ap (λ (b : Bool). map (λ (o : Object). o.id) (cond b (object ∷ filter (is_one kind owner) rest) (filter (is_one kind owner) rest))) is

-- The objects of this id are of its kind and its owner.
abbrev AreAlike : Object → List Object → Type 0
AreAlike object objects = AllByRecursion (λ q. q.id ≡ object.id → (q.kind ≡ object.kind) × (q.owner ≡ object.owner)) objects

both_first : (kind : Kind) (owner : ℕ) (one other : Object) (xs ys : List Object) → one.id ≡ other.id → one.kind ≡ other.kind → one.owner ≡ other.owner → those_of kind owner xs ≡ those_of kind owner ys → those_of kind owner (one ∷ xs) ≡ those_of kind owner (other ∷ ys)
both_first kind owner one other xs ys id kinds owners rest =
    let same : is_one kind owner one ≡ is_one kind owner other = λ i. (kind_number (kinds i) == kind_number kind) && (owners i == owner) in
    those_first kind owner one xs (is_one kind owner other) same
    ∙ (λ i. cond (is_one kind owner other) (id i ∷ rest i) (rest i))
    ∙ sym (those_first kind owner other ys (is_one kind owner other) refl)

those_with : (kind : Kind) (owner : ℕ) (object : Object) (objects : List Object) → AreAlike object objects → those_of kind owner (with_object object objects) ≡ those_of kind owner objects
those_with kind owner object [] alike = refl
those_with kind owner object (first ∷ later) alike =
    let rest = those_with kind owner object later alike.1 in
    elim (first.id == object.id) as (λ b. (first.id == object.id) ≡ b → those_of kind owner ((if b then object else first) ∷ with_object object later) ≡ those_of kind owner (first ∷ later)) [
      | true ↦ λ is. (
          let same = eqb-true first.id object.id is in
          let both = alike.0 same in
          both_first kind owner object first (with_object object later) later (sym same) (sym both.0) (sym both.1) rest)
      | false ↦ λ is. both_first kind owner first first (with_object object later) later refl refl refl rest
    ] refl

drop_alike : (object : Object) (n : ℕ) (objects : List Object) → AreAlike object objects → AreAlike object (drop n objects)
drop_alike object zero objects alike = alike
drop_alike object (suc n) [] alike = alike
drop_alike object (suc n) (first ∷ later) alike = drop_alike object n later alike.1

drop_with : (object : Object) (n : ℕ) (objects : List Object) → drop n (with_object object objects) ≡ with_object object (drop n objects)
drop_with object zero objects = refl
drop_with object (suc n) [] = refl
drop_with object (suc n) (first ∷ later) = drop_with object n later

long_with : (object : Object) (xs : List Object) → length (with_object object xs) ≡ length xs
long_with object [] = refl
long_with object (x ∷ xs) = ap suc (long_with object xs)

-- In a rising list an id stands once.
only_found : (id : ℕ) (o : Object) (objects : List Object) → IsRising objects → find_object id objects ≡ Some o → AllByRecursion (λ q. q.id ≡ id → q ≡ o) objects
only_found id o [] rise is = tt
only_found id o (first ∷ later) rise is =
    elim (first.id == id) as (λ b. (first.id == id) ≡ b → cond b (Some first) (find_object id later) ≡ Some o → AllByRecursion (λ q. q.id ≡ id → q ≡ o) (first ∷ later)) [
      | true ↦ λ at got. (
          let same : first ≡ o = cc in
          let own = eqb-true first.id id at in
          ((λ own. same), none_of later rise.0 own))
      | false ↦ λ apart got. ((λ own. absurd (both (first.id == id) apart (eq-eqb first.id id own))), only_found id o later rise.1 got)
    ] refl is
  where
    both : (b : Bool) → b ≡ false → b ≡ true → ⊥
    both b one other = cc

    none_of : (xs : List Object) → AllByRecursion (λ later. first.id < later.id) xs → first.id ≡ id → AllByRecursion (λ q. q.id ≡ id → q ≡ o) xs
    none_of [] above own = tt
    none_of (x ∷ xs) above own = ((λ is. (let more = above.0 in absurd (omega (arith, more, own, is)))), none_of xs above.1 own)

-- What an object of its id is put in the place of is of its kind and its owner.
alike_all : (object o : Object) (objects : List Object) → object.kind ≡ o.kind → object.owner ≡ o.owner → AllByRecursion (λ q. q.id ≡ object.id → q ≡ o) objects → AreAlike object objects
alike_all object o [] kind owner all = tt
alike_all object o (first ∷ later) kind owner all = ((λ own. (let same = all.0 own in (ap (λ (p : Object). p.kind) same ∙ sym kind, ap (λ (p : Object). p.owner) same ∙ sym owner))), alike_all object o later kind owner all.1)

pub are_alike : (object o : Object) (objects : List Object) → IsRising objects → object.id ≡ o.id → object.kind ≡ o.kind → object.owner ≡ o.owner → find_object o.id objects ≡ Some o → AreAlike object objects
are_alike object o objects rise id kind owner found = alike_all object o objects kind owner (subst (λ (n : ℕ). AllByRecursion (λ q. q.id ≡ n → q ≡ o) objects) (sym id) (only_found o.id o objects rise found))

pub has_itself : (table : Table) → AllByRecursion IsOnTile table.objects → HasThoseOf table table
has_itself table tiles = record { table = refl; tiles = tiles; same = λ kind owner. refl }

has_trans : (old middle new : Table) → HasThoseOf old middle → HasThoseOf middle new → HasThoseOf old new
has_trans old middle new first second = record {
  table = second.table ∙ ap (λ (t : Table). record t { objects = new.objects }) first.table;
  tiles = second.tiles;
  same = λ kind owner. second.same kind owner ∙ first.same kind owner;
}

-- A table with another object in the place of one of its kind and owner.
pub has_set : (old : Table) (object o : Object) → IsRising old.objects → AllByRecursion IsOnTile old.objects → IsOnTile object → object.id ≡ o.id → object.kind ≡ o.kind → object.owner ≡ o.owner → find_object o.id old.objects ≡ Some o
    → HasThoseOf old (record old { objects = with_object object old.objects })
has_set old object o rise tiles on id kind owner found = record {
  table = refl;
  tiles = tiles_replaced object old.objects on tiles;
  same = λ k w. those_with k w object old.objects (are_alike object o old.objects rise id kind owner found);
}

-- ---- one that pays

next_place : (n : ℕ) → n + 1 ≡ suc n
next_place n = omega arith

module _ (kind : Kind) (owner cost place : ℕ) (old : Table) (object : Object) (at : slice_get old.objects place ≡ Some object) (tiles : AllByRecursion IsOnTile old.objects) where
  abbrev behind : List Object
  behind = drop (suc place) old.objects

  from_here : (b : Bool) → is_one kind owner object ≡ b → those_of kind owner (drop place old.objects) ≡ cond b (object.id ∷ those_of kind owner behind) (those_of kind owner behind)
  from_here b is = ap (those_of kind owner) (drop_at old.objects place object at) ∙ those_first kind owner object behind b is

  -- One that is not of them pays nothing.
  pub paid_other : is_one kind owner object ≡ false → IsPaidAt kind owner cost place old cost old
  paid_other is = record {
    has = has_itself old tiles;
    many = refl;
    rule = λ grounds. ap (λ (ids : List ℕ). paid ids cost (table_part grounds old)) same;
    rest = λ grounds. ap (λ (ids : List ℕ). unpaid ids cost (table_part grounds old)) same;
  }
    where
      same : those_of kind owner (drop (place + 1) old.objects) ≡ those_of kind owner (drop place old.objects)
      same = ap (λ (n : ℕ). those_of kind owner (drop n old.objects)) (next_place place) ∙ sym (from_here false is)

  module _ (rise : IsRising old.objects) (on : IsOnTile object) (is : is_one kind owner object ≡ true) where
    abbrev amount : ℕ
    amount = min object.energy cost

    abbrev less : Object
    less = with_less amount object

    abbrev after : Table
    after = record old { objects = with_object less old.objects }

    found : find_object object.id old.objects ≡ Some object
    found = found_there old.objects place object object.id rise at refl

    got : (grounds : List Ground) → get (table_part grounds old).objects object.id ≡ Some object
    got grounds = get_table_part grounds old object.id ∙ found

    behind_same : those_of kind owner (drop (place + 1) after.objects) ≡ those_of kind owner behind
    behind_same =
        ap (λ (n : ℕ). those_of kind owner (drop n after.objects)) (next_place place) ∙ ap (those_of kind owner) (drop_with less (suc place) old.objects)
        ∙ those_with kind owner less behind (drop_alike less (suc place) old.objects (are_alike less object old.objects rise refl refl refl found))

    pays : (grounds : List Ground) → by_object (pay_of cost (get (table_part grounds old).objects object.id)) (table_part grounds old) (get (table_part grounds old).objects object.id) ≡ table_part grounds after
    pays grounds = ap (λ (payer : Option Object). by_object (pay_of cost payer) (table_part grounds old) payer) (got grounds) ∙ sym (part_replaced grounds old less (object, found))

    shares : (grounds : List Ground) → share cost (get (table_part grounds old).objects object.id) ≡ amount
    shares grounds = ap (share cost) (got grounds)

    paid_one : IsPaidAt kind owner cost place old (cost - amount) after
    paid_one = record {
      has = has_set old less object rise tiles (record { column = on.column; row = on.row }) refl refl refl found;
      many = long_with less old.objects;
      rule = λ grounds.
          ap (λ (ids : List ℕ). paid ids (cost - amount) (table_part grounds after)) behind_same
          ∙ sym (
          ap (λ (ids : List ℕ). paid ids cost (table_part grounds old)) (from_here true is)
          ∙ (λ i. paid (those_of kind owner behind) (cost - shares grounds i) (pays grounds i))
          );
      rest = λ grounds.
          ap (λ (ids : List ℕ). unpaid ids (cost - amount) (table_part grounds after)) behind_same
          ∙ sym (
          ap (λ (ids : List ℕ). unpaid ids cost (table_part grounds old)) (from_here true is)
          ∙ (λ i. unpaid (those_of kind owner behind) (cost - shares grounds i) (pays grounds i))
          );
    }

    -- One that is of them pays its share.
    pub paid_share : (left : ℕ) (new : Table) → left ≡ cost - amount → new ≡ after → IsPaidAt kind owner cost place old left new
    paid_share left new left_is new_is = subst (λ (n : ℕ). IsPaidAt kind owner cost place old n new) (sym left_is) (subst (IsPaidAt kind owner cost place old (cost - amount)) (sym new_is) paid_one)

-- ---- all that pay

pub first_paid : (kind : Kind) (owner cost : ℕ) (start : Table) → AllByRecursion IsOnTile start.objects → IsPaidTo kind owner cost start 0 cost start
first_paid kind owner cost start tiles = record { has = has_itself start tiles; rule = λ grounds. refl; rest = λ grounds. refl }

pub next_paid : (kind : Kind) (owner cost : ℕ) (start : Table) (place left : ℕ) (now : Table) → IsPaidTo kind owner cost start place left now → (later : ℕ) (new : Table) → IsPaidAt kind owner left place now later new
    → IsPaidTo kind owner cost start (place + 1) later new
next_paid kind owner cost start place left now upto later new one = record {
  has = has_trans start now new upto.has one.has;
  rule = λ grounds. one.rule grounds ∙ upto.rule grounds;
  rest = λ grounds. one.rest grounds ∙ upto.rest grounds;
}

module _ (kind : Kind) (owner cost : ℕ) (start : Table) (place left : ℕ) (now : Table) (upto : IsPaidTo kind owner cost start place left now) (past : length now.objects ≤ place) (grounds : List Ground) where
  nobody : those_of kind owner (drop place now.objects) ≡ []
  nobody = ap (those_of kind owner) (nothing_ahead now.objects place past)

  pub all_paid : table_part grounds now ≡ paid (those_of kind owner start.objects) cost (table_part grounds start)
  all_paid = ap (λ (ids : List ℕ). paid ids left (table_part grounds now)) (sym nobody) ∙ upto.rule grounds

  pub all_left : left ≡ unpaid (those_of kind owner start.objects) cost (table_part grounds start)
  all_left = ap (λ (ids : List ℕ). unpaid ids left (table_part grounds now)) (sym nobody) ∙ upto.rest grounds

-- ---- spawns, then extensions

module _ (owner cost left : ℕ) (old middle new : Table) (spawn extension : Kind) (first : HasThoseOf old middle) (second : HasThoseOf middle new) where
  pub pay_both : HasThoseOf old new
  pay_both = has_trans old middle new first second

  pub both_paid : (grounds : List Ground) → table_part grounds middle ≡ paid (those_of spawn owner old.objects) cost (table_part grounds old) → left ≡ unpaid (those_of spawn owner old.objects) cost (table_part grounds old)
      → table_part grounds new ≡ paid (those_of extension owner middle.objects) left (table_part grounds middle)
      → table_part grounds new ≡ paid (those_of spawn owner old.objects ++ those_of extension owner old.objects) cost (table_part grounds old)
  both_paid grounds one rest other =
      other
      ∙ ap (λ (ids : List ℕ). paid ids left (table_part grounds middle)) (first.same extension owner)
      ∙ (λ i. paid (those_of extension owner old.objects) (rest i) (one i))
      ∙ sym (paid_joined (those_of spawn owner old.objects) (those_of extension owner old.objects) cost (table_part grounds old))
