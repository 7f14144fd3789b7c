-- The turns of all spawns.
use Rattle.std.proofs.Common.{◌≡◌, ℕ, ◌+◌, ◌^◌, ◌<◌, ◌≤◌, ◌==◌, nat_le, Bool, true, false, cond, List, [], ◌∷◌, length, map, Option, Some, None, refl, sym, ap, subst, ◌∙◌, inl, inr, arith}
use Rattle.std.specs.List.{filter}
use Rattle.std.specs.FinMap.{get}
use Rattle.std.specs.Prelude.{IfSome, SomeIff}
use Rattle.std.proofs.lemmas.Bool.{cases_lt, leb-true}
use Rattle.room_terrain.specs.declared.terrain.Ground.{Ground}
use Rattle.game_tables.specs.Numbers.{kind_number}
use Rattle.game_tables.specs.declared.kind.Kind.{Kind}
use Rattle.game_tables.specs.declared.kind.Kind.TheVariants.{Spawn}
use Rattle.room_table.specs.declared.object.Object.{Object}
use Rattle.room_table.specs.Tables.{Table, IsRising, find_from, find_object}
use Rattle.world_rules.specs.RoomParts.{RoomPart, table_part}
use Rattle.world_rules.specs.Spawns.{hatched, hatched_as}
use Rattle.world_rules.specs.Steps.{by_object, over_ids}
use Rattle.world_rules.proofs.TableParts.{all_found, found_by_id, get_table_part}
use Rattle.room_commutes.proofs.CreepsApart.{first_has}
use Rattle.room_rules.specs.Calls.{IsReadyFor, KeepsUpTo}
use Rattle.upkeep_rules.proofs.Split.{own_found}
use Rattle.spawn_rules.specs.Spare.{is_spawn, may_hatch}
use Rattle.spawn_rules.specs.inner.Hatching.{hatches, is_left, left_from, next_of, HaveIds, IsHatchedFrom, IsHatchedTo, KeepsOthers}
use Rattle.spawn_rules.proofs.InTurn.{hatched_by_spawns, left_above, left_next, none_left, none_past}

-- ---- one turn

-- the next id, and 2^64 where none is
next_id : (id : ℕ) (next : Option ℕ) → id < 2 ^ 64 → SomeIff next (id + 1 < 2 ^ 64) (id + 1) → next_of next ≡ id + 1
next_id id None less iff = elim (cases_lt (id + 1) (2 ^ 64)) [
  | inl fits ↦ absurd (iff fits)
  | inr past ↦ omega (arith, less, past)
]
next_id id (Some y) less iff = iff.1

pub later_id : (from id : ℕ) (next : Option ℕ) → from ≤ id → SomeIff next (id + 1 < 2 ^ 64) (id + 1) → IfSome next (λ n. from < n)
later_id from id None least iff = tt
later_id from id (Some y) least iff = (let same = iff.1 in omega (arith, least, same))

-- A kind with the number of a spawn is that.
pub spawn_kind : (kind : Kind) → (kind_number kind == kind_number Spawn) ≡ true → kind ≡ Spawn
spawn_kind Spawn is = refl
spawn_kind kind is = absurd (cc)

-- The id that is found is not below.
pub found_above : (from : ℕ) (objects : List Object) (object : Object) → find_from from objects ≡ Some object → from ≤ object.id
found_above from objects object is = leb-true from object.id (first_has (λ (o : Object). nat_le from o.id) objects object is).1

module _ (grounds : List Ground) (from : ℕ) (old : Table) (rise : IsRising old.objects) (ready : IsReadyFor (left_from from old.objects) old) (have : HaveIds old.objects) where
  -- None is left.
  pub hatched_none : find_from from old.objects ≡ None → IsHatchedFrom grounds from old None old
  hatched_none is =
      let nobody : filter (is_left from) old.objects ≡ [] = none_left from old.objects is in
      let past : filter (is_left (2 ^ 64)) old.objects ≡ [] = none_past (2 ^ 64) old.objects have in
      let same : filter (is_left (2 ^ 64)) old.objects ≡ filter (is_left from) old.objects = past ∙ sym nobody in
      record {
        rule = ap (λ (objects : List Object). over_ids hatches (map (λ (o : Object). o.id) objects) (table_part grounds old)) same;
        ready = subst (λ (objects : List Object). IsReadyFor (length objects) old) (sym same) ready;
        ids = have;
        index = refl;
        used = refl;
        later = omega arith;
        made = (let long = ap (λ (objects : List Object). length objects) same in omega (arith, long));
      }

  module _ (object : Object) (is : find_from from old.objects ≡ Some object) (next : Option ℕ) (iff : SomeIff next (object.id + 1 < 2 ^ 64) (object.id + 1)) where
    after : next_of next ≡ object.id + 1
    after = next_id object.id next (all_found (λ o. o.id < 2 ^ 64) (λ o. nat_le from o.id) old.objects object have is) iff

    -- One that is no spawn is passed over.
    pub hatched_past : is_spawn object ≡ false → IsHatchedFrom grounds from old next old
    hatched_past other =
        let here : filter (is_left from) old.objects ≡ filter (is_left (object.id + 1)) old.objects =
        left_next from old.objects object rise is ∙ ap (λ (b : Bool). cond b (object ∷ filter (is_left (object.id + 1)) old.objects) (filter (is_left (object.id + 1)) old.objects)) other in
        let same : filter (is_left (next_of next)) old.objects ≡ filter (is_left from) old.objects = ap (λ (n : ℕ). filter (is_left n) old.objects) after ∙ sym here in
        record {
          rule = ap (λ (objects : List Object). over_ids hatches (map (λ (o : Object). o.id) objects) (table_part grounds old)) same;
          ready = subst (λ (objects : List Object). IsReadyFor (length objects) old) (sym same) ready;
          ids = have;
          index = refl;
          used = refl;
          later = omega arith;
          made = (let long = ap (λ (objects : List Object). length objects) same in omega (arith, long));
        }

    pub object_there : find_object object.id old.objects ≡ Some object
    object_there = found_by_id (λ o. nat_le from o.id) old.objects object rise is

    -- A spawn has its turn.
    module _ (kind : object.kind ≡ Spawn) where
      abbrev behind : List Object
      behind = filter (is_left (object.id + 1)) old.objects

      its_left : filter (is_left from) old.objects ≡ object ∷ behind
      its_left =
          left_next from old.objects object rise is
          ∙ ap (λ (b : Bool). cond b (object ∷ behind) behind) (ap (λ (k : Kind). kind_number k == kind_number Spawn) kind)

      left_more : left_from from old.objects ≡ length behind + 1
      left_more = ap (λ (objects : List Object). length objects) its_left ∙ omega arith

      pub ready_one : IsReadyFor 1 old
      ready_one = record { spare = omega (arith, ready.spare, left_more); serial = omega (arith, ready.serial, left_more); fresh = ready.fresh; tiles = ready.tiles }

      pub hatched_turn : (new : Table) → table_part grounds new ≡ hatched_as Spawn object (table_part grounds old) → KeepsUpTo 1 old new → KeepsOthers object.id old new → IsHatchedFrom grounds from old next new
      hatched_turn new rule keeps others =
          let above : object.id < next_of next = omega (arith, after) in
          let same : filter (is_left (next_of next)) new.objects ≡ behind =
          others.same (next_of next) above ∙ ap (λ (n : ℕ). filter (is_left n) old.objects) after in
          let part : RoomPart = table_part grounds old in
          let its : by_object hatches part (get part.objects object.id) ≡ table_part grounds new =
          ap (by_object hatches part) (get_table_part grounds old object.id ∙ object_there) ∙ ap (λ (k : Kind). hatched_as k object part) kind ∙ sym rule in
          record {
            rule =
                ap (λ (objects : List Object). over_ids hatches (map (λ (o : Object). o.id) objects) (table_part grounds new)) same
                ∙ sym (ap (λ (objects : List Object). over_ids hatches (map (λ (o : Object). o.id) objects) part) its_left ∙ ap (over_ids hatches (map (λ (o : Object). o.id) behind)) its);
            ready = subst (λ (objects : List Object). IsReadyFor (length objects) new) (sym same) (others.ready (length behind) (subst (λ (n : ℕ). IsReadyFor n old) left_more ready));
            ids = others.ids have;
            index = keeps.index;
            used = keeps.used;
            later = keeps.later;
            made = (let long = ap (λ (objects : List Object). length objects) same in let most = keeps.made in omega (arith, long, most, left_more));
          }

-- ---- all turns

all_left : (objects : List Object) → filter (is_left 0) objects ≡ filter is_spawn objects
all_left [] = refl
all_left (x ∷ xs) = λ i. cond (left_above 0 x (omega arith) i) (x ∷ all_left xs i) (all_left xs i)

pub first_hatched : (grounds : List Ground) (start : Table) → IsRising start.objects → IsReadyFor (may_hatch start.objects) start → HaveIds start.objects → IsHatchedTo grounds start 0 start
first_hatched grounds start rise ready have =
    let same = all_left start.objects in
    let long = ap (λ (objects : List Object). length objects) same in
    record {
      rule = hatched_by_spawns grounds start rise (own_found start.objects rise);
      ready = subst (λ (objects : List Object). IsReadyFor (length objects) start) (sym same) ready;
      ids = have;
      index = refl;
      used = refl;
      later = omega arith;
      made = omega (arith, long);
    }

pub next_hatched : (grounds : List Ground) (start : Table) (from : ℕ) (now : Table) → IsHatchedTo grounds start from now → (next : Option ℕ) (new : Table) → IsHatchedFrom grounds from now next new → IsHatchedTo grounds start (next_of next) new
next_hatched grounds start from now upto next new turn = record {
  rule = turn.rule ∙ upto.rule;
  ready = turn.ready;
  ids = turn.ids;
  index = turn.index ∙ upto.index;
  used = turn.used ∙ upto.used;
  later = (let one = turn.later in let other = upto.later in omega (arith, one, other));
  made = (let one = turn.made in let other = upto.made in omega (arith, one, other));
}

module _ (grounds : List Ground) (start now : Table) (upto : IsHatchedTo grounds start (2 ^ 64) now) where
  pub all_hatched : table_part grounds now ≡ hatched (table_part grounds start)
  all_hatched =
      ap (λ (objects : List Object). over_ids hatches (map (λ (o : Object). o.id) objects) (table_part grounds now)) (sym (none_past (2 ^ 64) now.objects upto.ids))
      ∙ upto.rule

  pub hatched_keeps : KeepsUpTo (may_hatch start.objects) start now
  hatched_keeps = record { index = upto.index; used = upto.used; later = upto.later; made = (let most = upto.made in omega (arith, most)); tiles = upto.ready.tiles }
