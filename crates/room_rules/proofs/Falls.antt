-- Energy that falls, and what a creep drops, keep the rules of a room.
use Rattle.std.proofs.Common.{◌≡◌, ℕ, ◌+◌, ◌-◌, ◌^◌, ◌≤◌, ◌==◌, ◌&&◌, min, nat_lt, if◌then◌else◌, Bool, true, false, cond, List, [], ◌∷◌, map, Option, Some, None, refl, sym, ap, subst, ◌∙◌, ◌⊎◌, inl, inr, arith}
use Rattle.std.specs.List as lists
use Rattle.std.specs.Ordering.{nat_cmp, eq_by_cmp}
use Rattle.std.specs.Cmp.{unsigned_tied}
use Rattle.std.specs.FinMap.{find, get, insert, entries, entries_sorted, get-entries}
use Rattle.std.proofs.lemmas.Bool.{both_ways, eq-eqb, eqb-true}
use Rattle.room_terrain.specs.declared.terrain.Ground.{Ground}
use Rattle.game_tables.specs.declared.action.Action.TheVariants.{DropLoad}
use Rattle.game_tables.specs.declared.kind.Kind.{Kind}
use Rattle.game_tables.specs.declared.kind.Kind.TheVariants.{Creep, Pile}
use Rattle.intent_book.specs.declared.intent.Intent.{Intent}
use Rattle.room_table.specs.declared.object.Object.{Object}
use Rattle.game_tables.specs.Kinds.{clash, is_creep, is_pile, is_source, is_controller}
use Rattle.world_rules.specs.RoomParts.{RoomPart}
use Rattle.world_rules.specs.Changes.{put, with_object, next_id}
use Rattle.world_rules.specs.Rules.{IsPile, IsWall, IsOnWrongTile}
use Rattle.world_rules.specs.Drops.{pile_bound, is_pile_on, pile_on, pile_of, fallen, fallen_on, wanted_of, dropped_by, dropped_of, dropped}
use Rattle.world_rules.specs.Checks.{may_take_effect}
use Rattle.world_rules.proofs.Checked.{and_left, and_right, creep_acts}
use Rattle.world_rules.proofs.Keys.{AreKeysOnce, once_of_sorted}
use Rattle.room_rules.specs.Within.{Stage, between, moved, summed, settled, within, IsCreepMoved, IsCreepWithin, IsInRangeIn}
use Rattle.room_rules.specs.RoomRules.{Holds, KeepsRoomRules}
use Rattle.room_rules.proofs.Keeps.{keeps_changed, keeps_new, put_or_before}

-- ---- tests

pub both_true : (a b : Bool) → a ≡ true → b ≡ true → (a && b) ≡ true
both_true true b one other = other
both_true false b one other = absurd (cc)

pub is_creep_kind : (k : Kind) → is_creep k ≡ true → k ≡ Creep
is_creep_kind Creep is = refl
is_creep_kind k is = absurd (cc)

is_pile_kind : (k : Kind) → is_pile k ≡ true → k ≡ Pile
is_pile_kind Pile is = refl
is_pile_kind k is = absurd (cc)

-- ---- what is found among the objects of a part

found_of_entries : (test : Object → Bool) (es : List (ℕ × Object)) (o : Object) → AreKeysOnce es → lists.find test (map (λ (e : ℕ × Object). e.1) es) ≡ Some o → (m : ℕ) × (find nat_cmp m es ≡ Some o) × (test o ≡ true)
found_of_entries test [] o once is = absurd (cc)
found_of_entries test (e ∷ es) o once is =
    elim (test e.1) as (λ b. test e.1 ≡ b → cond b (Some e.1) (lists.find test (map (λ (e : ℕ × Object). e.1) es)) ≡ Some o → (m : ℕ) × (find nat_cmp m (e ∷ es) ≡ Some o) × (test o ≡ true)) [
      | true ↦ λ t got.
          let same : e.1 ≡ o = cc in
          let tied : eq_by_cmp nat_cmp e.0 e.0 ≡ true = unsigned_tied e.0 e.0 ∙ eq-eqb e.0 e.0 refl in
          (e.0, ap (λ (b : Bool). cond b (Some e.1) (find nat_cmp e.0 es)) tied ∙ ap Some same, ap test (sym same) ∙ t)
      | false ↦ λ t got.
          let rest = found_of_entries test es o once.1 got in
          let apart : eq_by_cmp nat_cmp rest.0 e.0 ≡ false = elim (eq_by_cmp nat_cmp rest.0 e.0) as (λ b. eq_by_cmp nat_cmp rest.0 e.0 ≡ b → b ≡ false) [
            | true ↦ λ tie.
                let same : rest.0 ≡ e.0 = eqb-true rest.0 e.0 (sym (unsigned_tied rest.0 e.0) ∙ tie) in
                let none : find nat_cmp rest.0 es ≡ None = subst (λ (n : ℕ). find nat_cmp n es ≡ None) (sym same) once.0 in
                absurd (both_found o _ none rest.1)
            | false ↦ λ tie. refl
          ] refl in
          (rest.0, ap (λ (b : Bool). cond b (Some e.1) (find nat_cmp rest.0 es)) apart ∙ rest.1, rest.2)
    ] refl is
  where
    both_found : (o : Object) (found : Option Object) → found ≡ None → found ≡ Some o → ⊥
    both_found o found none some = cc

pub none_of_entries : (test : Object → Bool) (es : List (ℕ × Object)) (m : ℕ) (q : Object) → lists.find test (map (λ (e : ℕ × Object). e.1) es) ≡ None → find nat_cmp m es ≡ Some q → test q ≡ false
none_of_entries test [] m q none is = absurd (cc)
none_of_entries test (e ∷ es) m q none is =
    elim (test e.1) as (λ b. test e.1 ≡ b → cond b (Some e.1) (lists.find test (map (λ (e : ℕ × Object). e.1) es)) ≡ None → test q ≡ false) [
      | true ↦ λ t got. absurd (cc)
      | false ↦ λ t got. elim (eq_by_cmp nat_cmp m e.0) as (λ b. cond b (Some e.1) (find nat_cmp m es) ≡ Some q → test q ≡ false) [
        | true ↦ λ here. let same : e.1 ≡ q = cc in ap test (sym same) ∙ t
        | false ↦ λ later. none_of_entries test es m q got later
      ] is
    ] refl none

pile_there : (x y : ℕ) (part : RoomPart) (pile : Object) → pile_on x y part ≡ Some pile → (m : ℕ) × (Holds part m pile) × (is_pile_on x y pile ≡ true)
pile_there x y part pile is =
    let f = found_of_entries (is_pile_on x y) (entries part.objects) pile (once_of_sorted _ (entries_sorted part.objects)) is in
    (f.0, get-entries part.objects f.0 ∙ f.1, f.2)

no_pile_there : (x y : ℕ) (part : RoomPart) (m : ℕ) (q : Object) → pile_on x y part ≡ None → Holds part m q → is_pile_on x y q ≡ false
no_pile_there x y part m q none is = none_of_entries (is_pile_on x y) (entries part.objects) m q none (sym (get-entries part.objects m) ∙ is)

pile_parts : (x y : ℕ) (p : Object) → is_pile_on x y p ≡ true → (is_pile p.kind ≡ true) × (p.x ≡ x) × (p.y ≡ y)
pile_parts x y p is =
    let first = and_left (is_pile p.kind && (p.x == x)) (p.y == y) is in
    (and_left (is_pile p.kind) (p.x == x) first, eqb-true p.x x (and_right (is_pile p.kind) (p.x == x) first), eqb-true p.y y (and_right (is_pile p.kind && (p.x == x)) (p.y == y) is))

pile_whole : (x y : ℕ) (p : Object) → is_pile p.kind ≡ true → p.x ≡ x → p.y ≡ y → is_pile_on x y p ≡ true
pile_whole x y p kind column row = both_true (is_pile p.kind && (p.x == x)) (p.y == y) (both_true (is_pile p.kind) (p.x == x) kind (eq-eqb p.x x column)) (eq-eqb p.y y row)

-- ---- what stands after energy fell

put_pile : (part : RoomPart) (pile : Object) (found : Option Object) (id : ℕ) (o : Object) → pile.kind ≡ Pile → Holds (put pile part found) id o → Holds part id o ⊎ (o.kind ≡ Pile)
put_pile part pile None id o kind h = inl h
put_pile part pile (Some old) id o kind h = put_or_before part pile.id pile id o h (λ at one. inr (ap (λ (p : Object). p.kind) (sym one) ∙ kind)) (λ before. inl before)

new_pile : (part : RoomPart) (make : ℕ → Object) (b : Bool) (id : ℕ) (o : Object) → (make (next_id part)).kind ≡ Pile
    → Holds (if b then record part { next = part.next + 1; objects = insert part.objects (next_id part) (make (next_id part)) } else part) id o → Holds part id o ⊎ (o.kind ≡ Pile)
new_pile part make true id o kind h = put_or_before part (next_id part) (make (next_id part)) id o h (λ at one. inr (ap (λ (p : Object). p.kind) (sym one) ∙ kind)) (λ before. inl before)
new_pile part make false id o kind h = inl h

on_came : (x y amount : ℕ) (part : RoomPart) (found : Option Object) → pile_on x y part ≡ found → (id : ℕ) (o : Object) → Holds (fallen_on found x y amount part) id o → Holds part id o ⊎ (o.kind ≡ Pile)
on_came x y amount part (Some pile) is id o h =
    let there = pile_there x y part pile is in
    let grown : Object = record pile { energy = min pile_bound (pile.energy + amount) } in
    put_pile part grown (get part.objects grown.id) id o (is_pile_kind pile.kind (pile_parts x y pile there.2).0) h
on_came x y amount part None is id o h = new_pile part (λ id. pile_of id x y (min pile_bound amount)) (nat_lt part.next (2 ^ 32)) id o refl h

-- What stands after energy fell stood before, or is a pile.
pub fallen_came : (x y amount : ℕ) (part : RoomPart) (id : ℕ) (o : Object) → Holds (fallen x y amount part) id o → Holds part id o ⊎ (o.kind ≡ Pile)
fallen_came x y amount part id o h =
    elim (amount == 0) as (λ b. Holds (if b then part else fallen_on (pile_on x y part) x y amount part) id o → Holds part id o ⊎ (o.kind ≡ Pile)) [
      | true ↦ λ same. inl same
      | false ↦ λ fell. on_came x y amount part (pile_on x y part) refl id o fell
    ] h

-- ---- piles that grow and piles that are new

clash_after : (k : Kind) → clash k Pile ≡ true → is_pile k ≡ true
clash_after Pile is = refl
clash_after k is = absurd (cc)

clash_before : (k : Kind) → clash Pile k ≡ true → is_pile k ≡ true
clash_before Pile is = refl
clash_before k is = absurd (cc)

grown_range : (stage : Stage) (p : Object) (amount : ℕ) → p.kind ≡ Pile → IsInRangeIn p.kind stage p → IsInRangeIn p.kind stage (record p { energy = min pile_bound (p.energy + amount) })
grown_range stage p amount is r =
    let s : IsPile p = subst (λ (k : Kind). IsInRangeIn k stage p) is r in
    subst (λ (k : Kind). IsInRangeIn k stage (record p { energy = min pile_bound (p.energy + amount) })) (sym is)
    (record { owner = s.owner; hits = s.hits; energy = (omega (arith, s.energy), omega arith); timer = s.timer; extra = s.extra; progress = s.progress; other = s.other; other_ticks = s.other_ticks; body = s.body })

new_range : (id x y amount : ℕ) → 1 ≤ amount → IsPile (pile_of id x y (min pile_bound amount))
new_range id x y amount some = record { owner = refl; hits = refl; energy = (omega arith, omega arith); timer = refl; extra = refl; progress = refl; other = refl; other_ticks = refl; body = refl }

-- ---- energy that falls

module _ (players : ℕ → Bool) (stage : Stage) where
  abbrev Kept : RoomPart → Type 0
  Kept part = KeepsRoomRules players stage part

  -- the tile is in the room and no wall
  pub record IsOpen (grounds : List Ground) (x y : ℕ) : Type 0 where
    pub column : x ≤ 49
    pub row : y ≤ 49
    pub ground : IsWall grounds x y → ⊥

  open_tile : (grounds : List Ground) (pile : Object) → pile.kind ≡ Pile → (IsWall grounds pile.x pile.y → ⊥) → IsOnWrongTile grounds pile → ⊥
  open_tile grounds pile kind ground (inl h) = ground h.2
  open_tile grounds pile kind ground (inr h) = let is = ap is_pile kind in absurd (cc)

  on_keeps : (part : RoomPart) → Kept part → (x y amount : ℕ) → IsOpen part.grounds x y → 1 ≤ amount → (found : Option Object) → pile_on x y part ≡ found → Kept (fallen_on found x y amount part)
  on_keeps part k x y amount tile some (Some pile) is =
      let at = pile_there x y part pile is in
      let kind = is_pile_kind pile.kind (pile_parts x y pile at.2).0 in
      let grown : Object = record pile { energy = min pile_bound (pile.energy + amount) } in
      keeps_changed players stage part k at.0 pile grown at.1
      (record { id = refl; kind = refl; x = refl; y = refl; owner = refl; other = refl }) (grown_range stage pile amount kind)
  on_keeps part k x y amount tile some None is =
      let new : Object = pile_of (next_id part) x y (min pile_bound amount) in
      keeps_new players stage part k (λ id. pile_of id x y (min pile_bound amount)) (record {
        id = refl;
        inside = record { column = tile.column; row = tile.row };
        tile = open_tile part.grounds new refl tile.ground;
        alone = λ m q there column row. (
            let apart : (is_pile q.kind ≡ true) → ⊥ = λ pile. both_ways (is_pile_on x y q) (no_pile_there x y part m q is there) (pile_whole x y q pile column row) in
            (λ c. apart (clash_before q.kind c), λ c. apart (clash_after q.kind c)));
        owner = record { owner = λ some. absurd (some refl); other = λ some. absurd (some refl) };
        controller = refl;
        range = new_range (next_id part) x y amount some;
      })

  fallen_if : (part : RoomPart) → Kept part → (x y amount : ℕ) → IsOpen part.grounds x y → (b : Bool) → (amount == 0) ≡ b → Kept (if b then part else fallen_on (pile_on x y part) x y amount part)
  fallen_if part k x y amount tile true is = k
  fallen_if part k x y amount tile false is = on_keeps part k x y amount tile (some amount is) (pile_on x y part) refl
    where
      some : (n : ℕ) → (n == 0) ≡ false → 1 ≤ n
      some n is = grind arith

  -- an amount falls on an open tile
  pub keeps_fallen : (part : RoomPart) → Kept part → (x y amount : ℕ) → IsOpen part.grounds x y → Kept (fallen x y amount part)
  keeps_fallen part k x y amount tile = fallen_if part k x y amount tile (amount == 0) refl

  -- ---- what a creep drops

  -- a creep stands on an open tile
  pub creep_tile : (part : RoomPart) → Kept part → (id : ℕ) (c : Object) → Holds part id c → is_creep c.kind ≡ true → IsOpen part.grounds c.x c.y
  creep_tile part k id c there creep =
      let kind = is_creep_kind c.kind creep in
      let inside = k.inside id c there in
      record { column = inside.column; row = inside.row; ground = λ wall. k.tiles id c there (inl (ap is_source kind, ap is_controller kind, wall)) }

  -- the ranges of a creep with less of a load
  pub less_range : (c : Object) (amount : ℕ) → is_creep c.kind ≡ true → IsInRangeIn c.kind stage c → IsInRangeIn c.kind stage (record c { energy = c.energy - amount })
  less_range c amount creep r =
      let is = is_creep_kind c.kind creep in
      subst (λ (k : Kind). IsInRangeIn k stage (record c { energy = c.energy - amount })) (sym is) (less_as stage (subst (λ (k : Kind). IsInRangeIn k stage c) is r))
    where
      less_within : IsCreepWithin c → IsCreepWithin (record c { energy = c.energy - amount })
      less_within s = record { owner = s.owner; hits = s.hits; energy = omega (arith, s.energy); timer = s.timer; extra = s.extra; progress = s.progress; other = s.other; other_ticks = s.other_ticks; some_parts = s.some_parts; parts = s.parts }

      less_moved : IsCreepMoved c → IsCreepMoved (record c { energy = c.energy - amount })
      less_moved s = let r = s.rested in record { other_ticks = s.other_ticks; rested = record { owner = r.owner; hits = r.hits; energy = omega (arith, r.energy); timer = r.timer; extra = r.extra; progress = r.progress; other = r.other; other_ticks = r.other_ticks; some_parts = r.some_parts; parts = r.parts } }

      less_as : (w : Stage) → IsInRangeIn Creep w c → IsInRangeIn Creep w (record c { energy = c.energy - amount })
      less_as within s = less_within s
      less_as settled s = record { alive = s.alive; within = less_within s.within }
      less_as between s = record { owner = s.owner; hits = s.hits; energy = omega (arith, s.energy); timer = s.timer; extra = s.extra; progress = s.progress; other = s.other; other_ticks = s.other_ticks; some_parts = s.some_parts; parts = s.parts }
      less_as summed s = less_moved s
      less_as moved s = less_moved s

  lessened : (part : RoomPart) → Kept part → (id : ℕ) (c : Object) → Holds part id c → is_creep c.kind ≡ true → (amount : ℕ) → Kept (with_object (record c { energy = c.energy - amount }) part)
  lessened part k id c there creep amount =
      keeps_changed players stage part k id c (record c { energy = c.energy - amount }) there
      (record { id = refl; kind = refl; x = refl; y = refl; owner = refl; other = refl }) (less_range c amount creep)

  -- a tile stays open where an object was put in the place of its own
  pub open_still : (part : RoomPart) (object : Object) (found : Option Object) (x y : ℕ) → get part.objects object.id ≡ found → IsOpen part.grounds x y → IsOpen (with_object object part).grounds x y
  open_still part object found x y is tile = subst (λ (g : List Ground). IsOpen g x y) (sym (same_grounds (get part.objects object.id))) tile
    where
      same_grounds : (old : Option Object) → (put object part old).grounds ≡ part.grounds
      same_grounds None = refl
      same_grounds (Some old) = refl

  -- a creep of the room drops an amount
  pub keeps_dropped_by : (part : RoomPart) → Kept part → (id : ℕ) (c : Object) → Holds part id c → is_creep c.kind ≡ true → (amount : ℕ) → Kept (dropped_by c amount part)
  keeps_dropped_by part k id c there creep amount =
      let less : Object = record c { energy = c.energy - amount } in
      keeps_fallen (with_object less part) (lessened part k id c there creep amount) c.x c.y amount
      (open_still part less (get part.objects c.id) c.x c.y refl (creep_tile part k id c there creep))

  dropped_if : (part : RoomPart) → Kept part → (entry : Intent) (c : Object) → Holds part entry.actor c → (b : Bool) → may_take_effect DropLoad entry part ≡ b → Kept (if b then dropped_by c (wanted_of entry.amount c.energy) part else part)
  dropped_if part k entry c there true can =
      keeps_dropped_by part k entry.actor c there (creep_acts DropLoad entry part c there can) (wanted_of entry.amount c.energy)
  dropped_if part k entry c there false can = k

  dropped_as : (part : RoomPart) → Kept part → (entry : Intent) (found : Option Object) → get part.objects entry.actor ≡ found → Kept (dropped_of entry found part)
  dropped_as part k entry None is = k
  dropped_as part k entry (Some c) is = dropped_if part k entry c is (may_take_effect DropLoad entry part) refl

  pub keeps_dropped : (part : RoomPart) → Kept part → (entry : Intent) → Kept (dropped entry part)
  keeps_dropped part k entry = dropped_as part k entry (get part.objects entry.actor) refl
