-- The turns of the steps in which what objects held may fall on their tiles.
use Rattle.std.proofs.Common.{◌≡◌, ℕ, zero, suc, ◌+◌, ◌-◌, ◌*◌, ◌^◌, ◌<◌, ◌≤◌, ◌==◌, min, not, Bool, true, false, cond, if◌then◌else◌, List, [], ◌∷◌, ◌++◌, length, map, take, drop, Option, Some, None, slice_get, refl, sym, ap, subst, ◌∙◌, inl, inr, arith, append_assoc}
use Rattle.std.specs.List.{AllByRecursion, filter, find}
use Rattle.std.specs.FinMap.{get, keys, values, get-remove}
use Rattle.std.specs.Cmp.{nat_cmp_total, unsigned_tied}
use Rattle.std.specs.Option.{unwrap_or}
use Rattle.std.proofs.lemmas.Bool.{cases_eq, ne_eqb}
use Rattle.std.proofs.lemmas.List.{length-append}
use Rattle.std.proofs.lemmas.List.Elements.{filter-append}
use Rattle.room_terrain.specs.declared.terrain.Ground.{Ground}
use Rattle.room_table.specs.declared.object.Object.{Object}
use Rattle.room_table.specs.declared.tally.Tally.{Tally}
use Rattle.room_table.specs.Tables.{Table, IsOnTile, IsRising, HasId, HasNoId, find_object, removed, with_object, with_new, without}
use Rattle.room_table.specs.Tallies.{no_tally, tally_of}
use Rattle.room_table.proofs.Keyed.{objects_from_rises, rises_from_objects}
use Rattle.room_table.proofs.Rising.{all_both, all_filter, all_weaker, rises-replaced}
use Rattle.world_rules.specs.RoomParts.{RoomPart, table_part}
use Rattle.world_rules.specs.RuleBook.{Sums}
use Rattle.world_rules.specs.Changes.{with_object as with_in_part, without as without_in_part}
use Rattle.world_rules.specs.Drops.{fallen, is_pile_on, pile_bound, pile_of}
use Rattle.world_rules.specs.Steps.{by_object, over_ids, over_objects}
use Rattle.world_rules.proofs.Keys.{keyed, table_sorted, entries_of_sorted}
use Rattle.world_rules.proofs.TableParts.{absent_new, absent_replaced, absent_without, found_by_id, get_table_part, part_replaced, part_values, part_without, tiles_filter, tiles_replaced, all_found}
use Rattle.room_rules.specs.Calls.{AreSumsOf, IsReady, IsReadyFor, Keeps, KeepsTallies}
use Rattle.falling_energy.proofs.Parts.{fallen_grown, fallen_made}
use Rattle.upkeep_rules.specs.declared.wearing.Wear.{Wear}
use Rattle.upkeep_rules.specs.inner.Worn.{ahead, budget, change, concerned, concerns, ids_of, left_in, made, may_drop, may_unload, place_behind, stays, tally_in, tasks, worn, AreSumsFor, HasFallen, IsTurn, Leaving}
use Rattle.upkeep_rules.proofs.Fallen.{only_concerned, pile_found, quiet_is, IsQuiet}
use Rattle.upkeep_rules.proofs.Outcomes.{change_made, pile_drops_none, pile_is_none, piles, unit, unloads, unloads_more, unloads_nothing, worn_fits, IsFit}
use Rattle.upkeep_rules.proofs.Parts.{table_keyed}
use Rattle.upkeep_rules.proofs.Passing.{found_there, removed_middle, replaced_middle}
use Rattle.upkeep_rules.proofs.Split.{AreAbove, AreUpTo, IsSplit, all_back, all_joined, behind_here, cut_at, drop_at, drop_front, filter_new, filter_set, front_long, others, own_found, rising_back, rising_below, rising_new, rising_without, set_quiet, split_ahead, split_new, split_set}

-- ---- counts

-- how many may leave a pile as they go
abbrev many : Wear → List Object → ℕ
many step objects = length (filter (may_drop step) objects)

many_joined : (step : Wear) (xs ys : List Object) → many step (xs ++ ys) ≡ many step xs + many step ys
many_joined step xs ys = ap length (filter-append (may_drop step) xs ys) ∙ length-append (filter (may_drop step) xs) (filter (may_drop step) ys)

many_more : (step : Wear) (object : Object) (objects : List Object) → many step (object ∷ objects) ≡ unit (may_drop step object) + many step objects
many_more step object objects =
    elim (may_drop step object) as (λ b. length (cond b (object ∷ filter (may_drop step) objects) (filter (may_drop step) objects)) ≡ unit b + many step objects) [ true ↦ omega arith | false ↦ omega arith ]

-- A table that has what a step may still make is ready for it.
ready_still : (many left : ℕ) (old new : Table) → IsReadyFor many old → new.next + new.spare ≡ old.next + old.spare → new.next + left ≤ old.next + many
    → ((serial : ℕ) → new.next ≤ serial → serial < 2 ^ 32 → HasNoId (new.index * 2 ^ 32 + serial) new.objects) → AllByRecursion IsOnTile new.objects → IsReadyFor left new
ready_still many left old new ready used made fresh tiles = record { spare = omega (arith, ready.spare, used, made); serial = omega (arith, ready.serial, made); fresh = fresh; tiles = tiles }

tally_without : (table : Table) (gone id : ℕ) → (id ≡ gone → ⊥) → tally_of id (removed gone table).tallies ≡ tally_of id table.tallies
tally_without table gone id other =
    ap (λ (o : Option Tally). unwrap_or o no_tally) (
    get-remove nat_cmp_total table.tallies gone id
    ∙ ap (λ (b : Bool). cond b None (get table.tallies id)) (unsigned_tied id gone ∙ ne_eqb id gone other))

-- the tallies of objects that are found
sums_after : (sums : Sums) (old new : Table) (objects : List Object) → AllByRecursion (λ o. tally_of o.id new.tallies ≡ tally_of o.id old.tallies) objects → AreSumsFor sums old objects → AreSumsFor sums new objects
sums_after sums old new objects same agree =
    all_both (λ o. tally_of o.id new.tallies ≡ tally_of o.id old.tallies) (λ o. tally_in sums o.id ≡ tally_of o.id old.tallies) (λ o. tally_in sums o.id ≡ tally_of o.id new.tallies)
    (λ o kept is. is ∙ sym kept) objects same agree

module _ (step : Wear) (place : ℕ) (old : Table) (object : Object) (at : slice_get old.objects place ≡ Some object)
    (rise : IsRising old.objects) (ready : IsReadyFor (budget step place old) old) where
  abbrev before : List Object
  before = take place old.objects

  abbrev after : List Object
  after = drop (suc place) old.objects

  abbrev test : Object → Bool
  test o = concerns step o.kind

  whole : old.objects ≡ before ++ object ∷ after
  whole = cut_at old.objects place object at

  here : length before ≡ place
  here = front_long old.objects place object at

  rising : IsRising (before ++ object ∷ after)
  rising = subst IsRising whole rise

  found : find_object object.id old.objects ≡ Some object
  found = found_there old.objects place object object.id rise at refl

  below_here : AreUpTo object.id before
  below_here = all_weaker (λ o. o.id < object.id) (λ o. o.id ≤ object.id) (λ o lt. omega arith) before (rising_below before object after rising)

  above_here : AreAbove object.id after
  above_here = (rising_back before (object ∷ after) rising).0

  ahead_is : ahead place old ≡ object ∷ after
  ahead_is = drop_at old.objects place object at

  long_ahead : length (ahead place old) ≡ suc (length after)
  long_ahead = ap length ahead_is

  concerned_by : (b : Bool) → concerns step object.kind ≡ b → concerned step (ahead place old) ≡ cond b (object ∷ concerned step after) (concerned step after)
  concerned_by b is = ap (concerned step) ahead_is ∙ ap (λ (x : Bool). cond x (object ∷ concerned step after) (concerned step after)) is

  many_old : many step old.objects ≡ many step before + (unit (may_drop step object) + many step after)
  many_old = ap (many step) whole ∙ many_joined step before (object ∷ after) ∙ ap (λ (n : ℕ). many step before + n) (many_more step object after)

  abbrev Turned : ℕ → Table → Type 0
  Turned to new = IsTurn step place old to new × (tasks step to new < tasks step place old)

  -- ---- what is not concerned is passed over

  turned_calm : concerns step object.kind ≡ false → Turned (suc place) old
  turned_calm calm =
      let same = concerned_by false calm in
      let rest = ap (may_unload step) same in
      let fewer = ap length same in (
        record {
          ready = ready_still (budget step place old) (budget step (suc place) old) old old ready refl (omega (arith, rest)) ready.fresh ready.tiles;
          index = refl;
          used = refl;
          later = omega arith;
          made = omega (arith, rest);
          rule = λ sums agree. (
            subst (AreSumsFor sums old) same agree,
            λ grounds. ap (λ (xs : List Object). over_ids (change step sums) (ids_of xs) (table_part grounds old)) (sym same),
          );
        },
        omega (arith, fewer, long_ahead),
      )

  module _ (tally : Tally) (tally_is : tally ≡ tally_of object.id old.tallies) (is : concerns step object.kind ≡ true) (left : Leaving) (left_is : left ≡ worn step tally object) where
    fits : IsFit step object left
    fits = subst (IsFit step object) (sym left_is) (worn_fits step tally object is)

    -- The object is as it is left, with nothing fallen yet.
    record IsMiddle (front : List Object) (middle : Table) : Type 0 where
      objects : middle.objects ≡ front ++ after
      below : AreUpTo object.id front
      index : middle.index ≡ old.index
      next : middle.next ≡ old.next
      spare : middle.spare ≡ old.spare
      rises : IsRising middle.objects
      absent : (id : ℕ) → HasNoId id old.objects → HasNoId id middle.objects
      tiles : AllByRecursion IsOnTile middle.objects
      kept : (id : ℕ) → object.id < id → tally_of id middle.tallies ≡ tally_of id old.tallies
      count : many step front ≡ many step before + (if left.stands then unit (may_drop step left.object) else 0)
      part : (grounds : List Ground) → table_part grounds middle ≡ left_in left (table_part grounds old)

    module _ (front : List Object) (middle : Table) (mid : IsMiddle front middle) where
      abbrev start : ℕ
      start = length front

      many_middle : many step middle.objects + piles left.falls ≤ many step old.objects + unloads step
      many_middle = omega (arith, ap (many step) mid.objects, many_joined step front after, mid.count, many_old, fits.pays)

      paid : piles left.falls ≤ budget step place old
      paid =
          let one : may_unload step (concerned step (ahead place old)) ≡ unloads step + may_unload step (concerned step after) = ap (may_unload step) (concerned_by true is) ∙ unloads_more step object (concerned step after) in
          omega (arith, many_middle, one)

      -- the turn, where the new table is split so
      turned_split : (to : ℕ) (new : Table) (back : List Object) → ahead to new ≡ back → concerned step back ≡ concerned step after → length back ≤ length after + 1
          → many step new.objects ≡ many step middle.objects → IsRising new.objects
          → new.index ≡ old.index → new.next + new.spare ≡ old.next + old.spare → old.next ≤ new.next → new.next ≤ old.next + piles left.falls
          → ((serial : ℕ) → new.next ≤ serial → serial < 2 ^ 32 → HasNoId (new.index * 2 ^ 32 + serial) new.objects) → AllByRecursion IsOnTile new.objects
          → AllByRecursion (λ o. tally_of o.id new.tallies ≡ tally_of o.id old.tallies) (concerned step back)
          → ((grounds : List Ground) → table_part grounds new ≡ made left (table_part grounds old))
          → Turned to new
      turned_split to new back ahead_back same few counts rises index used later most fresh tiles kept part =
          let rest : concerned step (ahead to new) ≡ concerned step after = ap (concerned step) ahead_back ∙ same in
          let old_rest : may_unload step (concerned step (ahead place old)) ≡ unloads step + may_unload step (concerned step after) = ap (may_unload step) (concerned_by true is) ∙ unloads_more step object (concerned step after) in
          let new_rest : may_unload step (concerned step (ahead to new)) ≡ may_unload step (concerned step after) = ap (may_unload step) rest in
          let made_less : new.next + budget step to new ≤ old.next + budget step place old = omega (arith, counts, many_middle, old_rest, new_rest, most) in
          let long_new : length (ahead to new) ≡ length back = ap length ahead_back in
          let old_tasks : length (concerned step (ahead place old)) ≡ suc (length (concerned step after)) = ap length (concerned_by true is) in
          let new_tasks : length (concerned step (ahead to new)) ≡ length (concerned step after) = ap length rest in (
            record {
              ready = ready_still (budget step place old) (budget step to new) old new ready used made_less fresh tiles;
              index = index;
              used = used;
              later = later;
              made = made_less;
              rule = λ sums agree.
                  let both : AreSumsFor sums old (object ∷ concerned step after) = subst (AreSumsFor sums old) (concerned_by true is) agree in (
                    subst (AreSumsFor sums new) (ap (concerned step) (sym ahead_back)) (sums_after sums old new (concerned step back) kept (subst (AreSumsFor sums old) (sym same) both.1)),
                    λ grounds.
                        ap (λ (xs : List Object). over_ids (change step sums) (ids_of xs) (table_part grounds new)) rest
                        ∙ ap (over_ids (change step sums) (ids_of (concerned step after))) (
                        part grounds
                        ∙ ap (λ (l : Leaving). made l (table_part grounds old)) (left_is ∙ ap (λ (t : Tally). worn step t object) (tally_is ∙ sym both.0))
                        ∙ sym (change_made step sums object (table_part grounds old) is)
                        ∙ sym (ap (by_object (change step sums) (table_part grounds old)) (get_table_part grounds old object.id ∙ found))
                        )
                        ∙ ap (λ (xs : List Object). over_ids (change step sums) (ids_of xs) (table_part grounds old)) (sym (concerned_by true is)),
                  );
            },
            omega (arith, long_new, few, old_tasks, new_tasks, long_ahead),
          )

      -- nothing falls
      turned_still : left.falls ≡ 0 → Turned start middle
      turned_still none =
          turned_split start middle after (ap (drop start) mid.objects ∙ drop_front front after) refl (omega arith) refl mid.rises mid.index (omega (arith, mid.next, mid.spare)) (omega (arith, mid.next)) (omega (arith, mid.next))
          (λ serial from below. ap (λ (n : ℕ). find_object (n * 2 ^ 32 + serial) middle.objects) mid.index ∙ mid.absent (old.index * 2 ^ 32 + serial) (ready.fresh serial (omega (arith, from, mid.next)) below)) mid.tiles
          (all_filter (λ o. tally_of o.id middle.tallies ≡ tally_of o.id old.tallies) test after (all_weaker (λ o. object.id < o.id) (λ o. tally_of o.id middle.tallies ≡ tally_of o.id old.tallies) (λ o lt. mid.kept o.id lt) after above_here))
          (λ grounds. mid.part grounds ∙ sym (ap (λ (n : ℕ). fallen left.object.x left.object.y n (left_in left (table_part grounds old))) none))

      -- The table is ready for the pile.
      fall_ready : 0 < left.falls → IsReady middle
      fall_ready some =
          let one : piles left.falls ≡ 1 = ap (λ (b : Bool). cond {A = ℕ} b 0 1) (ne_eqb left.falls 0 (λ none. omega (arith, some, none))) in
          let least : 1 ≤ budget step place old = omega (arith, paid, one) in
          let serial : old.next < 2 ^ 32 - 1 = omega (arith, ready.serial, least) in
          record {
            spare = omega (arith, mid.spare, ready.spare, least);
            serial = omega (arith, mid.next, serial);
            fresh = (λ i. find_object (mid.index i * 2 ^ 32 + mid.next i) middle.objects) ∙ mid.absent (old.index * 2 ^ 32 + old.next) (ready.fresh old.next (omega arith) (omega (arith, serial)));
            tiles = mid.tiles;
          }

      module _ (some : 0 < left.falls) (new : Table) (rises : IsRising new.objects) (keeps : Keeps middle new) (tallies : KeepsTallies middle new)
          (rule : (grounds : List Ground) → table_part grounds new ≡ fallen left.object.x left.object.y left.falls (table_part grounds middle)) where
        one_pile : piles left.falls ≡ 1
        one_pile = ap (λ (b : Bool). cond {A = ℕ} b 0 1) (ne_eqb left.falls 0 (λ none. omega (arith, some, none)))

        not_none : left.falls ≡ 0 → ⊥
        not_none none = omega (arith, some, none)

        ready_here : IsReady middle
        ready_here = fall_ready some

        same_table : (table : Table) → IsRising table.objects → table_part [] table ≡ fallen left.object.x left.object.y left.falls (table_part [] middle) → (new.objects ≡ table.objects) × (new.next ≡ table.next)
        same_table table table_rises made =
            let same = rule [] ∙ sym made in (
              sym (part_values [] new rises) ∙ ap (λ (p : RoomPart). values p.objects) same ∙ part_values [] table table_rises,
              ap (λ (p : RoomPart). p.next) same,
            )

        joined_rises : IsRising (front ++ after)
        joined_rises = subst IsRising mid.objects mid.rises

        turned_new : IsSplit test object.id start after new.objects → many step new.objects ≡ many step middle.objects
            → ((serial : ℕ) → new.next ≤ serial → serial < 2 ^ 32 → HasNoId (new.index * 2 ^ 32 + serial) new.objects) → Turned (place_behind object.id start new.objects) new
        turned_new split counts fresh =
            let found_new : AllByRecursion (λ o. find_object o.id new.objects ≡ Some o) new.objects = own_found new.objects rises in
            let found_back : AllByRecursion (λ o. find_object o.id new.objects ≡ Some o) split.back = all_back (λ o. find_object o.id new.objects ≡ Some o) split.front split.back (subst (AllByRecursion (λ o. find_object o.id new.objects ≡ Some o)) split.whole found_new) in
            let kept : AllByRecursion (λ o. tally_of o.id new.tallies ≡ tally_of o.id old.tallies) split.back = all_both (λ o. find_object o.id new.objects ≡ Some o) (λ o. object.id < o.id) (λ o. tally_of o.id new.tallies ≡ tally_of o.id old.tallies) (λ o own lt. tallies o.id (o, own) ∙ mid.kept o.id lt) split.back found_back split.above in
            turned_split (place_behind object.id start new.objects) new split.back (split_ahead test object.id start after new.objects split) split.same split.fewer counts rises (keeps.index ∙ mid.index)
            (omega (arith, keeps.used, mid.next, mid.spare)) (omega (arith, keeps.later, mid.next)) (omega (arith, keeps.made, mid.next, one_pile)) fresh keeps.tiles
            (all_filter (λ o. tally_of o.id new.tallies ≡ tally_of o.id old.tallies) test split.back kept)
            (λ grounds. rule grounds ∙ ap (fallen left.object.x left.object.y left.falls) (mid.part grounds))

        same_index : new.index ≡ old.index
        same_index = keeps.index ∙ mid.index

        middle_fresh : (serial : ℕ) → old.next ≤ serial → serial < 2 ^ 32 → HasNoId (old.index * 2 ^ 32 + serial) middle.objects
        middle_fresh serial from below = mid.absent (old.index * 2 ^ 32 + serial) (ready.fresh serial from below)

        -- the pile of the tile has grown
        grown : (pile : Object) → find (is_pile_on left.object.x left.object.y) middle.objects ≡ Some pile → Turned (place_behind object.id start new.objects) new
        grown pile lies =
            let more : Object = record pile { energy = min pile_bound (pile.energy + left.falls) } in
            let table : Table = record middle { objects = with_object more middle.objects } in
            let same = same_table table (objects_from_rises table.objects (rises-replaced (λ o. o.id) more middle.objects (rises_from_objects middle.objects mid.rises))) (fallen_grown [] middle left.object.x left.object.y left.falls mid.rises not_none pile lies) in
            let kind = pile_found left.object.x left.object.y middle.objects pile lies in
            let calm : concerns step pile.kind ≡ false = ap (concerns step) kind ∙ pile_is_none step in
            let own = found_by_id (is_pile_on left.object.x left.object.y) middle.objects pile mid.rises lies in
            let split = split_set test object.id start front after refl mid.below above_here joined_rises more calm pile (ap (find_object pile.id) (sym mid.objects) ∙ own) calm in
            let counts : many step (with_object more middle.objects) ≡ many step middle.objects = ap length (filter_set (may_drop step) more (pile_drops_none step more kind) middle.objects (set_quiet (may_drop step) more middle.objects mid.rises pile own (pile_drops_none step pile kind))) in
            turned_new (subst (IsSplit test object.id start after) (sym (same.0 ∙ ap (with_object more) mid.objects)) split) (ap (many step) same.0 ∙ counts) (λ serial from below.
            ap (λ (n : ℕ). find_object (n * 2 ^ 32 + serial) new.objects) same_index
            ∙ ap (find_object (old.index * 2 ^ 32 + serial)) same.0
            ∙ absent_replaced (old.index * 2 ^ 32 + serial) more middle.objects (middle_fresh serial (omega (arith, from, same.1, mid.next)) below))

        -- a pile is made
        heaped : find (is_pile_on left.object.x left.object.y) middle.objects ≡ None → Turned (place_behind object.id start new.objects) new
        heaped none =
            let pile : Object = pile_of (middle.index * 2 ^ 32 + middle.next) left.object.x left.object.y (min pile_bound left.falls) in
            let table : Table = record middle { next = middle.next + 1; objects = with_new pile middle.objects; spare = 0 } in
            let room : middle.next < 2 ^ 32 = omega (arith, ready_here.serial) in
            let same = same_table table (rising_new pile middle.objects mid.rises) (fallen_made [] middle left.object.x left.object.y left.falls mid.rises not_none 0 room none) in
            let absent : HasNoId pile.id (front ++ after) = ap (find_object pile.id) (sym mid.objects) ∙ ready_here.fresh in
            let id_is : pile.id ≡ old.index * 2 ^ 32 + old.next = λ i. mid.index i * 2 ^ 32 + mid.next i in
            let old_room : old.next < 2 ^ 32 = omega (arith, room, mid.next) in
            let apart : pile.id ≡ object.id → ⊥ = λ one. (let both : ◌≡◌ {A = Option Object} None (Some object) = sym (ready.fresh old.next (omega arith) old_room) ∙ ap (λ (n : ℕ). find_object n old.objects) (sym id_is ∙ one) ∙ found in cc) in
            let split = split_new test object.id start front after refl mid.below above_here joined_rises pile (pile_is_none step) absent apart in
            let counts : many step (with_new pile middle.objects) ≡ many step middle.objects = ap length (filter_new (may_drop step) pile (pile_drops_none step pile refl) middle.objects mid.rises (others pile.id middle.objects ready_here.fresh)) in
            turned_new (subst (IsSplit test object.id start after) (sym (same.0 ∙ ap (with_new pile) mid.objects)) split) (ap (many step) same.0 ∙ counts) (λ serial from below.
            let later : old.next + 1 ≤ serial = omega (arith, from, same.1, mid.next) in
            ap (λ (n : ℕ). find_object (n * 2 ^ 32 + serial) new.objects) same_index
            ∙ ap (find_object (old.index * 2 ^ 32 + serial)) same.0
            ∙ elim (absent_new (old.index * 2 ^ 32 + serial) pile middle.objects (middle_fresh serial (omega (arith, later)) below)) as (λ m. find_object (old.index * 2 ^ 32 + serial) (with_new pile middle.objects) ≡ None) [
              | inl none ↦ none
              | inr one ↦ absurd (omega (arith, one, later, id_is))
            ])

        turned_fallen : Turned (place_behind object.id start new.objects) new
        turned_fallen =
            elim (find (is_pile_on left.object.x left.object.y) middle.objects) as (λ lying. find (is_pile_on left.object.x left.object.y) middle.objects ≡ lying → Turned (place_behind object.id start new.objects) new) [
              | None ↦ λ none. heaped none
              | Some pile ↦ λ lies. grown pile lies
            ] refl

      -- once what it left has fallen
      after_fall : (new : Table) → IsRising new.objects → HasFallen left.object left.falls middle new → Turned (place_behind object.id start new.objects) new
      after_fall new rises fell = elim (cases_eq left.falls 0) [
        | inl none ↦
            let behind = ap (place_behind object.id start) mid.objects ∙ behind_here object.id front after above_here in
            subst (λ (t : Table). Turned (place_behind object.id start t.objects) t) (sym (fell.none none)) (subst (λ (n : ℕ). Turned n middle) (sym behind) (turned_still none))
        | inr other ↦ let some : 0 < left.falls = grind (arith, other) in turned_fallen some new rises (fell.keeps some) (fell.tallies some) (fell.rule some)
      ]

    -- ---- the two ways in which an object is left

    on_tile : IsOnTile left.object
    on_tile =
        let on = all_found IsOnTile (λ o. o.id == object.id) old.objects object ready.tiles found in
        record { column = omega (arith, fits.x, on.column); row = omega (arith, fits.y, on.row) }

    stood : left.stands ≡ true → IsMiddle (before ++ left.object ∷ []) (record old { objects = with_object left.object old.objects })
    stood stands =
        let objects : with_object left.object old.objects ≡ before ++ left.object ∷ after = ap (with_object left.object) whole ∙ replaced_middle before object after rising left.object fits.id in
        let own : left.object.id ≤ object.id = omega (arith, fits.id) in
        let standing = ap (λ (b : Bool). if b then unit (may_drop step left.object) else 0) stands in
        record {
          objects = objects ∙ sym (append_assoc before (left.object ∷ []) after);
          below = all_joined (λ o. o.id ≤ object.id) before (left.object ∷ []) below_here (own, tt);
          index = refl;
          next = refl;
          spare = refl;
          rises = objects_from_rises (with_object left.object old.objects) (rises-replaced (λ o. o.id) left.object old.objects (rises_from_objects old.objects rise));
          absent = λ id none. absent_replaced id left.object old.objects none;
          tiles = tiles_replaced left.object old.objects on_tile ready.tiles;
          kept = λ id lt. refl;
          count = omega (arith, many_joined step before (left.object ∷ []), many_more step left.object [], standing);
          part = λ grounds.
              part_replaced grounds old left.object (object, ap (λ (n : ℕ). find_object n old.objects) fits.id ∙ found)
              ∙ sym (ap (λ (b : Bool). if b then with_in_part left.object (table_part grounds old) else without_in_part left.object.id (table_part grounds old)) stands);
        }

    went : left.stands ≡ false → IsMiddle before (removed object.id old)
    went gone =
        let going = ap (λ (b : Bool). if b then unit (may_drop step left.object) else 0) gone in
        record {
          objects = ap (without object.id) whole ∙ removed_middle before object after rising;
          below = below_here;
          index = refl;
          next = refl;
          spare = refl;
          rises = rising_without (λ o. not (o.id == object.id)) old.objects rise;
          absent = λ id none. absent_without id object.id old.objects none;
          tiles = tiles_filter (λ o. not (o.id == object.id)) old.objects ready.tiles;
          kept = λ id lt. tally_without old object.id id (λ same. omega (arith, same, lt));
          count = omega (arith, going);
          part = λ grounds.
              part_without grounds old object.id
              ∙ ap (λ (n : ℕ). without_in_part n (table_part grounds old)) (sym fits.id)
              ∙ sym (ap (λ (b : Bool). if b then with_in_part left.object (table_part grounds old) else without_in_part left.object.id (table_part grounds old)) gone);
        }

    long_stood : length (before ++ left.object ∷ []) ≡ place + 1
    long_stood = length-append before (left.object ∷ []) ∙ ap (λ (n : ℕ). n + 1) here

    -- ---- the turns as the code takes them

    pub its_tile : IsOnTile left.object
    its_tile = on_tile

    pub its_there : HasId left.object.id old.objects
    its_there = (object, ap (λ (n : ℕ). find_object n old.objects) fits.id ∙ found)

    module _ (stands : left.stands ≡ true) where
      abbrev standing : Table
      standing = record old { objects = with_object left.object old.objects }

      pub turned_standing : left.falls ≡ 0 → (new : Table) → new ≡ standing → Turned (place + 1) new
      turned_standing none new new_is =
          subst (Turned (place + 1)) (sym new_is) (subst (λ (n : ℕ). Turned n standing) long_stood (turned_still (before ++ left.object ∷ []) standing (stood stands) none))

      pub ready_standing : (middle : Table) → middle ≡ standing → 0 < left.falls → IsReady middle
      ready_standing middle middle_is some = subst IsReady (sym middle_is) (fall_ready (before ++ left.object ∷ []) standing (stood stands) some)

      pub turned_dropped : (middle new : Table) → middle ≡ standing → IsRising new.objects → HasFallen left.object left.falls middle new → Turned (place_behind object.id (place + 1) new.objects) new
      turned_dropped middle new middle_is rises fell =
          subst (λ (n : ℕ). Turned (place_behind object.id n new.objects) new) long_stood
          (after_fall (before ++ left.object ∷ []) standing (stood stands) new rises (subst (λ (t : Table). HasFallen left.object left.falls t new) middle_is fell))

    module _ (gone : left.stands ≡ false) where
      pub ready_gone : (middle : Table) → middle ≡ removed object.id old → 0 < left.falls → IsReady middle
      ready_gone middle middle_is some = subst IsReady (sym middle_is) (fall_ready before (removed object.id old) (went gone) some)

      pub turned_gone : (middle new : Table) → middle ≡ removed object.id old → IsRising new.objects → HasFallen left.object left.falls middle new → Turned (place_behind object.id place new.objects) new
      turned_gone middle new middle_is rises fell =
          subst (λ (n : ℕ). Turned (place_behind object.id n new.objects) new) here
          (after_fall before (removed object.id old) (went gone) new rises (subst (λ (t : Table). HasFallen left.object left.falls t new) middle_is fell))

  -- an object that stays as it is
  pub turned_same : (tally : Tally) → tally ≡ tally_of object.id old.tallies → concerns step object.kind ≡ true → stays object ≡ worn step tally object → Turned (place + 1) old
  turned_same tally tally_is is left_is =
      let same : with_object object old.objects ≡ old.objects = ap (with_object object) whole ∙ replaced_middle before object after rising object refl ∙ sym whole in
      turned_standing tally tally_is is (stays object) left_is refl refl old (ap (λ (xs : List Object). record old { objects = xs }) (sym same))

  -- an object that is not concerned
  pub turned_past : concerns step object.kind ≡ false → Turned (place + 1) old
  turned_past calm = subst (λ (n : ℕ). Turned n old) (omega arith) (turned_calm calm)

-- ---- all turns

ids_keyed : (objects : List Object) → map (λ (e : ℕ × Object). e.0) (keyed (λ o. o.id) objects) ≡ ids_of objects
ids_keyed [] = refl
ids_keyed (object ∷ objects) = ap (λ (more : List ℕ). object.id ∷ more) (ids_keyed objects)

-- the ids of a room's part are those of its table, in their order
pub keys_of_table : (grounds : List Ground) (table : Table) → IsRising table.objects → keys (table_part grounds table).objects ≡ ids_of table.objects
keys_of_table grounds table rise = ap (map (λ (e : ℕ × Object). e.0)) (entries_of_sorted (keyed (λ o. o.id) table.objects) (table_sorted table.objects rise)) ∙ ids_keyed table.objects

pub nothing_ahead : {A : Type 0} (xs : List A) (n : ℕ) → length xs ≤ n → drop n xs ≡ []
nothing_ahead [] zero past = refl
nothing_ahead [] (suc n) past = refl
nothing_ahead (x ∷ xs) zero past = absurd (omega (arith, past))
nothing_ahead (x ∷ xs) (suc n) past = nothing_ahead xs n (omega (arith, past))

module _ (step : Wear) (start : Table) (place : ℕ) (now : Table) (rise : IsRising start.objects) (turn : IsTurn step 0 start place now) (past : length now.objects ≤ place) where
  nothing_left : concerned step (ahead place now) ≡ []
  nothing_left = ap (concerned step) (nothing_ahead now.objects place past)

  sums_of_all : (sums : Sums) → AreSumsOf sums start → AreSumsFor sums start (concerned step start.objects)
  sums_of_all sums are =
      all_filter (λ o. tally_in sums o.id ≡ tally_of o.id start.tallies) (λ o. concerns step o.kind) start.objects
      (all_weaker (λ o. find_object o.id start.objects ≡ Some o) (λ o. tally_in sums o.id ≡ tally_of o.id start.tallies) (λ o own i. record { damage = are.damage o.id (o, own) i; healing = are.healing o.id (o, own) i }) start.objects (own_found start.objects rise))

  -- After the last place all have had their turns.
  pub all_turned : (grounds : List Ground) (sums : Sums) → AreSumsOf sums start → table_part grounds now ≡ over_objects (change step sums) (table_part grounds start)
  all_turned grounds sums are =
      let part = table_part grounds start in
      let quiet = all_weaker (λ o. find_object o.id start.objects ≡ Some o) (λ o. concerns step o.kind ≡ false → IsQuiet step o.id part) (λ o own calm. quiet_is step (get part.objects o.id) o (get_table_part grounds start o.id ∙ own) calm) start.objects (own_found start.objects rise) in
      ap (λ (xs : List Object). over_ids (change step sums) (ids_of xs) (table_part grounds now)) (sym nothing_left)
      ∙ (turn.rule sums (sums_of_all sums are)).1 grounds
      ∙ sym (only_concerned step sums start.objects part (table_keyed grounds start) quiet)
      ∙ ap (λ (ids : List ℕ). over_ids (change step sums) ids part) (sym (keys_of_table grounds start rise))

  pub left_at_end : budget step place now ≡ length (filter (may_drop step) now.objects)
  left_at_end = let none : may_unload step [] ≡ 0 = unloads_nothing step in let rest = ap (may_unload step) nothing_left in omega (arith, none, rest)

-- one turn more
pub turns_on : (step : Wear) (start : Table) (place : ℕ) (now : Table) → IsTurn step 0 start place now → (to : ℕ) (new : Table) → IsTurn step place now to new → IsTurn step 0 start to new
turns_on step start place now past to new turn = record {
  ready = turn.ready;
  index = turn.index ∙ past.index;
  used = turn.used ∙ past.used;
  later = omega (arith, turn.later, past.later);
  made = omega (arith, turn.made, past.made);
  rule = λ sums agree.
      let first = past.rule sums agree in
      let second = turn.rule sums first.0 in
      (second.0, λ grounds. second.1 grounds ∙ first.1 grounds);
}
