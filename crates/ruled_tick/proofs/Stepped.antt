-- A room's table after movement and upkeep.
use Rattle.std.proofs.Common.{◌≡◌, ℕ, ◌+◌, ◌-◌, ◌*◌, ◌^◌, ◌<◌, ◌≤◌, ◌&&◌, ◌||◌, ◌++◌, max, nat_lt, Bool, true, false, cond, List, [], ◌∷◌, length, Option, Some, None, refl, sym, ap, subst, ◌∙◌, inl, inr, arith}
use Rattle.std.specs.List.{AllByRecursion, count_by}
use Rattle.std.proofs.lemmas.List.Sums.{length-filter, sum_by-cons}
use Rattle.game_tables.specs.Kinds.{is_building, is_creep}
use Rattle.room_terrain.specs.declared.terrain.Ground.{Ground}
use Rattle.intent_book.specs.declared.intent.Intent.{Intent}
use Rattle.room_table.specs.declared.object.Object.{Object}
use Rattle.room_table.specs.Tables.{Table, IsRising, IsOnTile, HasId, HasNoId, find_object}
use Rattle.room_table.specs.Tallies.{Tallies, no_tallies, tally_of}
use Rattle.world_rules.specs.RoomParts.{RoomPart, table_part}
use Rattle.world_rules.specs.RuleBook.{Sums, Step, Follows, StaysInRoom}
use Rattle.world_rules.specs.RoomTick.{room_after_steps}
use Rattle.world_rules.specs.Moves.{moved}
use Rattle.world_rules.specs.Claims.{controllers_aged}
use Rattle.world_rules.specs.Spawns.{hatched}
use Rattle.spawn_rules.specs.Spare.{is_spawn, may_hatch}
use Rattle.world_rules.specs.Upkeep.{first_steps, last_steps, middle_steps, decays}
use Rattle.world_rules.proofs.Follows.{follows_trans}
use Rattle.world_rules.proofs.Orderly.{book_orderly}
use Rattle.world_rules.proofs.TableParts.{get_table_part}
use Rattle.room_rules.specs.Calls.{AreSumsOf, IsReadyFor, KeepsUpTo}
use Rattle.upkeep_rules.specs.Falling.{many_fighters, may_fall, may_leave}
use Rattle.exit_crossing.specs.Crossing.{most_arrivals}
use Rattle.ruled_tick.specs.inner.Ticked.{HasMemory, IsReadyToTick, IsTickedTable}
use Rattle.ruled_tick.proofs.Fewer.{no_more}
use Rattle.ruled_tick.proofs.Rested.{beside_are, steps_follow, sums_beside}

-- ---- how many piles may be made

few_of : (test : Object → Bool) (objects : List Object) → count_by test objects ≤ length objects
few_of test [] = omega arith
few_of test (object ∷ objects) =
    let one_of : Object → ℕ = λ o. cond (test o) 1 0 in
    let one : one_of object ≤ 1 = elim (test object) as (λ b. cond {A = ℕ} b 1 0 ≤ 1) [ true ↦ omega arith | false ↦ omega arith ] in
    omega (arith, sum_by-cons one_of object objects, few_of test objects, one)

-- no more fall than there are
few_fall : (objects : List Object) → may_fall objects ≤ length objects
few_fall objects = few_of (λ o. decays o.kind && nat_lt 0 o.energy) objects

-- no more creeps come than there are spawns
few_hatch : (objects : List Object) → may_hatch objects ≤ length objects
few_hatch objects = let few = few_of is_spawn objects in let same = length-filter is_spawn objects in omega (arith, few, same)

few_leave : (objects : List Object) → may_leave objects ≤ 2 * length objects
few_leave objects = let few : many_fighters objects ≤ length objects = few_of (λ o. is_creep o.kind || is_building o.kind) objects in omega (arith, few)

-- ---- a table that comes of another

module _ (grounds : List Ground) (start after : Table) (follows : Follows (table_part grounds start) (table_part grounds after)) where
  -- no object has an id that the room will give
  pub fresh_after : ((serial : ℕ) → start.next ≤ serial → serial < 2 ^ 32 → HasNoId (start.index * 2 ^ 32 + serial) start.objects) → (serial : ℕ) → after.next ≤ serial → serial < 2 ^ 32 → HasNoId (after.index * 2 ^ 32 + serial) after.objects
  fresh_after fresh serial least most = none_as (find_object id after.objects) refl
    where
      id : ℕ
      id = after.index * 2 ^ 32 + serial

      index : after.index ≡ start.index
      index = follows.index

      grows : start.next ≤ after.next
      grows = follows.serial

      none_as : (found : Option Object) → find_object id after.objects ≡ found → found ≡ None
      none_as None is = refl
      none_as (Some o) is = elim (follows.own id (o, get_table_part grounds after id ∙ is)) [
        | inl stood ↦ (
            let gone : None ≡ Some stood.0 = sym (subst (λ (n : ℕ). HasNoId (n * 2 ^ 32 + serial) start.objects) (sym index) (fresh serial (omega (arith, least, grows)) most)) ∙ sym (get_table_part grounds start id) ∙ stood.1 in
            absurd cc
            )
        | inr new ↦ (let is_id : after.index * 2 ^ 32 + serial ≡ start.index * 2 ^ 32 + new.0 = new.1 in absurd (omega (arith, is_id, index, new.3, new.4, least, most)))
      ]

  -- What was done to what stands is what was done to it before, where nothing was made.
  pub sums_after : (sums : Sums) → after.next ≡ start.next → after.tallies ≡ start.tallies → AreSumsOf sums start → AreSumsOf sums after
  sums_after sums next same are = record {
    damage = λ id has. are.damage id (stood id has) ∙ ap (λ (t : Tallies). (tally_of id t).damage) (sym same);
    healing = λ id has. are.healing id (stood id has) ∙ ap (λ (t : Tallies). (tally_of id t).healing) (sym same);
  }
    where
      stood : (id : ℕ) → HasId id after.objects → HasId id start.objects
      stood id has = elim (follows.own id (has.0, get_table_part grounds after id ∙ has.1)) [
        | inl there ↦ (there.0, sym (get_table_part grounds start id) ∙ there.1)
        | inr new ↦ absurd (omega (arith, next, new.2, new.3))
      ]

-- the steps up to those of controllers
abbrev pub early_steps : List Step
early_steps = first_steps ++ middle_steps

-- Creeps come of spawns, once there is memory for them, and controllers age.
pub aged_rule : (grounds : List Ground) (two young grown born three : Table) (many : ℕ) → ((sums : Sums) → AreSumsOf sums two → table_part grounds young ≡ room_after_steps sums first_steps (table_part grounds two)) → HasMemory many young grown
    → table_part grounds born ≡ hatched (table_part grounds grown) → table_part grounds three ≡ controllers_aged (table_part grounds born) → (sums : Sums) → AreSumsOf sums two → table_part grounds three ≡ room_after_steps sums early_steps (table_part grounds two)
aged_rule grounds two young grown born three many rule memory hatch aged sums are =
    aged ∙ ap controllers_aged (hatch ∙ ap hatched (ap (table_part grounds) memory.same ∙ rule sums are))

-- The index stays, and all objects stand on tiles of the room.
pub aged_index : (two young grown born three : Table) (many first second : ℕ) → KeepsUpTo first two young → HasMemory many young grown → KeepsUpTo second grown born → KeepsUpTo 0 born three → three.index ≡ two.index
aged_index two young grown born three many first second keeps memory hatch aged = aged.index ∙ hatch.index ∙ ap (λ (t : Table). t.index) memory.same ∙ keeps.index

-- ---- movement, and memory for the first steps

-- A table after movement, and with memory for the first steps.
pub record HasMoved (moves : List Intent) (grounds : List Ground) (start one two : Table) : Type 0 where
  pub ready : IsReadyToTick start
  pub rule : table_part grounds one ≡ moved moves (table_part grounds start)
  pub index : one.index ≡ start.index
  pub next : one.next ≡ start.next
  pub spare : one.spare ≡ start.spare
  pub tallies : one.tallies ≡ start.tallies
  pub tiles : AllByRecursion IsOnTile one.objects
  pub rising : IsRising one.objects
  pub memory : HasMemory (2 * length one.objects) one two

module _ (moves : List Intent) (grounds : List Ground) (start one two : Table) (has : HasMoved moves grounds start one two) where
  follows_one : Follows (table_part grounds start) (table_part grounds one)
  follows_one = subst (Follows (table_part grounds start)) (sym has.rule) (book_orderly.moved moves (table_part grounds start))

  -- ready for the first steps
  pub ready_first : IsReadyFor (may_leave two.objects) two
  ready_first =
      subst (λ (t : Table). IsReadyFor (may_leave t.objects) t) (sym has.memory.same) (record {
        spare = omega (arith, few_leave one.objects);
        serial = omega (arith, few_leave one.objects, has.memory.serials);
        fresh = fresh_after grounds start one follows_one has.ready.fresh;
        tiles = has.tiles;
      })

  part_two : table_part grounds two ≡ moved moves (table_part grounds start)
  part_two = ap (table_part grounds) has.memory.same ∙ has.rule

  sums_two : (sums : Sums) → AreSumsOf sums start → AreSumsOf sums two
  sums_two sums are = subst (AreSumsOf sums) (sym has.memory.same) (record { damage = (sums_after grounds start one follows_one sums has.next has.tallies are).damage; healing = (sums_after grounds start one follows_one sums has.next has.tallies are).healing })

  -- ---- memory for the creeps that come of spawns

  module _ (young grown : Table) (rule : (sums : Sums) → AreSumsOf sums two → table_part grounds young ≡ room_after_steps sums first_steps (table_part grounds two)) (tiles : AllByRecursion IsOnTile young.objects) (memory : HasMemory (length young.objects) young grown) where
    follows_young : Follows (table_part grounds start) (table_part grounds young)
    follows_young =
        let part : RoomPart = table_part grounds start in
        let all = book_orderly.steps in
        let own : Sums = sums_beside start in
        let stay : AllByRecursion (λ (step : Step). (sums : Sums) → StaysInRoom (step sums)) first_steps = (all.0, (all.1.0, (all.1.1.0, (all.1.1.1.0, (all.1.1.1.1.0, tt))))) in
        subst (Follows part) (sym (rule own (sums_two own (beside_are start)) ∙ ap (room_after_steps own first_steps) part_two))
        (follows_trans part (moved moves part) (room_after_steps own first_steps (moved moves part)) (book_orderly.moved moves part) (steps_follow first_steps stay own (moved moves part)))

    -- ready for the spawns
    pub ready_hatch : IsReadyFor (may_hatch grown.objects) grown
    ready_hatch =
        subst (λ (t : Table). IsReadyFor (may_hatch t.objects) t) (sym memory.same) (record {
          spare = omega (arith, few_hatch young.objects);
          serial = omega (arith, few_hatch young.objects, memory.serials);
          fresh = fresh_after grounds start young follows_young has.ready.fresh;
          tiles = tiles;
        })

  -- ---- the steps up to those of controllers, and memory for the last ones

  module _ (three four : Table) (rule : (sums : Sums) → AreSumsOf sums two → table_part grounds three ≡ room_after_steps sums early_steps (table_part grounds two)) (index : three.index ≡ two.index) (tiles : AllByRecursion IsOnTile three.objects)
      (memory : HasMemory (length three.objects + most_arrivals) three four) where
    abbrev own : Sums
    own = sums_beside start

    part_three : (sums : Sums) → AreSumsOf sums start → table_part grounds three ≡ room_after_steps sums early_steps (moved moves (table_part grounds start))
    part_three sums are = rule sums (sums_two sums are) ∙ ap (room_after_steps sums early_steps) part_two

    follows_three : Follows (table_part grounds start) (table_part grounds three)
    follows_three =
        let part : RoomPart = table_part grounds start in
        let all = book_orderly.steps in
        let stay : AllByRecursion (λ (step : Step). (sums : Sums) → StaysInRoom (step sums)) early_steps =
        (all.0, (all.1.0, (all.1.1.0, (all.1.1.1.0, (all.1.1.1.1.0, (all.1.1.1.1.1.0, (all.1.1.1.1.1.1.0, tt))))))) in
        subst (Follows part) (sym (part_three own (beside_are start))) (follows_trans part (moved moves part) (room_after_steps own early_steps (moved moves part)) (book_orderly.moved moves part) (steps_follow early_steps stay own (moved moves part)))

    -- ready for the last steps
    pub ready_last : IsReadyFor (may_fall four.objects) four
    ready_last =
        subst (λ (t : Table). IsReadyFor (may_fall t.objects) t) (sym memory.same) (record {
          spare = omega (arith, few_fall three.objects);
          serial = omega (arith, few_fall three.objects, memory.serials);
          fresh = fresh_after grounds start three follows_three has.ready.fresh;
          tiles = tiles;
        })

    index_three : three.index ≡ start.index
    index_three = index ∙ ap (λ (t : Table). t.index) has.memory.same ∙ has.index

    part_four : table_part grounds four ≡ table_part grounds three
    part_four = ap (table_part grounds) memory.same

    spare_four : (last : Table) → KeepsUpTo (may_fall four.objects) four last → most_arrivals ≤ last.spare
    spare_four last kept =
        let spare : four.spare ≡ max three.spare (length three.objects + most_arrivals) = ap (λ (t : Table). t.spare) memory.same in
        let few : may_fall four.objects ≤ length three.objects = subst (λ (t : Table). may_fall t.objects ≤ length three.objects) (sym memory.same) (few_fall three.objects) in
        omega (arith, kept.used, kept.made, spare, few)

-- ---- how much memory is left

-- What was taken is as much as there was, or as the steps needed.
most_left : (spare next objects one two young_next young many grown three_next three more four last_next last : ℕ)
    → two ≡ max spare (2 * one) → one ≤ objects → young_next + young ≡ next + two → next ≤ young_next
    → grown ≡ max young many → many ≤ objects + (young_next - next) → three_next + three ≡ young_next + grown → young_next ≤ three_next
    → four ≡ max three (more + 196) → more ≤ objects + (three_next - next) → last_next + last ≡ three_next + four → three_next ≤ last_next
    → last ≤ max spare (2 * (objects + (last_next - next)) + 196)
most_left spare next objects one two young_next young many grown three_next three more four last_next last first few made later second some born then third all left end =
    omega (arith, first, few, made, later, second, some, born, then, third, all, left, end)

module _ (moves : List Intent) (grounds : List Ground) (start one two young grown born three four last : Table) (has : HasMoved moves grounds start one two)
    (rule : (sums : Sums) → AreSumsOf sums two → table_part grounds young ≡ room_after_steps sums first_steps (table_part grounds two)) (tiles : AllByRecursion IsOnTile young.objects) (for_hatch : HasMemory (length young.objects) young grown)
    (keeps : KeepsUpTo (may_leave two.objects) two young) (young_rise : IsRising young.objects) (hatch : KeepsUpTo (may_hatch grown.objects) grown born) (aged : KeepsUpTo 0 born three)
    (three_rule : (sums : Sums) → AreSumsOf sums two → table_part grounds three ≡ room_after_steps sums early_steps (table_part grounds two)) (index : three.index ≡ two.index) (three_tiles : AllByRecursion IsOnTile three.objects) (three_rise : IsRising three.objects)
    (memory : HasMemory (length three.objects + most_arrivals) three four) (kept : KeepsUpTo (may_fall four.objects) four last) where
  pub never_less : start.next ≤ last.next
  never_less =
      let two_next : two.next ≡ one.next = ap (λ (t : Table). t.next) has.memory.same in
      let grown_next : grown.next ≡ young.next = ap (λ (t : Table). t.next) for_hatch.same in
      let four_next : four.next ≡ three.next = ap (λ (t : Table). t.next) memory.same in
      omega (arith, has.next, two_next, keeps.later, grown_next, hatch.later, aged.later, four_next, kept.later)

  pub most_spare : last.spare ≤ max start.spare (2 * (length start.objects + (last.next - start.next)) + most_arrivals)
  most_spare =
      let two_spare : two.spare ≡ max one.spare (2 * length one.objects) = ap (λ (t : Table). t.spare) has.memory.same in
      let two_next : two.next ≡ one.next = ap (λ (t : Table). t.next) has.memory.same in
      let grown_spare : grown.spare ≡ max young.spare (length young.objects) = ap (λ (t : Table). t.spare) for_hatch.same in
      let grown_next : grown.next ≡ young.next = ap (λ (t : Table). t.next) for_hatch.same in
      let four_spare : four.spare ≡ max three.spare (length three.objects + most_arrivals) = ap (λ (t : Table). t.spare) memory.same in
      let four_next : four.next ≡ three.next = ap (λ (t : Table). t.next) memory.same in
      let one_few = no_more grounds start one (follows_one moves grounds start one two has) has.rising in
      let young_few = no_more grounds start young (follows_young moves grounds start one two has young grown rule tiles for_hatch) young_rise in
      let three_few = no_more grounds start three (follows_three moves grounds start one two has three four three_rule index three_tiles memory) three_rise in
      most_left start.spare start.next (length start.objects) (length one.objects) two.spare young.next young.spare (length young.objects) grown.spare three.next three.spare (length three.objects) four.spare last.next last.spare
      (omega (arith, two_spare, has.spare)) (omega (arith, one_few, has.next)) (omega (arith, keeps.used, two_next, has.next)) (omega (arith, keeps.later, two_next, has.next))
      grown_spare young_few (omega (arith, hatch.used, aged.used, grown_next)) (omega (arith, hatch.later, aged.later, grown_next))
      four_spare three_few (omega (arith, kept.used, four_next)) (omega (arith, kept.later, four_next))

-- the whole
pub ticked_table : (moves : List Intent) (grounds : List Ground) (start last one two three four : Table) → HasMoved moves grounds start one two
    → ((sums : Sums) → AreSumsOf sums two → table_part grounds three ≡ room_after_steps sums early_steps (table_part grounds two)) → three.index ≡ two.index → AllByRecursion IsOnTile three.objects → HasMemory (length three.objects + most_arrivals) three four
    → ((grounds : List Ground) (sums : Sums) → table_part grounds last ≡ room_after_steps sums last_steps (table_part grounds four)) → KeepsUpTo (may_fall four.objects) four last → IsRising last.objects
    → start.next ≤ last.next → last.spare ≤ max start.spare (2 * (length start.objects + (last.next - start.next)) + most_arrivals)
    → IsTickedTable moves grounds start (record last { tallies = no_tallies })
ticked_table moves grounds start last one two three four has rule index tiles memory ends kept rise later most = record {
  index = kept.index ∙ ap (λ (t : Table). t.index) memory.same ∙ index_three moves grounds start one two has three four rule index tiles memory;
  part = λ sums are.
      ends grounds sums
      ∙ ap (room_after_steps sums last_steps) (part_four moves grounds start one two has three four rule index tiles memory ∙ part_three moves grounds start one two has three four rule index tiles memory sums are);
  rising = rise;
  tiles = kept.tiles;
  sums = refl;
  later = later;
  spare = spare_four moves grounds start one two has three four rule index tiles memory last kept;
  most = most;
}
