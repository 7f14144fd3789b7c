-- How many sites the entries of a tick add, player by player.
use Rattle.std.proofs.Common.{◌≡◌, ℕ, ◌+◌, ◌==◌, ◌&&◌, ◌≤◌, Bool, true, false, cond, List, [], ◌∷◌, ◌++◌, length, Option, Some, None, inl, inr, refl, sym, ap, subst, ◌∙◌, arith, length-append, append_assoc, eq-eqb}
use Rattle.std.specs.Prelude.{if◌then◌else◌, not}
use Rattle.std.specs.List.{count_by, filter, list_any}
use Rattle.std.specs.FinMap.{get}
use Rattle.std.proofs.lemmas.List.Sums.{sum_by-cons}
use Rattle.std.proofs.lemmas.List.Sorted.{sum_by-IsPermutation}
use Rattle.std.specs.List.{filter_map}
use Rattle.game_tables.specs.Actions.{action_number}
use Rattle.game_tables.specs.declared.action.Action.{Action}
use Rattle.game_tables.specs.declared.action.Action.TheVariants.{CreateSite, DropLoad, Transfer, Withdraw, Pickup, Heal, RangedHeal, Dismantle, Attack, Harvest, Repair, Build, RangedMassAttack, RangedAttack, Suicide, ClaimController, Upgrade, Reserve, AttackController, RemoveSite, SpawnCreep, Move}
use Rattle.intent_book.specs.declared.intent.Intent.{Intent}
use Rattle.world_rules.specs.Intents.{all_actions, entries_of, fits, kept, last_of_each, names_tile, overrules, room_of, same_entry, those_in}
use Rattle.world_rules.specs.RoomParts.{RoomPart, in_every_room, in_frame, in_room, part_of}
use Rattle.world_rules.specs.Changes.{next_id}
use Rattle.world_rules.specs.Sites.{site_made}
use Rattle.world_rules.specs.Tick.{Course, acted, harm_of, after_actions, after_kind, after_rule, after_rules, after_steps, begun, book, movement, ruled, rule_of, sums_in}
use Rattle.world_rules.specs.Upkeep.{steps}
use Rattle.world_rules.specs.Crossings.{crossed}
use Rattle.world_rules.specs.World.{Frame, World}
use Rattle.room_commutes.proofs.Members.{Has, has_contained}
use Rattle.room_commutes.proofs.ActorsOnce.{entry_of}
use Rattle.room_commutes.proofs.Ordered.{in_order-same}
use Rattle.site_limit.specs.FewSites.{wants_site}
use Rattle.site_limit.proofs.Rooms.{fit_rule}
use Rattle.site_limit.proofs.Steps.{fit_made, fit_moved, fit_steps}
use Rattle.site_limit.proofs.Worlds.{AllFitIn, crossed_fits, every_fits, frame_fits, part_fits, room_fits, steps_fit}

pub tile_action : (action : Action) → names_tile action ≡ true → action ≡ CreateSite
tile_action CreateSite is = refl
tile_action action is = absurd (cc)

tile_number : (action : Action) → names_tile action ≡ (action_number action == action_number CreateSite)
tile_number CreateSite = refl
tile_number action = refl

module _ (player : ℕ) where
  abbrev Wants : Intent → Bool
  Wants = wants_site player

  more_fits : (id : ℕ) (places : List ℕ) (world : World) → AllFitIn player places world → AllFitIn player (id ∷ places) world
  more_fits id places world fit at placed is = let one = fit at placed is in (one.0, λ site. inr (one.1 site))

  -- The sites stand under these ids, and so many more.
  pub record Within (places : List ℕ) (most : ℕ) (world : World) : Type 0 where
    pub more : List ℕ
    pub few : length more ≤ most
    pub fit : AllFitIn player (more ++ places) world

  none_more : (places : List ℕ) (world : World) → AllFitIn player places world → Within places 0 world
  none_more places world fit = record { more = []; few = omega arith; fit = fit }

  -- ---- one entry

  module _ (places : List ℕ) (entry : Intent) (world : World) (fit : AllFitIn player places world) where
    abbrev Rule : RoomPart → RoomPart
    Rule part = (rule_of entry.action entry part).part

    other_rule : names_tile entry.action ≡ false → (most room : ℕ) → Within places most (in_room Rule room world)
    other_rule other most room = record { more = []; few = omega arith; fit = room_fits player places Rule (fit_rule player places entry.action entry other) room world fit }

    -- a site of another player
    made_by_other : (entry.player ≡ player → ⊥) → (most room : ℕ) → Within places most (in_room (site_made entry) room world)
    made_by_other other most room = record {
      more = [];
      few = omega arith;
      fit = room_fits player places (site_made entry) (λ part now. fit_made player places entry part (λ own. absurd (other own)) now) room world fit;
    }

    -- a site of the player's, in a room that is there
    made_in : (room : ℕ) (found : Option Frame) → Within places 1 (in_frame (site_made entry) room world found)
    made_in room None = record { more = []; few = omega arith; fit = fit }
    made_in room (Some frame) =
        let part : RoomPart = part_of world room frame in
        let id : ℕ = next_id part in
        let wider = more_fits id places world fit in
        record {
          more = id ∷ [];
          few = omega arith;
          fit = frame_fits player (id ∷ places) (site_made entry) room world frame (fit_made player (id ∷ places) entry part (λ own. inl refl) (part_fits player (id ∷ places) world room frame wider)) wider;
        }

    made : (room : ℕ) → Within places (cond (entry.player == player) 1 0) (in_room (site_made entry) room world)
    made room = elim (entry.player == player) as (λ b. (entry.player == player) ≡ b → Within places (cond b 1 0) (in_room (site_made entry) room world)) [
      | true ↦ λ own. made_in room (get world.rooms room)
      | false ↦ λ other. made_by_other (λ own. (let is = eq-eqb entry.player player own in cc)) 0 room
    ] refl

    rule_within : (room : ℕ) → Within places (cond (Wants entry) 1 0) (in_room Rule room world)
    rule_within room = elim (names_tile entry.action) as (λ b. names_tile entry.action ≡ b → Within places (cond (b && (entry.player == player)) 1 0) (in_room Rule room world)) [
      | true ↦ λ tile. subst (λ (a : Action). Within places (cond (entry.player == player) 1 0) (in_room (λ part. (rule_of a entry part).part) room world)) (sym (tile_action entry.action tile)) (made room)
      | false ↦ λ other. other_rule other 0 room
    ] refl

  entry_within : (places : List ℕ) (entry : Intent) (before : World) (course : Course) (room : Option ℕ) → AllFitIn player places course.world → Within places (cond (Wants entry) 1 0) (after_rule book before course entry room).world
  entry_within places entry before course None fit = record { more = []; few = omega arith; fit = fit }
  entry_within places entry before course (Some room) fit = rule_within places entry course.world fit room

  -- ---- all entries

  joined : (places first second : List ℕ) (world : World) → AllFitIn player (second ++ (first ++ places)) world → AllFitIn player ((second ++ first) ++ places) world
  joined places first second world fit = subst (λ (l : List ℕ). AllFitIn player l world) (sym (append_assoc second first places)) fit

  rules_within : (places : List ℕ) (list : List Intent) (before : World) (course : Course) → AllFitIn player places course.world → Within places (count_by Wants list) (after_rules book before list course).world
  rules_within places [] before course fit = none_more places course.world fit
  rules_within places (entry ∷ later) before course fit =
      let room : Option ℕ = room_of before entry in
      let one = entry_within places entry before course room fit in
      let rest = rules_within (one.more ++ places) later before (after_rule book before course entry room) one.fit in
      record {
        more = rest.more ++ one.more;
        few = (let few = one.few in let less = rest.few in let sum = length-append rest.more one.more in let step = sum_by-cons (λ (e : Intent). cond (Wants e) 1 0) entry later in omega (arith, few, less, sum, step));
        fit = joined places one.more rest.more (after_rules book before later (after_rule book before course entry room)).world rest.fit;
      }

  -- the entries of these actions, one action after the other
  abbrev by_actions : List Action → List Intent → ℕ
  by_actions [] list = 0
  by_actions (action ∷ later) list = count_by Wants (entries_of action list) + by_actions later list

  actions_within : (places : List ℕ) (actions : List Action) (list : List Intent) (before : World) (course : Course) → AllFitIn player places course.world → Within places (by_actions actions list) (after_actions book before actions list course).world
  actions_within places [] list before course fit = none_more places course.world fit
  actions_within places (action ∷ later) list before course fit =
      let now : Course = after_kind book before (entries_of action list) course in
      let one = rules_within places (entries_of action list) before (record course { harms = course.harms ++ filter_map (harm_of book before course.world) (entries_of action list) }) fit in
      let rest = actions_within (one.more ++ places) later list before now one.fit in
      record {
        more = rest.more ++ one.more;
        few = (let few = one.few in let less = rest.few in let sum = length-append rest.more one.more in omega (arith, few, less, sum));
        fit = joined places one.more rest.more (after_actions book before later list now).world rest.fit;
      }

  -- ---- which of them are for sites

  none_of : (list : List Intent) → ((entry : Intent) → Has list entry → names_tile entry.action ≡ false) → count_by Wants list ≡ 0
  none_of [] others = refl
  none_of (entry ∷ later) others =
      sum_by-cons (λ (e : Intent). cond (Wants e) 1 0) entry later
      ∙ (λ i. cond (others entry (inl refl) i && (entry.player == player)) 1 0 + none_of later (λ e has. others e (inr has)) i)

  numbered : (one other : Action) → action_number one ≡ action_number other → names_tile other ≡ false → names_tile one ≡ false
  numbered one other same is = tile_number one ∙ ap (λ (n : ℕ). n == action_number CreateSite) same ∙ sym (tile_number other) ∙ is

  others_want_none : (action : Action) (list : List Intent) → names_tile action ≡ false → count_by Wants (entries_of action list) ≡ 0
  others_want_none action list other = none_of (entries_of action list) (λ entry has.
      numbered entry.action action (entry_of action list entry (has_contained (entries_of action list) entry has)).1 other)

  count_filter : (test : Intent → Bool) (list : List Intent) → count_by Wants (filter test list) ≤ count_by Wants list
  count_filter test [] = omega arith
  count_filter test (entry ∷ later) =
      let rest = count_filter test later in
      let step = sum_by-cons (λ (e : Intent). cond (Wants e) 1 0) entry later in
      let front = sum_by-cons (λ (e : Intent). cond (Wants e) 1 0) entry (filter test later) in
      elim (test entry) as (λ b. count_by Wants (cond b (entry ∷ filter test later) (filter test later)) ≤ count_by Wants (entry ∷ later)) [
        | true ↦ omega (arith, rest, step, front)
        | false ↦ omega (arith, rest, step)
      ]

  wanted_at_most : (action : Action) (list : List Intent) → count_by Wants (entries_of action list) ≤ count_by Wants list
  wanted_at_most action list =
      let those : List Intent = filter (λ entry. action_number entry.action == action_number action) list in
      let same : count_by Wants those ≡ count_by Wants (entries_of action list) = sym (sum_by-IsPermutation (λ (e : Intent). cond (Wants e) 1 0) those (entries_of action list) (in_order-same those)) in
      let few = count_filter (λ entry. action_number entry.action == action_number action) list in
      omega (arith, same, few)

  by_all_actions : (list : List Intent) → by_actions all_actions list ≤ count_by Wants list
  by_all_actions list =
      let few = wanted_at_most CreateSite list in
      let none : (action : Action) → names_tile action ≡ false → count_by Wants (entries_of action list) ≡ 0 = λ action. others_want_none action list in
      let n0 = none DropLoad refl in
      let n1 = none Transfer refl in
      let n2 = none Withdraw refl in
      let n3 = none Pickup refl in
      let n4 = none Heal refl in
      let n5 = none RangedHeal refl in
      let n6 = none Dismantle refl in
      let n7 = none Attack refl in
      let n8 = none Harvest refl in
      let n9 = none Repair refl in
      let n10 = none Build refl in
      let n11 = none RangedMassAttack refl in
      let n12 = none RangedAttack refl in
      let n13 = none Suicide refl in
      let n14 = none ClaimController refl in
      let n15 = none Upgrade refl in
      let n16 = none Reserve refl in
      let n17 = none AttackController refl in
      let n18 = none RemoveSite refl in
      let n19 = none SpawnCreep refl in
      let n20 = none Move refl in
      omega (arith, few, n0, n1, n2, n3, n4, n5, n6, n7, n8, n9, n10, n11, n12, n13, n14, n15, n16, n17, n18, n19, n20)

  -- ---- which entries count

  count_last : (list : List Intent) → count_by Wants (last_of_each list) ≤ count_by Wants list
  count_last [] = omega arith
  count_last (entry ∷ later) =
      let rest = count_last later in
      let step = sum_by-cons (λ (e : Intent). cond (Wants e) 1 0) entry later in
      let front = sum_by-cons (λ (e : Intent). cond (Wants e) 1 0) entry (last_of_each later) in
      elim (list_any (same_entry entry) later) as (λ b. count_by Wants (if b then last_of_each later else entry ∷ last_of_each later) ≤ count_by Wants (entry ∷ later)) [
        | true ↦ omega (arith, rest, step)
        | false ↦ omega (arith, rest, step, front)
      ]

  kept_at_most : (world : World) (list : List Intent) → count_by Wants (kept world list) ≤ count_by Wants list
  kept_at_most world list =
      let fitting : List Intent = filter (fits world) list in
      let standing : List Intent = last_of_each fitting in
      let one = count_filter (λ entry. not (list_any (λ one. overrules one entry) standing)) standing in
      let other = count_last fitting in
      let first = count_filter (fits world) list in
      omega (arith, one, other, first)

  -- ---- the tick

  -- After a tick the sites of the player stand under the ids before it, and under as many more as he has entries for new sites.
  pub ruled_within : (places : List ℕ) (world : World) (list : List Intent) → AllFitIn player places world → Within places (count_by Wants list) (ruled book crossed world list)
  ruled_within places world list fit =
      let after : Course = acted book world list in
      let moved : World = in_every_room (movement book world list) after.world in
      let rested : World = after_steps (sums_in after) steps moved in
      let entered = actions_within places all_actions (kept world list) world (begun world) fit in
      let few = by_all_actions (kept world list) in
      let less = kept_at_most world list in
      let least = entered.few in
      let all = entered.more ++ places in
      record {
        more = entered.more;
        few = omega (arith, few, less, least);
        fit = crossed_fits player all rested (steps_fit player all (sums_in after) steps (fit_steps player all) moved
            (every_fits player all (movement book world list) (λ room. fit_moved player all (those_in world room (entries_of Move (kept world list)))) after.world entered.fit));
      }
