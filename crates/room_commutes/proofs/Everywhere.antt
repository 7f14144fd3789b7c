-- What a change in every room, and what steps one after the other, make of what is seen at one room.
use Rattle.std.proofs.Common.{◌≡◌, ℕ, ◌==◌, Bool, true, false, cond, List, [], ◌∷◌, map, Option, Some, None, refl, sym, ap, subst, ◌∙◌}
use Rattle.std.specs.List.{AllByRecursion, filter}
use Rattle.std.specs.Ordering.{nat_cmp, eq_by_cmp}
use Rattle.std.specs.Cmp.{unsigned_tied}
use Rattle.std.specs.FinMap.{FinMap, find, get, keys, entries, entries_sorted, get-entries}
use Rattle.std.proofs.lemmas.Bool.{eq-eqb, eqb-true, eqb-false, ne_eqb}
use Rattle.world_rules.specs.World.{Frame, World}
use Rattle.world_rules.specs.RoomParts.{RoomPart, in_room, in_rooms, in_every_room}
use Rattle.world_rules.specs.RuleBook.{Sums, Step, StaysInRoom}
use Rattle.world_rules.specs.Tick.{after_steps}
use Rattle.world_rules.specs.Seen.{Seen, seen}
use Rattle.world_rules.proofs.Keys.{AreKeysOnce, once_of_sorted}
use Rattle.world_rules.proofs.Parts.{changed, changed_as, seen_changed}
use Rattle.room_commutes.proofs.InTick.{IsInTick, in_tick_room, others}

-- ---- a key among the keys of a map

abbrev pub once : {X : Type 0} → ℕ → Option X → List ℕ
once k None = []
once k (Some x) = k ∷ []

once_in : {X : Type 0} (k : ℕ) (es : List (ℕ × X)) → AreKeysOnce es → filter (λ j. j == k) (map (λ (e : ℕ × X). e.0) es) ≡ once k (find nat_cmp k es)
once_in k [] alone = refl
once_in {X} k (e ∷ es) alone =
    let rest = once_in k es alone.1 in
    elim (e.0 == k) as (λ b. (e.0 == k) ≡ b → cond b (e.0 ∷ filter (λ j. j == k) (map (λ (f : ℕ × X). f.0) es)) (filter (λ j. j == k) (map (λ (f : ℕ × X). f.0) es)) ≡ once k (cond (eq_by_cmp nat_cmp k e.0) (Some e.1) (find nat_cmp k es))) [
      | true ↦ λ at.
          let same : e.0 ≡ k = eqb-true e.0 k at in
          let none : find nat_cmp k es ≡ None = subst (λ (n : ℕ). find nat_cmp n es ≡ None) same alone.0 in
          let tied : eq_by_cmp nat_cmp k e.0 ≡ true = unsigned_tied k e.0 ∙ eq-eqb k e.0 (sym same) in
          (λ i. same i ∷ (rest ∙ ap (once k) none) i) ∙ sym (ap (λ (b : Bool). once k (cond b (Some e.1) (find nat_cmp k es))) tied)
      | false ↦ λ at.
          let apart : eq_by_cmp nat_cmp k e.0 ≡ false = unsigned_tied k e.0 ∙ ne_eqb k e.0 (λ same. eqb-false e.0 k at (sym same)) in
          rest ∙ sym (ap (λ (b : Bool). once k (cond b (Some e.1) (find nat_cmp k es))) apart)
    ] refl

pub keys_once : {X : Type 0} (m : FinMap nat_cmp X) (k : ℕ) → filter (λ j. j == k) (keys m) ≡ once k (get m k)
keys_once {X} m k = once_in k (entries m) (once_of_sorted (entries m) (entries_sorted m)) ∙ ap (once k) (sym (get-entries m k))

-- ---- a change in every room

abbrev changed_by : (RoomPart → RoomPart) → ℕ → List ℕ → Seen → Seen
changed_by change k [] s = s
changed_by change k (j ∷ js) s = changed_by change k js (changed change k s)

module _ (before : World) (change : ℕ → RoomPart → RoomPart) (own : (room : ℕ) → StaysInRoom (change room)) where
  in_tick_rooms : (rooms : List ℕ) (now : World) → IsInTick before now → IsInTick before (in_rooms change rooms now)
  in_tick_rooms [] now in_tick = in_tick
  in_tick_rooms (room ∷ later) now in_tick = in_tick_rooms later (in_room (change room) room now) (in_tick_room before now in_tick (change room) (own room) room)

  pub in_tick_every : (now : World) → IsInTick before now → IsInTick before (in_every_room change now)
  in_tick_every now in_tick = in_tick_rooms (keys now.rooms) now in_tick

  rooms_here : (k : ℕ) (rooms : List ℕ) (now : World) → IsInTick before now → seen (in_rooms change rooms now) k ≡ changed_by (change k) k (filter (λ j. j == k) rooms) (seen now k)
  rooms_here k [] now in_tick = refl
  rooms_here k (room ∷ later) now in_tick =
      let next : World = in_room (change room) room now in
      let rest = rooms_here k later next (in_tick_room before now in_tick (change room) (own room) room) in
      elim (room == k) as (λ b. (room == k) ≡ b → seen (in_rooms change later next) k ≡ changed_by (change k) k (cond b (room ∷ filter (λ j. j == k) later) (filter (λ j. j == k) later)) (seen now k)) [
        | true ↦ λ at.
            let here : seen next k ≡ changed (change k) k (seen now k) = subst (λ (n : ℕ). seen (in_room (change n) n now) k ≡ changed (change k) k (seen now k)) (sym (eqb-true room k at)) (seen_changed (change k) k now) in
            rest ∙ ap (changed_by (change k) k (filter (λ j. j == k) later)) here
        | false ↦ λ at. rest ∙ ap (changed_by (change k) k (filter (λ j. j == k) later)) (others before now in_tick (change room) (own room) room k (λ same. eqb-false room k at (sym same)))
      ] refl

  once_here : (k : ℕ) (now : World) (found : Option Frame) → get now.rooms k ≡ found → changed_by (change k) k (once k found) (seen now k) ≡ changed (change k) k (seen now k)
  once_here k now None is = sym (ap (changed_as (change k) k (seen now k)) is)
  once_here k now (Some frame) is = refl

  -- a change in every room, seen at one
  pub every_here : (k : ℕ) (now : World) → IsInTick before now → seen (in_every_room change now) k ≡ changed (change k) k (seen now k)
  every_here k now in_tick =
      rooms_here k (keys now.rooms) now in_tick ∙ ap (λ (ks : List ℕ). changed_by (change k) k ks (seen now k)) (keys_once now.rooms k) ∙ once_here k now (get now.rooms k) refl

-- two worlds that are seen alike at a room, after changes in every room that are alike there
pub every_alike : (k : ℕ) (start other : World) (change mate : ℕ → RoomPart → RoomPart) → ((room : ℕ) → StaysInRoom (change room)) → ((room : ℕ) → StaysInRoom (mate room)) → change k ≡ mate k
    → (one two : World) → IsInTick start one → IsInTick other two → seen one k ≡ seen two k → seen (in_every_room change one) k ≡ seen (in_every_room mate two) k
every_alike k start other change mate own its same one two in_one in_two alike =
    every_here start change own k one in_one ∙ (λ i. changed (same i) k (alike i)) ∙ sym (every_here other mate its k two in_two)

-- ---- steps

pub in_tick_steps : (before : World) (sums : ℕ → Sums) (steps : List Step) → AllByRecursion (λ step. (given : Sums) → StaysInRoom (step given)) steps → (now : World) → IsInTick before now → IsInTick before (after_steps sums steps now)
in_tick_steps before sums [] own now in_tick = in_tick
in_tick_steps before sums (step ∷ later) own now in_tick =
    in_tick_steps before sums later own.1 (in_every_room (λ room. step (sums room)) now) (in_tick_every before (λ room. step (sums room)) (λ room. own.0 (sums room)) now in_tick)

pub steps_alike : (k : ℕ) (start other : World) (sums mate : ℕ → Sums) → sums k ≡ mate k → (steps : List Step) → AllByRecursion (λ step. (given : Sums) → StaysInRoom (step given)) steps
    → (one two : World) → IsInTick start one → IsInTick other two → seen one k ≡ seen two k → seen (after_steps sums steps one) k ≡ seen (after_steps mate steps two) k
steps_alike k start other sums mate same [] own one two in_one in_two alike = alike
steps_alike k start other sums mate same (step ∷ later) own one two in_one in_two alike =
    steps_alike k start other sums mate same later own.1 (in_every_room (λ room. step (sums room)) one) (in_every_room (λ room. step (mate room)) two)
    (in_tick_every start (λ room. step (sums room)) (λ room. own.0 (sums room)) one in_one)
    (in_tick_every other (λ room. step (mate room)) (λ room. own.0 (mate room)) two in_two)
    (every_alike k start other (λ room. step (sums room)) (λ room. step (mate room)) (λ room. own.0 (sums room)) (λ room. own.0 (mate room)) (ap step same) one two in_one in_two alike)
