-- What happens inside a room is told by its part and its entries that count.
use Rattle.std.proofs.Common.{◌≡◌, ℕ, ◌==◌, Bool, true, false, cond, List, [], ◌∷◌, ◌++◌, map, Option, Some, None, option_map, option_and_then, refl, sym, ap, subst, ◌∙◌, append-nil}
use Rattle.std.specs.List.{AllByRecursion, cons_option, filter_map}
use Rattle.std.specs.Option.{option_to_list}
use Rattle.std.specs.FinMap.{get}
use Rattle.std.proofs.lemmas.Bool.{eq-eqb, eqb-true, eqb-false}
use Rattle.std.proofs.lemmas.List.Elements.{filter-append}
use Rattle.game_tables.specs.declared.action.Action.{Action}
use Rattle.game_tables.specs.declared.action.Action.TheVariants.{Move}
use Rattle.intent_book.specs.declared.intent.Intent.{Intent}
use Rattle.world_rules.specs.World.{Frame, World}
use Rattle.world_rules.specs.RoomParts.{RoomPart, part_of, part_at, in_every_room}
use Rattle.world_rules.specs.RuleBook.{Harm, Sums, Step, RuleBook, StaysInRoom, IsOrderly}
use Rattle.world_rules.specs.Intents.{all_actions, room_of, is_at, those_in, kept, entries_of}
use Rattle.world_rules.specs.Tick.{Gain, Course, begun, harm_of, gain_in, after_rule, after_rules, after_kind, after_actions, acted, movement, inner, after_steps, sums_in, sums_of, harms_in, gains_in}
use Rattle.world_rules.specs.RoomTick.{RoomCourse, room_begun, room_after_rule, room_after_rules, room_after_kind, room_after_actions, room_after_steps, room_inner, room_tick}
use Rattle.room_commutes.specs.Serials.{AreSerialsUsed}
use Rattle.world_rules.specs.Seen.{Seen, seen}
use Rattle.world_rules.proofs.Parts.{seen_part, changed, changed_as, seen_changed}
use Rattle.room_commutes.proofs.InTick.{IsInTick, at_start, in_tick_room, others}
use Rattle.room_commutes.proofs.Everywhere.{every_here, in_tick_every}
use Rattle.room_commutes.proofs.Courses.{in_tick_rules}
use Rattle.room_commutes.proofs.Split.{those_of, kept_here}
use Rattle.room_commutes.proofs.Inner.{in_acted, in_moved}

map_append : {A B : Type 0} (f : A → B) (one two : List A) → map f (one ++ two) ≡ map f one ++ map f two
map_append f [] two = refl
map_append f (x ∷ one) two = ap (λ rest. f x ∷ rest) (map_append f one two)

-- ---- a change of a part that is seen

module _ (change : RoomPart → RoomPart) (stays : StaysInRoom change) (k : ℕ) where
  changed_part_as : (s : Seen) (part : RoomPart) (found : Option Frame) → option_map (λ (frame : Frame). record { rules = s.rules; index = k; grounds = frame.grounds; next = frame.next; objects = s.objects }) found ≡ Some part
      → seen_part k (changed_as change k s found) ≡ Some (change part)
  changed_part_as s part None is = absurd (cc)
  changed_part_as s part (Some frame) is =
      let from : RoomPart = record { rules = s.rules; index = k; grounds = frame.grounds; next = frame.next; objects = s.objects } in
      let same : from ≡ part = cc in
      (λ i. Some (record { rules = sym (stays from).rules i; index = sym (stays from).index i; grounds = sym (stays from).grounds i; next = (change from).next; objects = (change from).objects }))
      ∙ ap (λ p. Some (change p)) same

  pub changed_part : (s : Seen) (part : RoomPart) → seen_part k s ≡ Some part → seen_part k (changed change k s) ≡ Some (change part)
  changed_part s part is = changed_part_as s part s.frame is

-- ---- the entries

module _ (book : RuleBook) (orderly : IsOrderly book) (before : World) (k : ℕ) where
  abbrev player_points : Gain → ℕ × ℕ
  player_points gain = (gain.player, gain.points)

  -- The course at a room is that of the room by itself.
  pub record IsAtRoom (course : Course) (room : RoomCourse) : Type 0 where
    pub part : part_at course.world k ≡ Some room.part
    pub harms : map (λ (harm : ℕ × Harm). harm.1) (harms_in k course.harms) ≡ room.harms
    pub gains : map (λ (gain : Gain). (gain.player, gain.points)) (gains_in k course.gains) ≡ room.points

  abbrev gain_list : Intent → ℕ → Option RoomPart → List Gain
  gain_list entry room part = option_to_list (option_map (λ (p : RoomPart). record { room = room; player = entry.player; points = (book.effect entry p).points }) part)

  gains_apart : (entry : Intent) (room : ℕ) (part : Option RoomPart) → (room == k) ≡ false → gains_in k (option_to_list (option_map (λ (p : RoomPart). record { room = room; player = entry.player; points = (book.effect entry p).points }) part)) ≡ []
  gains_apart entry room None apart = refl
  gains_apart entry room (Some p) apart = ap (λ (t : Bool). cond {A = List Gain} t (record { room = room; player = entry.player; points = (book.effect entry p).points } ∷ []) []) apart

  gains_here : (entry : Intent) (part : RoomPart) → gains_in k (record { room = k; player = entry.player; points = (book.effect entry part).points } ∷ []) ≡ record { room = k; player = entry.player; points = (book.effect entry part).points } ∷ []
  gains_here entry part = ap (λ (t : Bool). cond {A = List Gain} t (record { room = k; player = entry.player; points = (book.effect entry part).points } ∷ []) []) (eq-eqb k k refl)

  rule_there : (entry : Intent) (room : ℕ) (course : Course) (mine : RoomCourse) → (room == k) ≡ false → IsInTick before course.world → IsAtRoom course mine → IsAtRoom (after_rule book before course entry (Some room)) mine
  rule_there entry room course mine apart in_tick at = record {
    part = ap (seen_part k) (others before course.world in_tick (λ part. (book.effect entry part).part) (orderly.effect entry) room k (λ same. eqb-false room k apart (sym same))) ∙ at.part;
    harms = at.harms;
    gains =
        ap (map (λ (gain : Gain). (gain.player, gain.points))) (
        filter-append (λ (g : Gain). g.room == k) course.gains (gain_in book before course.world entry room)
        ∙ ap (λ gs. gains_in k course.gains ++ gs) (gains_apart entry room (part_at course.world room) apart)
        ∙ append-nil (gains_in k course.gains))
        ∙ at.gains;
  }

  rule_here : (entry : Intent) (course : Course) (mine : RoomCourse) → IsAtRoom course mine → IsAtRoom (after_rule book before course entry (Some k)) (room_after_rule book mine entry)
  rule_here entry course mine at =
      let change : RoomPart → RoomPart = λ part. (book.effect entry part).part in
      let tell : Gain → ℕ × ℕ = λ gain. (gain.player, gain.points) in
      record {
        part = ap (seen_part k) (seen_changed change k course.world) ∙ changed_part change (orderly.effect entry) k (seen course.world k) mine.part at.part;
        harms = at.harms;
        gains =
            ap (map tell) (filter-append (λ (g : Gain). g.room == k) course.gains (gain_in book before course.world entry k))
            ∙ map_append tell (gains_in k course.gains) (gains_in k (gain_in book before course.world entry k))
            ∙ (λ i. at.gains i ++ map tell (gains_in k (option_to_list (option_map (λ (p : RoomPart). record { room = k; player = entry.player; points = (book.effect entry p).points }) (at.part i)))))
            ∙ ap (λ gs. mine.points ++ map tell gs) (gains_here entry mine.part);
      }

  rules_here : (list : List Intent) (course : Course) (mine : RoomCourse) → IsInTick before course.world → IsAtRoom course mine → IsAtRoom (after_rules book before list course) (room_after_rules book (those_in before k list) mine)
  rules_here [] course mine in_tick at = at
  rules_here (entry ∷ later) course mine in_tick at =
      elim (room_of before entry) as (λ r. IsAtRoom (after_rules book before later (after_rule book before course entry r)) (room_after_rules book (cond (is_at k r) (entry ∷ those_in before k later) (those_in before k later)) mine)) [
        | None ↦ rules_here later course mine in_tick at
        | Some room ↦
            let next : Course = after_rule book before course entry (Some room) in
            let in_next : IsInTick before next.world = in_tick_room before course.world in_tick (λ part. (book.effect entry part).part) (orderly.effect entry) room in
            elim (room == k) as (λ b. (room == k) ≡ b → IsAtRoom (after_rules book before later next) (room_after_rules book (cond b (entry ∷ those_in before k later) (those_in before k later)) mine)) [
              | true ↦ λ is. rules_here later next (room_after_rule book mine entry) in_next (subst (λ (n : ℕ). IsAtRoom (after_rule book before course entry (Some n)) (room_after_rule book mine entry)) (sym (eqb-true room k is)) (rule_here entry course mine at))
              | false ↦ λ is. rules_here later next mine in_next (rule_there entry room course mine is in_tick at)
            ] refl
      ]

  harms_here : (list : List Intent) (world : World) (part : RoomPart) → part_at world k ≡ Some part → map (λ (harm : ℕ × Harm). harm.1) (harms_in k (filter_map (harm_of book before world) list)) ≡ map (λ entry. book.harm entry part) (those_in before k list)
  harms_here [] world part is = refl
  harms_here (entry ∷ later) world part is =
      let rest = harms_here later world part is in
      let more : List (ℕ × Harm) = filter_map (harm_of book before world) later in
      let harm : ℕ → Option RoomPart → Option (ℕ × Harm) = λ room found. option_map (λ p. (room, book.harm entry p)) found in
      let tell : ℕ × Harm → Harm = λ harm. harm.1 in
      elim (room_of before entry) as (λ r. map tell (harms_in k (cons_option (option_and_then (λ room. harm room (part_at world room)) r) more)) ≡ map (λ e. book.harm e part) (cond (is_at k r) (entry ∷ those_in before k later) (those_in before k later))) [
        | None ↦ rest
        | Some room ↦ elim (room == k) as (λ b. (room == k) ≡ b → map tell (harms_in k (cons_option (harm room (part_at world room)) more)) ≡ map (λ e. book.harm e part) (cond b (entry ∷ those_in before k later) (those_in before k later))) [
          | true ↦ λ at.
              let same : room ≡ k = eqb-true room k at in
              ap (λ h. map tell (harms_in k (cons_option h more))) (ap (λ n. harm n (part_at world n)) same ∙ ap (harm k) is)
              ∙ ap (λ (b : Bool). map tell (cond b ((k, book.harm entry part) ∷ harms_in k more) (harms_in k more))) (eq-eqb k k refl)
              ∙ ap (λ hs. book.harm entry part ∷ hs) rest
          | false ↦ λ at. elim (part_at world room) as (λ found. map tell (harms_in k (cons_option (harm room found) more)) ≡ map (λ e. book.harm e part) (those_in before k later)) [
            | None ↦ rest
            | Some p ↦ ap (λ (b : Bool). map tell (cond b ((room, book.harm entry p) ∷ harms_in k more) (harms_in k more))) at ∙ rest
          ]
        ] refl
      ]

  kind_here : (list : List Intent) (course : Course) (mine : RoomCourse) → IsInTick before course.world → IsAtRoom course mine → IsAtRoom (after_kind book before list course) (room_after_kind book (those_in before k list) mine)
  kind_here list course mine in_tick at =
      let tell : ℕ × Harm → Harm = λ harm. harm.1 in
      rules_here list (record course { harms = course.harms ++ filter_map (harm_of book before course.world) list }) (record mine { harms = mine.harms ++ map (λ entry. book.harm entry mine.part) (those_in before k list) }) in_tick (record {
        part = at.part;
        harms =
            ap (map tell) (filter-append (λ (h : ℕ × Harm). h.0 == k) course.harms (filter_map (harm_of book before course.world) list))
            ∙ map_append tell (harms_in k course.harms) (harms_in k (filter_map (harm_of book before course.world) list))
            ∙ (λ i. at.harms i ++ harms_here list course.world mine.part at.part i);
        gains = at.gains;
      })

  actions_here : (actions : List Action) (list : List Intent) (course : Course) (mine : RoomCourse) → IsInTick before course.world → IsAtRoom course mine → IsAtRoom (after_actions book before actions list course) (room_after_actions book actions (those_in before k list) mine)
  actions_here [] list course mine in_tick at = at
  actions_here (action ∷ later) list course mine in_tick at =
      let next : Course = after_kind book before (entries_of action list) course in
      actions_here later list next (room_after_kind book (entries_of action (those_in before k list)) mine) (in_tick_rules book orderly.effect before k (entries_of action list) _ in_tick)
      (subst (λ entries. IsAtRoom next (room_after_kind book entries mine)) (sym (those_of before k action list)) (kind_here (entries_of action list) course mine in_tick at))

  -- ---- movement and upkeep

  every_part : (change : ℕ → RoomPart → RoomPart) → ((room : ℕ) → StaysInRoom (change room)) → (now : World) (part : RoomPart) → IsInTick before now → part_at now k ≡ Some part → part_at (in_every_room change now) k ≡ Some (change k part)
  every_part change own now part in_tick is = ap (seen_part k) (every_here before change own k now in_tick) ∙ changed_part (change k) (own k) k (seen now k) part is

  steps_part : (sums : ℕ → Sums) (steps : List Step) → AllByRecursion (λ step. (given : Sums) → StaysInRoom (step given)) steps → (now : World) (part : RoomPart) → IsInTick before now → part_at now k ≡ Some part
      → part_at (after_steps sums steps now) k ≡ Some (room_after_steps (sums k) steps part)
  steps_part sums [] own now part in_tick is = is
  steps_part sums (step ∷ later) own now part in_tick is =
      steps_part sums later own.1 (in_every_room (λ room. step (sums room)) now) (step (sums k) part) (in_tick_every before (λ room. step (sums room)) (λ room. own.0 (sums room)) now in_tick)
      (every_part (λ room. step (sums room)) (λ room. own.0 (sums room)) now part in_tick is)

  inner_room : AreSerialsUsed before → (list : List Intent) (frame : Frame) → get before.rooms k ≡ Some frame → IsAtRoom (inner book before list) (room_inner book (those_in before k (kept before list)) (part_of before k frame))
  inner_room used list frame is =
      let mine : List Intent = those_in before k (kept before list) in
      let course : Course = acted book before list in
      let room : RoomCourse = room_after_actions book all_actions mine (room_begun (part_of before k frame)) in
      let at : IsAtRoom course room = actions_here all_actions (kept before list) (begun before) (room_begun (part_of before k frame)) (at_start before used) (record { part = ap (option_map (part_of before k)) is; harms = refl; gains = refl }) in
      record {
        part =
            steps_part (sums_in course) book.steps orderly.steps (in_every_room (movement book before list) course.world) (movement book before list k room.part) (in_moved book orderly before used list)
            (every_part (movement book before list) (λ index. orderly.moved (those_in before index (entries_of Move (kept before list)))) course.world room.part (in_acted book orderly before used list) at.part)
            ∙ (λ i. Some (room_after_steps (sums_of (at.harms i)) book.steps (book.moved (sym (those_of before k Move (kept before list)) i) room.part)));
        harms = at.harms;
        gains = at.gains;
      }

  -- what happens inside a room, of its part and the list alone
  pub tick_room : AreSerialsUsed before → (list : List Intent) (frame : Frame) → get before.rooms k ≡ Some frame → IsAtRoom (inner book before list) (room_tick book list (part_of before k frame))
  tick_room used list frame is = subst (λ mine. IsAtRoom (inner book before list) (room_inner book mine (part_of before k frame))) (kept_here before k frame is list) (inner_room used list frame is)
