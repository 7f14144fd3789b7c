-- Two courses that are alike at a room stay alike there, whatever the entries of other rooms do to the first.
use Rattle.std.proofs.Common.{◌≡◌, ℕ, ◌/◌, ◌==◌, if◌then◌else◌, Bool, true, false, cond, List, [], ◌∷◌, ◌++◌, Option, Some, None, option_map, option_and_then, refl, sym, ap, subst, ◌∙◌, append-nil}
use Rattle.std.specs.List.{cons_option, filter_map}
use Rattle.std.specs.Option.{option_to_list}
use Rattle.std.specs.FinMap.{get}
use Rattle.std.proofs.lemmas.Bool.{eqb-true, eqb-false}
use Rattle.std.proofs.lemmas.List.Elements.{filter-append}
use Rattle.intent_book.specs.declared.intent.Intent.{Intent}
use Rattle.world_rules.specs.World.{Placed, World, alone}
use Rattle.world_rules.specs.RoomParts.{RoomPart, part_at}
use Rattle.world_rules.specs.RuleBook.{Harm, RuleBook, StaysInRoom}
use Rattle.world_rules.specs.Intents.{names_tile, room_of, is_at, is_in, those_in}
use Rattle.world_rules.specs.Tick.{Gain, Course, harm_of, gain_in, after_rule, after_rules, after_kind, harms_in, gains_in}
use Rattle.world_rules.specs.Seen.{Seen, seen}
use Rattle.world_rules.proofs.Parts.{where_test, get_alone, seen_part, changed, seen_changed}
use Rattle.room_commutes.proofs.InTick.{IsInTick, in_tick_room, others}

-- The courses are alike at a room: the same is seen there, was done to objects there, and was gained there.
pub record AreAlike (k : ℕ) (one two : Course) : Type 0 where
  pub world : seen one.world k ≡ seen two.world k
  pub harms : harms_in k one.harms ≡ harms_in k two.harms
  pub gains : gains_in k one.gains ≡ gains_in k two.gains

-- ---- the room of an entry, in the world that has one room alone

alone_at : (k : ℕ) (found : Option Placed) → is_at k (option_map (λ placed. placed.room) found) ≡ true → option_and_then (where_test (λ q. q.room == k)) found ≡ found
alone_at k None is = refl
alone_at k (Some p) is = ap (λ (b : Bool). cond b (Some p) None) is

-- an actor that is an object of the room is found there alone
pub actor_alone : (world : World) (k : ℕ) (entry : Intent) → names_tile entry.action ≡ false → is_in world k entry ≡ true → get (alone world k).objects entry.actor ≡ get world.objects entry.actor
actor_alone world k entry object is =
    get_alone world k entry.actor
    ∙ alone_at k (get world.objects entry.actor) (subst (λ (b : Bool). is_at k (if b then Some (entry.actor / 2500) else option_map (λ placed. placed.room) (get world.objects entry.actor)) ≡ true) object is)

pub room_of_alone : (world : World) (k : ℕ) (entry : Intent) → is_in world k entry ≡ true → room_of (alone world k) entry ≡ room_of world entry
room_of_alone world k entry is =
    elim (names_tile entry.action) as (λ b. names_tile entry.action ≡ b → (if b then Some (entry.actor / 2500) else option_map (λ placed. placed.room) (get (alone world k).objects entry.actor)) ≡ (if b then Some (entry.actor / 2500) else option_map (λ placed. placed.room) (get world.objects entry.actor))) [
      | true ↦ λ tile. refl
      | false ↦ λ object. ap (option_map (λ (placed : Placed). placed.room)) (actor_alone world k entry object is)
    ] refl

-- ---- the rules

module _ (book : RuleBook) (own : (entry : Intent) → StaysInRoom (λ part. (book.effect entry part).part)) (before : World) (k : ℕ) where
  pub in_tick_rules : (list : List Intent) (course : Course) → IsInTick before course.world → IsInTick before (after_rules book before list course).world
  in_tick_rules [] course in_tick = in_tick
  in_tick_rules (entry ∷ later) course in_tick = in_tick_rules later (after_rule book before course entry (room_of before entry)) (
      elim (room_of before entry) as (λ r. IsInTick before (after_rule book before course entry r).world) [
        | None ↦ in_tick
        | Some room ↦ in_tick_room before course.world in_tick (λ part. (book.effect entry part).part) (own entry) room
      ])

  gain_here : (entry : Intent) (room : ℕ) (b : Bool) (part : Option RoomPart) → (room == k) ≡ false
      → gains_in k (option_to_list (option_map (λ (p : RoomPart). record { room = room; player = entry.player; points = (book.effect entry p).points }) part)) ≡ []
  gain_here entry room b None apart = refl
  gain_here entry room b (Some p) apart = ap (λ (t : Bool). cond {A = List Gain} t (record { room = room; player = entry.player; points = (book.effect entry p).points } ∷ []) []) apart

  rule_apart : (entry : Intent) (room : ℕ) (one two : Course) → (room == k) ≡ false → IsInTick before one.world → AreAlike k one two → AreAlike k (after_rule book before one entry (Some room)) two
  rule_apart entry room one two apart in_one alike = record {
    world = others before one.world in_one (λ part. (book.effect entry part).part) (own entry) room k (λ same. eqb-false room k apart (sym same)) ∙ alike.world;
    harms = alike.harms;
    gains =
        filter-append (λ (g : Gain). g.room == k) one.gains (gain_in book before one.world entry room)
        ∙ ap (λ gs. gains_in k one.gains ++ gs) (gain_here entry room true (part_at one.world room) apart)
        ∙ append-nil (gains_in k one.gains)
        ∙ alike.gains;
  }

  rule_here : (entry : Intent) (one two : Course) → AreAlike k one two → AreAlike k (after_rule book before one entry (Some k)) (after_rule book (alone before k) two entry (Some k))
  rule_here entry one two alike =
      let change : RoomPart → RoomPart = λ part. (book.effect entry part).part in
      let gain : Seen → List Gain = λ s. option_to_list (option_map (λ part. record { room = k; player = entry.player; points = (book.effect entry part).points }) (seen_part k s)) in
      record {
        world = seen_changed change k one.world ∙ ap (changed change k) alike.world ∙ sym (seen_changed change k two.world);
        harms = alike.harms;
        gains =
            filter-append (λ (g : Gain). g.room == k) one.gains (gain_in book before one.world entry k)
            ∙ (λ i. alike.gains i ++ gains_in k (gain (alike.world i)))
            ∙ sym (filter-append (λ (g : Gain). g.room == k) two.gains (gain_in book (alone before k) two.world entry k));
      }

  rules_alike : (list : List Intent) (one two : Course) → IsInTick before one.world → AreAlike k one two → AreAlike k (after_rules book before list one) (after_rules book (alone before k) (those_in before k list) two)
  rules_alike [] one two in_one alike = alike
  rules_alike (entry ∷ later) one two in_one alike =
      elim (room_of before entry) as (λ r. room_of before entry ≡ r → AreAlike k (after_rules book before later (after_rule book before one entry r)) (after_rules book (alone before k) (cond (is_at k r) (entry ∷ those_in before k later) (those_in before k later)) two)) [
        | None ↦ λ is. rules_alike later one two in_one alike
        | Some room ↦ λ is.
            let next : Course = after_rule book before one entry (Some room) in
            let in_next : IsInTick before next.world = in_tick_room before one.world in_one (λ part. (book.effect entry part).part) (own entry) room in
            elim (room == k) as (λ b. (room == k) ≡ b → AreAlike k (after_rules book before later next) (after_rules book (alone before k) (cond b (entry ∷ those_in before k later) (those_in before k later)) two)) [
              | true ↦ λ at.
                  let same : room ≡ k = eqb-true room k at in
                  let home : room_of (alone before k) entry ≡ Some k = room_of_alone before k entry (ap (is_at k) is ∙ at) ∙ is ∙ ap Some same in
                  let here : AreAlike k next (after_rule book (alone before k) two entry (Some k)) = subst (λ (n : ℕ). AreAlike k (after_rule book before one entry (Some n)) (after_rule book (alone before k) two entry (Some k))) (sym same) (rule_here entry one two alike) in
                  rules_alike later next (after_rule book (alone before k) two entry (room_of (alone before k) entry)) in_next
                  (subst (λ (r : Option ℕ). AreAlike k next (after_rule book (alone before k) two entry r)) (sym home) here)
              | false ↦ λ at. rules_alike later next two in_next (rule_apart entry room one two at in_one alike)
            ] refl
      ] refl

  -- ---- what entries do to objects

  harm_at : (entry : Intent) (room : ℕ) → Option RoomPart → Option (ℕ × Harm)
  harm_at entry room part = option_map (λ p. (room, book.harm entry p)) part

  harm_same : (harm : Option (ℕ × Harm)) (one two : List (ℕ × Harm)) → harms_in k one ≡ harms_in k two → harms_in k (cons_option harm one) ≡ harms_in k (cons_option harm two)
  harm_same None one two same = same
  harm_same (Some h) one two same = ap (λ rest. cond (h.0 == k) (h ∷ rest) rest) same

  harm_apart : (entry : Intent) (room : ℕ) (part : Option RoomPart) (rest : List (ℕ × Harm)) → (room == k) ≡ false → harms_in k (cons_option (option_map (λ (p : RoomPart). (room, book.harm entry p)) part) rest) ≡ harms_in k rest
  harm_apart entry room None rest apart = refl
  harm_apart entry room (Some p) rest apart = ap (λ (b : Bool). cond b ((room, book.harm entry p) ∷ harms_in k rest) (harms_in k rest)) apart

  harms_alike : (list : List Intent) (one two : World) → seen one k ≡ seen two k → harms_in k (filter_map (harm_of book before one) list) ≡ harms_in k (filter_map (harm_of book (alone before k) two) (those_in before k list))
  harms_alike [] one two alike = refl
  harms_alike (entry ∷ later) one two alike =
      let rest = harms_alike later one two alike in
      let more : List (ℕ × Harm) = filter_map (harm_of book before one) later in
      let fewer : List (ℕ × Harm) = filter_map (harm_of book (alone before k) two) (those_in before k later) in
      let harm : World → ℕ → Option (ℕ × Harm) = λ world room. option_map (λ part. (room, book.harm entry part)) (part_at world room) in
      elim (room_of before entry) as (λ r. room_of before entry ≡ r → harms_in k (cons_option (option_and_then (harm one) r) more) ≡ harms_in k (filter_map (harm_of book (alone before k) two) (cond (is_at k r) (entry ∷ those_in before k later) (those_in before k later)))) [
        | None ↦ λ is. rest
        | Some room ↦ λ is. elim (room == k) as (λ b. (room == k) ≡ b → harms_in k (cons_option (harm one room) more) ≡ harms_in k (filter_map (harm_of book (alone before k) two) (cond b (entry ∷ those_in before k later) (those_in before k later)))) [
          | true ↦ λ at.
              let same : room ≡ k = eqb-true room k at in
              let home : room_of (alone before k) entry ≡ Some k = room_of_alone before k entry (ap (is_at k) is ∙ at) ∙ is ∙ ap Some same in
              let one_harm : harm one room ≡ harm two k = ap (harm one) same ∙ ap (λ s. option_map (λ part. (k, book.harm entry part)) (seen_part k s)) alike in
              ap (λ h. harms_in k (cons_option h more)) one_harm
              ∙ harm_same (harm two k) more fewer rest
              ∙ sym (ap (λ (r : Option ℕ). harms_in k (cons_option (option_and_then (harm two) r) fewer)) home)
          | false ↦ λ at. harm_apart entry room (part_at one room) more at ∙ rest
        ] refl
      ] refl

  pub kind_alike : (list : List Intent) (one two : Course) → IsInTick before one.world → AreAlike k one two → AreAlike k (after_kind book before list one) (after_kind book (alone before k) (those_in before k list) two)
  kind_alike list one two in_one alike =
      rules_alike list (record one { harms = one.harms ++ filter_map (harm_of book before one.world) list }) (record two { harms = two.harms ++ filter_map (harm_of book (alone before k) two.world) (those_in before k list) }) in_one (record {
        world = alike.world;
        harms =
            filter-append (λ (h : ℕ × Harm). h.0 == k) one.harms (filter_map (harm_of book before one.world) list)
            ∙ (λ i. alike.harms i ++ harms_alike list one.world two.world alike.world i)
            ∙ sym (filter-append (λ (h : ℕ × Harm). h.0 == k) two.harms (filter_map (harm_of book (alone before k) two.world) (those_in before k list)));
        gains = alike.gains;
      })
