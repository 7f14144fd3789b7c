-- What entries do to objects in worked examples.
use Rattle.std.proofs.Common.{◌≡◌, ℕ, not, false, Bool, T, List, [], ◌∷◌, ◌++◌, Some, None, if◌then◌else◌, option_map, option_and_then, refl, ap, ◌∙◌, ◌/◌}
use Rattle.std.specs.Ordering.{nat_cmp}
use Rattle.std.specs.Cmp.{nat_cmp_total}
use Rattle.std.specs.List.{filter, filter_map, cons_option}
use Rattle.std.specs.Option.{option_to_list}
use Rattle.std.specs.FinMap.{find, get, from_entries, get-from_entries, is_sorted}
use Rattle.game_tables.specs.declared.action.Action.{Action}
use Rattle.game_tables.specs.declared.action.Action.TheVariants.{Attack, RangedAttack}
use Rattle.room_table.specs.declared.object.Object.{Object}
use Rattle.intent_book.specs.declared.intent.Intent.{Intent}
use Rattle.world_rules.specs.World.{Placed, Frame, World, stands_in}
use Rattle.world_rules.specs.RoomParts.{RoomPart, standing_in, part_of, part_at, placed_in, with_part, in_frame, in_room}
use Rattle.world_rules.specs.RuleBook.{Effect, Harm}
use Rattle.world_rules.specs.Changes.{without}
use Rattle.world_rules.specs.Intents.{names_tile, room_of}
use Rattle.world_rules.specs.Tick.{Gain, harm_of, gain_in, after_rule, after_rules, after_kind}
use Rattle.world_rules.specs.FrameExamples.{creep_on, blow_of, taken_by, fighters, world_with, standing, entry_of, strike, back, gain_of}
use Rattle.world_rules.proofs.Keys.{entries_of_sorted}
use Rattle.world_rules.proofs.Listed.{insert_listed, remove_listed}
use Rattle.world_rules.proofs.framed.harm_examples.Goals as goal

module _ (frame : Frame) where
  abbrev one_room : List (ℕ × Placed) → World
  one_room es = world_with ((0, frame) ∷ []) es

  abbrev part_with : List (ℕ × Object) → RoomPart
  part_with objects = record { rules = 1; index = 0; grounds = frame.grounds; next = frame.next; objects = from_entries objects }

  abbrev here : List (ℕ × Placed) → List (ℕ × Object)
  here es = filter_map (standing_in 0) es

  framed : get (one_room []).rooms 0 ≡ Some frame
  framed = get-from_entries nat_cmp_total ((0, frame) ∷ []) 0

  part_is : (es : List (ℕ × Placed)) → T (is_sorted nat_cmp es) → part_of (one_room es) 0 frame ≡ part_with (here es)
  part_is es rise = λ i. part_with (filter_map (standing_in 0) (entries_of_sorted es rise i))

  part_there : (es : List (ℕ × Placed)) → T (is_sorted nat_cmp es) → part_at (one_room es) 0 ≡ Some (part_with (here es))
  part_there es rise = ap (option_map (part_of (one_room es) 0)) framed ∙ ap Some (part_is es rise)

  -- what an entry does, in the world of these creeps
  harm_is : (before es : List (ℕ × Placed)) (entry : Intent) → T (is_sorted nat_cmp es) → room_of (one_room before) entry ≡ Some 0
      → harm_of fighters (one_room before) (one_room es) entry ≡ Some (0, blow_of entry (find nat_cmp entry.actor (here es)))
  harm_is before es entry rise home =
      ap (option_and_then (λ room. option_map (λ part. (room, fighters.harm entry part)) (part_at (one_room es) room))) home
      ∙ ap (option_map (λ part. (0, fighters.harm entry part))) (part_there es rise)
      ∙ ap (λ found. Some (0, blow_of entry found)) (get-from_entries nat_cmp_total (here es) entry.actor)

  -- the part of the room after an entry's rule
  abbrev part_then : Intent → List (ℕ × Placed) → Effect
  part_then entry es = taken_by entry (part_with (here es)) (find nat_cmp entry.actor (here es))

  effect_is : (es : List (ℕ × Placed)) (entry : Intent) → fighters.effect entry (part_with (here es)) ≡ part_then entry es
  effect_is es entry = ap (taken_by entry (part_with (here es))) (get-from_entries nat_cmp_total (here es) entry.actor)

  change_is : (es : List (ℕ × Placed)) (entry : Intent) → T (is_sorted nat_cmp es)
      → in_room (λ part. (fighters.effect entry part).part) 0 (one_room es) ≡ with_part (one_room es) 0 frame (part_then entry es).part
  change_is es entry rise =
      ap (in_frame (λ part. (fighters.effect entry part).part) 0 (one_room es)) framed
      ∙ ap (λ part. with_part (one_room es) 0 frame (fighters.effect entry part).part) (part_is es rise)
      ∙ ap (λ effect. with_part (one_room es) 0 frame effect.part) (effect_is es entry)

  gain_is : (before es : List (ℕ × Placed)) (entry : Intent) → T (is_sorted nat_cmp es)
      → gain_in fighters (one_room before) (one_room es) entry 0 ≡ record { room = 0; player = entry.player; points = (part_then entry es).points } ∷ []
  gain_is before es entry rise =
      ap (λ found. option_to_list (option_map (λ (part : RoomPart). record { room = 0; player = entry.player; points = (fighters.effect entry part).points }) found)) (part_there es rise)
      ∙ ap (λ (effect : Effect). record { room = 0; player = entry.player; points = effect.points } ∷ []) (effect_is es entry)

  -- the world with these objects in the place of those of the room
  put_back : (es : List (ℕ × Placed)) (objects : List (ℕ × Object)) → T (is_sorted nat_cmp es) → T (is_sorted nat_cmp objects)
      → with_part (one_room es) 0 frame (part_with objects) ≡ one_room (placed_in 0 objects ++ filter (λ entry. not (stands_in 0 entry)) es)
  put_back es objects rise also = λ i. record {
    rules = 1;
    tick = 0;
    rooms = insert_listed ((0, frame) ∷ []) 0 frame i;
    objects = from_entries (placed_in 0 (entries_of_sorted objects also i) ++ filter (λ entry. not (stands_in 0 entry)) (entries_of_sorted es rise i));
    accounts = from_entries [];
  }

  -- the course after an entry's rule
  rule_is : (before es : List (ℕ × Placed)) (entry : Intent) (harms : List (ℕ × Harm)) (gains : List Gain) → T (is_sorted nat_cmp es) → room_of (one_room before) entry ≡ Some 0
      → after_rule fighters (one_room before) (record { world = one_room es; harms = harms; gains = gains }) entry (room_of (one_room before) entry)
      ≡ record { world = with_part (one_room es) 0 frame (part_then entry es).part; harms = harms; gains = gains ++ record { room = 0; player = entry.player; points = (part_then entry es).points } ∷ [] }
  rule_is before es entry harms gains rise home =
      ap (after_rule fighters (one_room before) (record { world = one_room es; harms = harms; gains = gains }) entry) home
      ∙ (λ i. record { world = change_is es entry rise i; harms = harms; gains = gains ++ gain_is before es entry rise i })

  -- ---- two creeps, and one

  abbrev both : List (ℕ × Placed)
  both = standing 0 (creep_on 1 5 5) ∷ standing 0 (creep_on 2 5 5) ∷ []

  abbrev one : List (ℕ × Placed)
  one = standing 0 (creep_on 1 5 5) ∷ []

  -- the first takes the second away, which then does nothing
  first_takes : with_part (one_room both) 0 frame (without 2 (part_with (here both))) ≡ one_room one
  first_takes =
      (λ i. with_part (one_room both) 0 frame (record (part_with (here both)) { objects = remove_listed (here both) 2 i }))
      ∙ put_back both (here one) tt tt

  second_rests : with_part (one_room one) 0 frame (part_with (here one)) ≡ one_room one
  second_rests = put_back one (here one) tt tt

  module _ (action : Action) where
    home : (actor target : ℕ) → names_tile action ≡ false → option_map (λ (placed : Placed). placed.room) (find nat_cmp actor both) ≡ Some 0
        → room_of (one_room both) (record (entry_of action actor) { target = target }) ≡ Some 0
    home actor target object is =
        ap (λ (b : Bool). if b then Some (actor / 2500) else option_map (λ (placed : Placed). placed.room) (get (one_room both).objects actor)) object
        ∙ ap (option_map (λ (placed : Placed). placed.room)) (get-from_entries nat_cmp_total both actor)
        ∙ is

pub returns-clause-before : goal.returns-clause-before
returns-clause-before c = λ frame.
    let strikes : Intent = strike Attack in
    let answer : Intent = back Attack in
    let world : World = one_room frame (both frame) in
    let mine : room_of world strikes ≡ Some 0 = home frame Attack 1 2 refl refl in
    let theirs : room_of world answer ≡ Some 0 = home frame Attack 2 1 refl refl in
    let harms : List (ℕ × Harm) = (0, blow_of strikes (Some (creep_on 1 5 5))) ∷ (0, blow_of answer (Some (creep_on 2 5 5))) ∷ [] in
    let read : filter_map (harm_of fighters world world) (strikes ∷ answer ∷ []) ≡ harms = λ i. cons_option (harm_is frame (both frame) (both frame) strikes tt mine i) (cons_option (harm_is frame (both frame) (both frame) answer tt theirs i) []) in
    (λ i. after_rules fighters world (strikes ∷ answer ∷ []) (record { world = world; harms = read i; gains = [] }))
    ∙ ap (after_rules fighters world (answer ∷ [])) (rule_is frame (both frame) (both frame) strikes harms [] tt mine)
    ∙ (λ i. after_rules fighters world (answer ∷ []) (record { world = first_takes frame i; harms = harms; gains = gain_of 1 ∷ [] }))
    ∙ rule_is frame (both frame) (one frame) answer harms (gain_of 1 ∷ []) tt theirs
    ∙ (λ i. record { world = second_rests frame i; harms = harms; gains = gain_of 1 ∷ gain_of 0 ∷ [] })

pub returns-clause-later : goal.returns-clause-later
returns-clause-later c = λ frame.
    let strikes : Intent = strike Attack in
    let answer : Intent = back RangedAttack in
    let world : World = one_room frame (both frame) in
    let mine : room_of world strikes ≡ Some 0 = home frame Attack 1 2 refl refl in
    let theirs : room_of world answer ≡ Some 0 = home frame RangedAttack 2 1 refl refl in
    let first : List (ℕ × Harm) = (0, blow_of strikes (Some (creep_on 1 5 5))) ∷ [] in
    let harms : List (ℕ × Harm) = (0, blow_of strikes (Some (creep_on 1 5 5))) ∷ (0, blow_of answer None) ∷ [] in
    let read : filter_map (harm_of fighters world world) (strikes ∷ []) ≡ first = λ i. cons_option (harm_is frame (both frame) (both frame) strikes tt mine i) [] in
    let next : filter_map (harm_of fighters world (one_room frame (one frame))) (answer ∷ []) ≡ (0, blow_of answer None) ∷ [] = λ i. cons_option (harm_is frame (both frame) (one frame) answer tt theirs i) [] in
    ap (after_kind fighters world (answer ∷ [])) (
    (λ i. after_rules fighters world (strikes ∷ []) (record { world = world; harms = read i; gains = [] }))
    ∙ rule_is frame (both frame) (both frame) strikes first [] tt mine
    ∙ (λ i. record { world = first_takes frame i; harms = first; gains = gain_of 1 ∷ [] }))
    ∙ (λ i. after_rules fighters world (answer ∷ []) (record { world = one_room frame (one frame); harms = first ++ next i; gains = gain_of 1 ∷ [] }))
    ∙ rule_is frame (both frame) (one frame) answer harms (gain_of 1 ∷ []) tt theirs
    ∙ (λ i. record { world = second_rests frame i; harms = harms; gains = gain_of 1 ∷ gain_of 0 ∷ [] })
