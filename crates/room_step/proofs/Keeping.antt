-- A tick of a room by itself keeps its rules.
use Rattle.std.proofs.Common.{◌≡◌, inl, inr, ℕ, ◌≤◌, nat_lt, not, if◌then◌else◌, Bool, true, false, pos, List, [], ◌∷◌, Some, refl, sym, ap, subst, ◌∙◌}
use Rattle.std.specs.List.{filter, list_any}
use Rattle.std.specs.FinMap.{from_entries, get}
use Rattle.std.proofs.lemmas.Bool.{and_parts, ltb-true}
use Rattle.game_tables.specs.declared.action.Action.{Action}
use Rattle.game_tables.specs.declared.action.Action.TheVariants.{Move}
use Rattle.intent_book.specs.declared.intent.Intent.{Intent}
use Rattle.world_rules.specs.World.{Frame, World}
use Rattle.world_rules.specs.RoomParts.{RoomPart, part_of, with_room}
use Rattle.world_rules.specs.RuleBook.{Sums}
use Rattle.world_rules.specs.Intents.{all_actions, entries_of, kept, last_of_each, overrules, same_entry}
use Rattle.world_rules.specs.Moves.{moved as moves_made}
use Rattle.world_rules.specs.RoomTick.{RoomCourse, fits_room, kept_in, room_after_actions, room_after_kind, room_after_rule, room_after_rules, room_after_steps, room_begun, room_tick}
use Rattle.world_rules.specs.Seen.{Seen, seen}
use Rattle.world_rules.specs.Tick.{book, sums_of}
use Rattle.world_rules.specs.Upkeep.{first_steps}
use Rattle.world_rules.proofs.Parts.{seen_here}
use Rattle.room_commutes.proofs.ActorsOnce.{entry_of, moves_once}
use Rattle.room_commutes.proofs.Members.{Has, has_contained, has_filter}
use Rattle.room_commutes.proofs.Split.{kept_here, those_of}
use Rattle.room_rules.specs.Calls.{AreActorsOnce}
use Rattle.room_rules.specs.Within.{moved, within}
use Rattle.room_rules.specs.RoomRules.{KeepsRoomRules}
use Rattle.room_rules.proofs.Moved.{keeps_moved}
use Rattle.room_rules.proofs.Rules.{first_lead, later_lead, rule_keeps}

-- ---- entries that count

-- The last of each stand in the list.
last_has : (list : List Intent) (entry : Intent) → Has (last_of_each list) entry → Has list entry
last_has [] entry has = absurd has
last_has (first ∷ later) entry has =
    elim (list_any (same_entry first) later) as (λ b. Has (if b then last_of_each later else first ∷ last_of_each later) entry → Has (first ∷ later) entry) [
      | true ↦ λ more. inr (last_has later entry more)
      | false ↦ λ more. elim more [ inl is ↦ inl is | inr rest ↦ inr (last_has later entry rest) ]
    ] has

-- An entry that counts in a room stands in the list, and fits the room.
pub kept_among : (part : RoomPart) (list : List Intent) (entry : Intent) → Has (kept_in part list) entry → Has list entry × (fits_room part entry ≡ true)
kept_among part list entry has =
    let fitting : List Intent = filter (fits_room part) list in
    let lasts : List Intent = last_of_each fitting in
    let among = has_filter (λ e. not (list_any (λ one. overrules one e) lasts)) lasts entry has in
    has_filter (fits_room part) list entry (last_has fitting entry among.0)

-- Its player has a number.
pub kept_player : (part : RoomPart) (list : List Intent) (entry : Intent) → Has (kept_in part list) entry → 1 ≤ entry.player
kept_player part list entry has =
    let fits = (kept_among part list entry has).1 in
    ltb-true 0 entry.player (and_parts (nat_lt 0 entry.player) _ fits).0

-- ---- the course of a room

module _ (players : ℕ → Bool) where
  abbrev Kept : RoomPart → Type 0
  Kept part = KeepsRoomRules players within part

  abbrev pub AreOfSomebody : List Intent → Type 0
  AreOfSomebody list = (entry : Intent) → Has list entry → 1 ≤ entry.player

  rules_keep : (list : List Intent) → AreOfSomebody list → (course : RoomCourse) → Kept course.part → Kept (room_after_rules book list course).part
  rules_keep [] of course keeps = keeps
  rules_keep (entry ∷ later) of course keeps =
      rules_keep later (λ other has. of other (inr has)) (room_after_rule book course entry)
      (rule_keeps entry.action entry players course.part (of entry (inl refl)) keeps)

  pub actions_keep : (actions : List Action) (list : List Intent) → AreOfSomebody list → (course : RoomCourse) → Kept course.part → Kept (room_after_actions book actions list course).part
  actions_keep [] list of course keeps = keeps
  actions_keep (action ∷ later) list of course keeps =
      let those : List Intent = entries_of action list in
      actions_keep later list of (room_after_kind book those course)
      (rules_keep those (λ entry has. of entry (entry_of action list entry (has_contained those entry has)).0) _ keeps)

-- ---- no creep has two moves

-- a world that has this room, of some name, alone
abbrev frame_for : RoomPart → Frame
frame_for part = record { name = record { column = pos 0; row = pos 0 }; grounds = part.grounds; next = part.next }

abbrev no_world : ℕ → World
no_world rules = record { rules = rules; tick = 0; rooms = from_entries []; objects = from_entries []; accounts = from_entries [] }

abbrev world_for : RoomPart → World
world_for part = with_room (no_world part.rules) part.index (frame_for part) part.objects

part_seen : (part : RoomPart) → seen (world_for part) part.index ≡ record { rules = part.rules; frame = Some (frame_for part); objects = part.objects }
part_seen part = seen_here (no_world part.rules) part.index (frame_for part) part.objects

-- Of the entries that count in a room, as in a world that has it alone, no two are moves of one creep.
pub moves_apart : (part : RoomPart) (list : List Intent) → AreActorsOnce (entries_of Move (kept_in part list))
moves_apart part list =
    let world : World = world_for part in
    let k : ℕ = part.index in
    let frame : Frame = frame_for part in
    let framed : get world.rooms k ≡ Some frame = ap (λ (s : Seen). s.frame) (part_seen part) in
    let same : part_of world k frame ≡ part = ap (λ (s : Seen). record part { objects = s.objects }) (part_seen part) in
    subst AreActorsOnce
    (sym (those_of world k Move (kept world list)) ∙ ap (entries_of Move) (kept_here world k frame framed list) ∙ ap (λ (p : RoomPart). entries_of Move (kept_in p list)) same)
    (moves_once world list k)

-- ---- a tick

-- What a tick makes of a room that keeps its rules keeps those between ticks, but that creeps keep whether they moved.
pub tick_keeps : (players : ℕ → Bool) (part : RoomPart) (list : List Intent) → KeepsRoomRules players within part → KeepsRoomRules players moved (room_tick book list part).part
tick_keeps players part list keeps =
    let counted : List Intent = kept_in part list in
    let after : RoomCourse = room_after_actions book all_actions counted (room_begun part) in
    let sums : Sums = sums_of after.harms in
    let stepped : RoomPart = moves_made (entries_of Move counted) after.part in
    let acted : KeepsRoomRules players within after.part = actions_keep players all_actions counted (kept_player part list) (room_begun part) keeps in
    let kept : KeepsRoomRules players within stepped = keeps_moved players (entries_of Move counted) after.part (moves_apart part list) acted in
    later_lead sums players (room_after_steps sums first_steps stepped) (first_lead sums players stepped kept)
