-- What happens inside a room, entry by entry in their turn.
use Rattle.std.proofs.Common.{◌≡◌, inl, inr, ℕ, ◌+◌, ◌*◌, ◌^◌, ◌<◌, ◌≤◌, List, [], ◌∷◌, ◌++◌, map, Some, refl, sym, ap, subst, ◌∙◌, append-nil, append_assoc, arith}
use Rattle.std.specs.List.{flat_map}
use Rattle.std.specs.FinMap.{get}
use Rattle.game_tables.specs.Actions.{action_number}
use Rattle.game_tables.specs.declared.action.Action.{Action}
use Rattle.intent_book.specs.declared.intent.Intent.{Intent}
use Rattle.kept_entries.specs.Turns.{in_turn}
use Rattle.world_rules.specs.RoomParts.{RoomPart}
use Rattle.world_rules.specs.RuleBook.{Harm, Follows}
use Rattle.world_rules.specs.Intents.{all_actions, entries_of}
use Rattle.world_rules.specs.RoomTick.{RoomCourse, room_after_actions, room_after_kind, room_after_rules, room_begun}
use Rattle.world_rules.specs.Tick.{book}
use Rattle.world_rules.proofs.Orderly.{book_orderly}
use Rattle.room_commutes.specs.Serials.{AreOwnSerialsUsed}
use Rattle.room_commutes.specs.Standing.{AreKeyed}
use Rattle.room_commutes.proofs.ActorsOnce.{entry_of}
use Rattle.room_commutes.proofs.Keyed.{book_keyed}
use Rattle.room_commutes.proofs.Members.{Has, has_contained}
use Rattle.room_commutes.proofs.Torn.{leaves_harm}
use Rattle.room_step.specs.inner.Course.{harms_entered, part_after, part_entered, points_entered}

-- The objects of a part stand under their ids, and have used up their serials.
pub record IsKept (part : RoomPart) : Type 0 where
  pub keyed : AreKeyed part
  pub used : AreOwnSerialsUsed part

-- What stood has used up its serial, and so has what an entry makes.
used_after : (part after : RoomPart) → Follows part after → AreOwnSerialsUsed part → AreOwnSerialsUsed after
used_after part after follows used serial object small there =
    let id : ℕ = after.index * 2 ^ 32 + serial in
    let index : after.index ≡ part.index = follows.index in
    let grows : part.next ≤ after.next = follows.serial in
    elim (follows.own id (object, there)) [
      | inl stood ↦ (
          let was : serial < part.next = used serial stood.0 small (subst (λ (n : ℕ). get part.objects (n * 2 ^ 32 + serial) ≡ Some stood.0) index stood.1) in
          omega (arith, was, grows)
          )
      | inr new ↦ (
          let is : after.index * 2 ^ 32 + serial ≡ part.index * 2 ^ 32 + new.0 = new.1 in
          omega (arith, is, index, small, new.3, new.4)
          )
    ]

kept_after : (part : RoomPart) (entry : Intent) → IsKept part → IsKept (part_after part entry)
kept_after part entry kept = record {
  keyed = book_keyed entry part kept.keyed;
  used = used_after part (part_after part entry) (book_orderly.effect entry part) kept.used;
}

-- ---- one list after another

pub parts_append : (part : RoomPart) (one other : List Intent) → part_entered part (one ++ other) ≡ part_entered (part_entered part one) other
parts_append part [] other = refl
parts_append part (entry ∷ one) other = parts_append (part_after part entry) one other

pub harms_append : (part : RoomPart) (one other : List Intent) → harms_entered part (one ++ other) ≡ harms_entered part one ++ harms_entered (part_entered part one) other
harms_append part [] other = refl
harms_append part (entry ∷ one) other = ap (λ (more : List Harm). book.harm entry part ∷ more) (harms_append (part_after part entry) one other)

pub points_append : (part : RoomPart) (one other : List Intent) → points_entered part (one ++ other) ≡ points_entered part one ++ points_entered (part_entered part one) other
points_append part [] other = refl
points_append part (entry ∷ one) other = ap (λ (more : List (ℕ × ℕ)). (entry.player, (book.effect entry part).points) ∷ more) (points_append (part_after part entry) one other)

-- ---- the course of a room

-- a course after entries, each doing its harm in its own turn
abbrev entered : RoomCourse → List Intent → RoomCourse
entered course list = record {
  part = part_entered course.part list;
  harms = course.harms ++ harms_entered course.part list;
  points = course.points ++ points_entered course.part list;
}

entered_append : (course : RoomCourse) (one other : List Intent) → entered course (one ++ other) ≡ entered (entered course one) other
entered_append course one other = λ i. record {
  part = parts_append course.part one other i;
  harms = (ap (λ (more : List Harm). course.harms ++ more) (harms_append course.part one other) ∙ sym (append_assoc course.harms (harms_entered course.part one) (harms_entered (part_entered course.part one) other))) i;
  points = (ap (λ (more : List (ℕ × ℕ)). course.points ++ more) (points_append course.part one other) ∙ sym (append_assoc course.points (points_entered course.part one) (points_entered (part_entered course.part one) other))) i;
}

rules_enter : (list : List Intent) (course : RoomCourse) → room_after_rules book list course ≡ record { part = part_entered course.part list; harms = course.harms; points = course.points ++ points_entered course.part list }
rules_enter [] course = λ i. record course { points = sym (append-nil course.points) i }
rules_enter (entry ∷ later) course =
    let gain : ℕ × ℕ = (entry.player, (book.effect entry course.part).points) in
    rules_enter later (record { part = part_after course.part entry; harms = course.harms; points = course.points ++ gain ∷ [] })
    ∙ (λ i. record { part = part_entered (part_after course.part entry) later; harms = course.harms; points = append_assoc course.points (gain ∷ []) (points_entered (part_after course.part entry) later) i })

-- The entries are of one action.
abbrev AreOf : Action → List Intent → Type 0
AreOf action list = (entry : Intent) → Has list entry → action_number entry.action ≡ action_number action

-- No rule of an action changes what later entries of it do.
same_harms : (action : Action) (entry : Intent) (later : List Intent) (part : RoomPart) → AreOf action (entry ∷ later) → IsKept part → map (λ one. book.harm one (part_after part entry)) later ≡ map (λ one. book.harm one part) later
same_harms action entry [] part of kept = refl
same_harms action entry (one ∷ later) part of kept =
    let own : AreOf action (entry ∷ later) = λ other has. elim has [ inl is ↦ of other (inl is) | inr more ↦ of other (inr (inr more)) ] in
    λ i. leaves_harm entry one (of entry (inl refl) ∙ sym (of one (inr (inl refl)))) part kept.keyed kept.used i ∷ same_harms action entry later part own kept i

harms_run : (action : Action) (list : List Intent) (part : RoomPart) → AreOf action list → IsKept part → map (λ entry. book.harm entry part) list ≡ harms_entered part list
harms_run action [] part of kept = refl
harms_run action (entry ∷ later) part of kept =
    ap (λ (more : List Harm). book.harm entry part ∷ more)
    (sym (same_harms action entry later part of kept) ∙ harms_run action later (part_after part entry) (λ other has. of other (inr has)) (kept_after part entry kept))

kind_enters : (action : Action) (list : List Intent) (course : RoomCourse) → AreOf action list → IsKept course.part → room_after_kind book list course ≡ entered course list
kind_enters action list course of kept =
    rules_enter list (record course { harms = course.harms ++ map (λ entry. book.harm entry course.part) list })
    ∙ (λ i. record { part = part_entered course.part list; harms = course.harms ++ harms_run action list course.part of kept i; points = course.points ++ points_entered course.part list })

kept_entered : (list : List Intent) (part : RoomPart) → IsKept part → IsKept (part_entered part list)
kept_entered [] part kept = kept
kept_entered (entry ∷ later) part kept = kept_entered later (part_after part entry) (kept_after part entry kept)

actions_enter : (actions : List Action) (list : List Intent) (course : RoomCourse) → IsKept course.part → room_after_actions book actions list course ≡ entered course (flat_map (λ action. entries_of action list) actions)
actions_enter [] list course kept = λ i. record { part = course.part; harms = sym (append-nil course.harms) i; points = sym (append-nil course.points) i }
actions_enter (action ∷ later) list course kept =
    let first : List Intent = entries_of action list in
    let rest : List Intent = flat_map (λ action. entries_of action list) later in
    ap (room_after_actions book later list) (kind_enters action first course (λ entry has. (entry_of action list entry (has_contained first entry has)).1) kept)
    ∙ actions_enter later list (entered course first) (kept_entered first course.part kept)
    ∙ sym (entered_append course first rest)

-- Kind by kind is entry by entry in their turn.
pub all_enter : (list : List Intent) (part : RoomPart) → IsKept part
    → room_after_actions book all_actions list (room_begun part) ≡ record { part = part_entered part (in_turn list); harms = harms_entered part (in_turn list); points = points_entered part (in_turn list) }
all_enter list part kept = actions_enter all_actions list (room_begun part) kept
