-- Whose the entries of a tick are: those that count are of somebody.
use Rattle.std.proofs.Common.{◌≡◌, ℕ, ◌<◌, ◌≤◌, nat_lt, Bool, true, List, [], ◌∷◌, ◌++◌, map, length, get_or, Option, refl, sym, subst, inl, inr}
use Rattle.std.specs.List.{AllByRecursion, flat_map}
use Rattle.std.proofs.lemmas.Bool.{and_parts, ltb-true}
use Rattle.game_tables.specs.declared.action.Action.{Action}
use Rattle.intent_book.specs.declared.intent.Intent.{Intent}
use Rattle.kept_entries.specs.declared.entries.Entry.{Entry}
use Rattle.kept_entries.specs.Turns.{in_turn, placed, placed_in, AreKept}
use Rattle.world_rules.specs.World.{World}
use Rattle.world_rules.specs.RoomParts.{RoomPart}
use Rattle.world_rules.specs.Intents.{all_actions, entries_of, has_actor, kept}
use Rattle.room_commutes.proofs.ActorsOnce.{entry_of}
use Rattle.room_commutes.proofs.Counted.{kept_counts}
use Rattle.room_commutes.proofs.Members.{Has, has_contained}
use Rattle.std.proofs.lemmas.List.Elements.{All-from_recursion}
use Rattle.room_rules.specs.RoomRules.{KeepsRoomRules}
use Rattle.room_rules.specs.Within.{Stage}

-- A room that keeps its rules keeps them where there are more players.
pub keeps_more : (some all : ℕ → Bool) → ((player : ℕ) → some player ≡ true → all player ≡ true) → (stage : Stage) (part : RoomPart) → KeepsRoomRules some stage part → KeepsRoomRules all stage part
keeps_more some all more stage part keeps = record {
  begun = keeps.begun;
  ids = keeps.ids;
  born = keeps.born;
  inside = keeps.inside;
  tiles = keeps.tiles;
  shared = keeps.shared;
  owners = λ id object here. (let right = keeps.owners id object here in record {
    owner = λ has. (let is = right.owner has in (more object.owner is.0, is.1));
    other = λ has. (let is = right.other has in (more object.other is.0, is.1));
  });
  controllers = keeps.controllers;
  ranges = keeps.ranges;
}

-- ---- the players of the entries that count

all_append : {A : Type 0} (P : A → Type 0) (one other : List A) → AllByRecursion P one → AllByRecursion P other → AllByRecursion P (one ++ other)
all_append P [] other first second = second
all_append P (x ∷ one) other first second = (first.0, all_append P one other first.1 second)

pub all_has : {A : Type 0} (P : A → Type 0) (list : List A) → ((x : A) → Has list x → P x) → AllByRecursion P list
all_has P [] each = tt
all_has P (x ∷ list) each = (each x (inl refl), all_has P list (λ y has. each y (inr has)))

-- What holds of each entry of a list holds of those in their turn.
module _ (those : List Intent) (P : Intent → Type 0) (each : (entry : Intent) → Has those entry → P entry) where
  in_turn_of : (actions : List Action) → AllByRecursion P (flat_map (λ action. entries_of action those) actions)
  in_turn_of [] = tt
  in_turn_of (action ∷ later) =
      all_append P (entries_of action those) (flat_map (λ action. entries_of action those) later)
      (all_has P (entries_of action those) (λ entry has. each entry (entry_of action those entry (has_contained (entries_of action those) entry has)).0))
      (in_turn_of later)

  pub all_in_turn : AllByRecursion P (in_turn those)
  all_in_turn = in_turn_of all_actions

module _ (world : World) (list : List Intent) where
  -- What holds of each entry that counts holds of those in their turn.
  module _ (P : Intent → Type 0) (each : (entry : Intent) → Has (kept world list) entry → P entry) where
    placed_of : (entries : List Intent) → AllByRecursion P entries → AllByRecursion (λ (pair : Option ℕ × Intent). P pair.1) (map (placed_in world) entries)
    placed_of [] all = tt
    placed_of (entry ∷ entries) all = (all.0, placed_of entries all.1)

    of_pairs : (entries : List Entry) → AllByRecursion (λ (pair : Option ℕ × Intent). P pair.1) (map placed entries) → AllByRecursion (λ (entry : Entry). P entry.intent) entries
    of_pairs [] all = tt
    of_pairs (entry ∷ entries) all = (all.0, of_pairs entries all.1)

    all_kept : (entries : List Entry) → AreKept world list entries → AllByRecursion (λ (entry : Entry). P entry.intent) entries
    all_kept entries are =
        of_pairs entries (subst (AllByRecursion (λ (pair : Option ℕ × Intent). P pair.1)) (sym are) (placed_of (in_turn (kept world list)) (all_in_turn (kept world list) P each)))

  pub of_somebody : (entry : Intent) → Has (kept world list) entry → 1 ≤ entry.player
  of_somebody entry has =
      let counts = (kept_counts world list entry).0 (has_contained (kept world list) entry has) in
      ltb-true 0 entry.player (and_parts (nat_lt 0 entry.player) (has_actor world entry) counts.last.good).0

  -- An entry that counts is of somebody.
  pub entry_of_somebody : (entries : List Entry) → AreKept world list entries → (i : ℕ) (entry : Entry) → i < length entries → entry ≡ get_or entries i entry → 1 ≤ entry.intent.player
  entry_of_somebody entries are i entry inside is =
      subst (λ (e : Entry). 1 ≤ e.intent.player) (sym is)
      (All-from_recursion (λ (e : Entry). 1 ≤ e.intent.player) entries (all_kept (λ e. 1 ≤ e.player) of_somebody entries are) i entry inside)
