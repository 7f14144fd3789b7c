-- The rules that are tested beside that of the counts.
use Rattle.std.proofs.Common.{◌≡◌, ◌∙◌, ◌≢◌, ◌<◌, ℕ, Vec, Global, length, slice_index_or, Bool, true, false, List, map, MatchBool, ap, refl, sym, subst, arith, rules as found}
use Rattle.std.proofs.Math.ListN as ListN
use Rattle.std.proofs.lemmas.List.{get_or-map}
use Rattle.room_table.specs.declared.object.Object.{Object}
use Rattle.object_store.specs.declared.world.Room.{Room}
use Rattle.object_store.specs.Stored.{Stored}
use Rattle.world_rules.specs.declared.rule.Rule.{Rule}
use Rattle.world_rules.specs.declared.rule.Rule.TheVariants as rules
use Rattle.world_rules.specs.Rules.{Broken, rule_place}
use Rattle.world_rules.specs.World.{Listing, listed_room, listing_of}
use Rattle.rule_check.specs.declared.view.RoomView.{RoomView}
use Rattle.rule_check.specs.declared.keeps.Chosen.{Chosen}
use Rattle.rule_check.specs.declared.keeps.Chosen.TheVariants as choices
use Rattle.rule_check.specs.Kept.{AreOnTiles, KeepsAllButCounts, KeepsObjectRules}
use Rattle.rule_check.specs.Views.{viewed, viewed_room}
use Rattle.rule_check.specs.inner.Checks.{IsPastIds, KeptBelow}
use Rattle.rule_check.specs.inner.Chosen.{is_not_of_counts, IsKept, IsKeptBelow, KeepsChosen}
use Rattle.rule_check.proofs.Ticks.{any_tick}

pub chosen_past_ids : (chosen : Chosen) (rule : Rule) (listing : Listing) → IsKeptBelow chosen (rule_place rule) listing → IsPastIds rule listing
chosen_past_ids choices.AllButCounts rule listing kept past n = kept rules.IdTwice n refl (omega arith)
chosen_past_ids choices.OfObjects rule listing kept past n = kept rules.IdTwice n refl (omega arith)

pub past_ids : (rule : Rule) (listing : Listing) → KeptBelow (rule_place rule) listing → IsPastIds rule listing
past_ids rule listing kept past n = kept rules.IdTwice n (omega arith)

-- the tick of a listing is nothing to the rules
viewed_at : (views : List RoomView) (world : Stored) → map viewed_room views ≡ map listed_room world.rooms → viewed views world.accounts world.tick ≡ listing_of world
viewed_at views world same = ap (λ rooms. record { rules = 1; tick = world.tick; rooms = rooms; accounts = world.accounts }) same

kept_listed : (chosen : Chosen) (views : List RoomView) (world : Stored) → map viewed_room views ≡ map listed_room world.rooms → IsKept chosen (viewed views world.accounts 0) → IsKept chosen (listing_of world)
kept_listed chosen views world same kept rule n taken broken =
    kept rule n taken (any_tick views world.accounts world.tick 0 rule n (subst (Broken rule n) (sym (viewed_at views world same)) broken))

kept_viewed : (chosen : Chosen) (views : List RoomView) (world : Stored) → map viewed_room views ≡ map listed_room world.rooms → IsKept chosen (listing_of world) → IsKept chosen (viewed views world.accounts 0)
kept_viewed chosen views world same kept rule n taken broken =
    kept rule n taken (subst (Broken rule n) (viewed_at views world same) (any_tick views world.accounts 0 world.tick rule n broken))

-- what is kept as viewed is kept as stored
pub as_stored : (chosen : Chosen) (views : List RoomView) (world : Stored) (kept : Bool) → map viewed_room views ≡ map listed_room world.rooms → AreOnTiles world.rooms
    → MatchBool kept (IsKept chosen (viewed views world.accounts 0)) (IsKept chosen (viewed views world.accounts 0) → ⊥)
    → MatchBool kept (KeepsChosen chosen world) (KeepsChosen chosen world → ⊥)
as_stored chosen views world true same tiles kept = (tiles, kept_listed chosen views world same kept)
as_stored chosen views world false same tiles broken = λ both. broken (kept_viewed chosen views world same both.1)

-- ---- the two choices

counts_differ : (rule : Rule) → is_not_of_counts rule ≡ true → rule ≢ rules.Counts
counts_differ rules.Counts taken same = absurd (cc)
counts_differ rule taken same = search found

taken_if_differs : (rule : Rule) → rule ≢ rules.Counts → is_not_of_counts rule ≡ true
taken_if_differs rules.Counts differs = absurd (differs refl)
taken_if_differs rule differs = refl

pub all_but_counts : (world : Stored) (kept : Bool) → MatchBool kept (KeepsChosen choices.AllButCounts world) (KeepsChosen choices.AllButCounts world → ⊥)
    → MatchBool kept (AreOnTiles world.rooms × KeepsAllButCounts (listing_of world)) (AreOnTiles world.rooms × KeepsAllButCounts (listing_of world) → ⊥)
all_but_counts world true kept = (kept.0, λ rule n differs. kept.1 rule n (taken_if_differs rule differs))
all_but_counts world false broken = λ both. broken (both.0, λ rule n taken. both.1 rule n (counts_differ rule taken))

pub of_objects : (world : Stored) (kept : Bool) → MatchBool kept (KeepsChosen choices.OfObjects world) (KeepsChosen choices.OfObjects world → ⊥) → MatchBool kept (KeepsObjectRules world) (KeepsObjectRules world → ⊥)
of_objects world true kept = record { tiles = kept.0; rules = kept.1 }
of_objects world false broken = λ kept. broken (kept.tiles, kept.rules)

-- Lists of objects that are those of the rooms are so place by place.
pub list_at : (lists : List (Vec Object Global)) (rooms : List Room) (i : ℕ) (list : Vec Object Global) (room : Room) → map (λ (list : Vec Object Global). list.items) lists ≡ map (λ (room : Room). room.table.objects) rooms → i < length rooms
    → list ≡ slice_index_or lists i list → room ≡ slice_index_or rooms i room → list.items ≡ room.table.objects
list_at lists rooms i list room same within at_list at_room =
    ap (λ (list : Vec Object Global). list.items) at_list
    ∙ sym (ListN.get_or-map (λ (list : Vec Object Global). list.items) lists i list)
    ∙ ap (λ all. slice_index_or all i list.items) same
    ∙ get_or-map (λ (room : Room). room.table.objects) rooms i room list.items within
    ∙ ap (λ (room : Room). room.table.objects) (sym at_room)
