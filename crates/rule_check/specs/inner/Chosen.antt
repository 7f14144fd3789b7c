-- The rules that a test of a stored world is to look at. For private clauses.
use Rattle.std.specs.Prelude.{◌≡◌, ℕ, ◌<◌, Bool, true, false}
use Rattle.object_store.specs.Stored.{Stored}
use Rattle.world_rules.specs.declared.rule.Rule.{Rule}
use Rattle.world_rules.specs.declared.rule.Rule.TheVariants.{Counts, RoomTwice, Corner, Serial, IdTwice, Tile}
use Rattle.world_rules.specs.declared.rule.Rule.TheVariants.{Shared, Owner, Controllers, Range, PlayerTwice}
use Rattle.world_rules.specs.declared.rule.Rule.TheVariants.{Sites}
use Rattle.world_rules.specs.Rules.{Broken, rule_place}
use Rattle.world_rules.specs.World.{Listing, listing_of}
use Rattle.rule_check.specs.declared.keeps.Chosen.{Chosen}
use Rattle.rule_check.specs.declared.keeps.Chosen.TheVariants.{AllButCounts, OfObjects}
use Rattle.rule_check.specs.Kept.{AreOnTiles, is_of_objects}

-- every rule but that of the counts
abbrev pub is_not_of_counts : Rule → Bool
is_not_of_counts Counts = false
is_not_of_counts RoomTwice = true
is_not_of_counts Corner = true
is_not_of_counts Serial = true
is_not_of_counts IdTwice = true
is_not_of_counts Tile = true
is_not_of_counts Shared = true
is_not_of_counts Owner = true
is_not_of_counts Controllers = true
is_not_of_counts Range = true
is_not_of_counts PlayerTwice = true
is_not_of_counts Sites = true

-- the rule is chosen
abbrev pub takes : Chosen → Rule → Bool
takes AllButCounts rule = is_not_of_counts rule
takes OfObjects rule = is_of_objects rule

-- No chosen rule is broken.
abbrev pub IsKept : Chosen → Listing → Type 0
IsKept chosen listing = (rule : Rule) (n : ℕ) → takes chosen rule ≡ true → Broken rule n listing → ⊥

-- No chosen rule of a lesser place is broken.
abbrev pub IsKeptBelow : Chosen → ℕ → Listing → Type 0
IsKeptBelow chosen place listing =
    (rule : Rule) (n : ℕ) → takes chosen rule ≡ true → rule_place rule < place → Broken rule n listing → ⊥

-- Each object stands on a tile of its room, and no chosen rule is broken.
abbrev pub KeepsChosen : Chosen → Stored → Type 0
KeepsChosen chosen world = AreOnTiles world.rooms × IsKept chosen (listing_of world)
