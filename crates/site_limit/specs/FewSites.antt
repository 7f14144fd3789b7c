-- How many sites players have.
use Rattle.std.specs.Prelude.{ℕ, ◌==◌, ◌&&◌, Bool}
use Rattle.game_tables.specs.Kinds.{is_site}
use Rattle.room_table.specs.declared.object.Object.{Object}
use Rattle.intent_book.specs.declared.intent.Intent.{Intent}
use Rattle.object_store.specs.Stored.{Stored}
use Rattle.world_rules.specs.Intents.{names_tile}
use Rattle.world_rules.specs.Rules.{Broken}
use Rattle.world_rules.specs.World.{listing_of}
use Rattle.world_rules.specs.declared.rule.Rule.TheVariants.{Sites}

-- It is a site of the player.
abbrev pub is_site_of : ℕ → Object → Bool
is_site_of player object = is_site object.kind && (object.owner == player)

-- It is an entry of the player's for a new site.
abbrev pub wants_site : ℕ → Intent → Bool
wants_site player entry = names_tile entry.action && (entry.player == player)

-- No player has more sites than a player may have.
abbrev pub HaveFewSites : Stored → Type 0
HaveFewSites stored = (player : ℕ) → Broken Sites player (listing_of stored) → ⊥
