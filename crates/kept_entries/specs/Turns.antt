-- The entries of a tick that count, in their turn.
use Rattle.std.specs.Prelude.{◌≡◌, ℕ, List, map, Option, Some}
use Rattle.std.specs.List.{flat_map}
use Rattle.intent_book.specs.declared.intent.Intent.{Intent}
use Rattle.world_rules.specs.World.{World}
use Rattle.world_rules.specs.Intents.{all_actions, entries_of, kept, room_of}
use Rattle.kept_entries.specs.declared.entries.Entry.{Entry}

-- entries in the order in which a tick rules them: by action, then by player, then by actor
abbrev pub in_turn : List Intent → List Intent
in_turn list = flat_map (λ action. entries_of action list) all_actions

-- an entry with the room of its actor, in the world before the tick
abbrev pub placed_in : World → Intent → Option ℕ × Intent
placed_in world entry = (room_of world entry, entry)

abbrev pub placed : Entry → Option ℕ × Intent
placed entry = (Some entry.room, entry.intent)

-- These are the entries that count of a list, each with the room of its actor, in their turn.
abbrev pub AreKept : World → List Intent → List Entry → Type 0
AreKept world list entries = map placed entries ≡ map (placed_in world) (in_turn (kept world list))
