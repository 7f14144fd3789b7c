-- What each step of a split by rooms makes.
use Rattle.std.specs.Prelude.{◌≡◌, ℕ, ◌/◌, if◌then◌else◌, List, [], ◌∷◌, ◌++◌, Option, Some}
use Rattle.intent_book.specs.declared.intent.Intent.{Intent}
use Rattle.world_rules.specs.World.{World, Objects}
use Rattle.world_rules.specs.Intents.{names_tile}
use Rattle.kept_entries.specs.Split.{AreSplit}
use Rattle.kept_entries.specs.inner.Choosing.{room_in}

-- the room of an entry's actor
abbrev pub room_among : Objects → Intent → Option ℕ
room_among objects entry =
    if names_tile entry.action then Some (entry.actor / 2500) else room_in objects entry.actor

-- Where these were the lists of some entries in the world of these objects, they become those of these
-- entries and one more.
abbrev pub Adds : Objects → Intent → List (List Intent) → List (List Intent) → Type 0
Adds objects entry old new =
    (world : World) (list : List Intent) → objects ≡ world.objects → AreSplit world list old
    → AreSplit world (list ++ entry ∷ []) new
