-- The entries of a list, room by room.
use Rattle.std.specs.Prelude.{◌≡◌, ℕ, ◌<◌, List, [], length, slice_index_or}
use Rattle.intent_book.specs.declared.intent.Intent.{Intent}
use Rattle.world_rules.specs.World.{World}
use Rattle.world_rules.specs.Intents.{those_in}

-- These are, for each room of so many, the entries of the list whose actor is in it, as they come.
abbrev pub AreSplit : World → List Intent → List (List Intent) → Type 0
AreSplit world list lists =
    (room : ℕ) → room < length lists → slice_index_or lists room [] ≡ those_in world room list
