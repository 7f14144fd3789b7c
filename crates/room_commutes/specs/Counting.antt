-- Which entries count, in the words of the game.
use Rattle.std.specs.Prelude.{◌≡◌, true, false, List, ◌∷◌, ◌++◌}
use Rattle.std.specs.List.{Contains}
use Rattle.intent_book.specs.declared.intent.Intent.{Intent}
use Rattle.world_rules.specs.World.{World}
use Rattle.world_rules.specs.Intents.{fits, same_entry, overrules}

-- The entry stands in the list and fits, and no later one that fits is of its player, action and actor.
pub record IsLast (world : World) (list : List Intent) (entry : Intent) : Type 0 where
  pub before : List Intent
  pub later : List Intent
  pub stands : list ≡ before ++ entry ∷ later
  pub good : fits world entry ≡ true
  pub last :
      (other : Intent) → Contains later other → fits world other ≡ true → same_entry entry other ≡ false

-- The entry counts: it is such a last one, and no such one drops it.
pub record Counts (world : World) (list : List Intent) (entry : Intent) : Type 0 where
  pub last : IsLast world list entry
  pub undropped : (other : Intent) → IsLast world list other → overrules other entry ≡ false
