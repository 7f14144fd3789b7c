-- What the order of the entries of an action is.
use Rattle.std.specs.Prelude.{◌≡◌, ◌==◌, true, List}
use Rattle.std.specs.List.{filter, AllPairs}
use Rattle.game_tables.specs.Actions.{action_number}
use Rattle.game_tables.specs.declared.action.Action.{Action}
use Rattle.intent_book.specs.declared.intent.Intent.{Intent}
use Rattle.world_rules.specs.Intents.{comes_before}

-- the entries of an action, as they stand in a list
abbrev pub of_action : Action → List Intent → List Intent
of_action action list = filter (λ entry. action_number entry.action == action_number action) list

-- Each entry comes before all later ones.
abbrev pub Rises : List Intent → Type 0
Rises list = AllPairs (λ one later. comes_before one later ≡ true) list
