-- Which entries of a record count beside one that is asked for.
use Rattle.std.specs.Prelude.{ℕ, ◌/◌, ◌==◌, ◌&&◌, not, Bool, List}
use Rattle.std.specs.List.{filter}
use Rattle.game_tables.specs.Actions.{action_number}
use Rattle.game_tables.specs.declared.action.Action.{Action}
use Rattle.game_tables.specs.declared.action.Action.TheVariants.{CreateSite}
use Rattle.intent_book.specs.declared.intent.Intent.{Intent}

abbrev pub is_of : Action → Intent → Bool
is_of action entry = action_number entry.action == action_number action

-- the entries of an action for other actors than one
abbrev pub others_of : Action → ℕ → List Intent → List Intent
others_of action actor entries = filter (λ entry. is_of action entry && not (entry.actor == actor)) entries

-- those for sites of the kind of a number on other tiles of a tile's room
abbrev pub others_in : ℕ → ℕ → List Intent → List Intent
others_in tile number entries =
    filter (λ entry. (entry.actor / 2500 == tile / 2500) && (entry.amount == number))
    (others_of CreateSite tile entries)
