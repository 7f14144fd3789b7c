-- What a record of a player's intents is.
use Rattle.std.specs.Prelude.{◌≡◌, ℕ, Bool, not, ◌&&◌, ◌||◌, nat_eq, nat_lt, All, List, [], ◌∷◌, ◌++◌, filter}
use Rattle.std.specs.Prelude.{length, IsPermutation, IsSortedByKey}
use Rattle.std.specs.declared.cmp.Ordering.{Ordering}
use Rattle.std.specs.Ordering.{nat_cmp, ordering_then}
use Rattle.std.specs.List.{list_any}
use Rattle.game_tables.specs.Actions.{action_number}
use Rattle.intent_book.specs.declared.intent.Intent.{Intent}

-- whose record it is, and its entries, the one that was put last at the end
pub record Record : Type 0 where
  pub player : ℕ
  pub entries : List Intent

-- the most entries of a record
abbrev pub entries_bound : ℕ
entries_bound = 4096

-- where an intent stands: the number of its action, and its actor
abbrev pub place : Intent → ℕ × ℕ
place intent = (action_number intent.action, intent.actor)

abbrev pub place_eq : ℕ × ℕ → ℕ × ℕ → Bool
place_eq one other = nat_eq one.0 other.0 && nat_eq one.1 other.1

-- two intents have one action and actor
abbrev pub same_place : Intent → Intent → Bool
same_place one other = place_eq (place one) (place other)

-- an intent of that action and actor stands in the list
abbrev pub has_place : List Intent → Intent → Bool
has_place entries intent = list_any (same_place intent) entries

-- a record of these entries takes the intent
abbrev pub accepts : List Intent → Intent → Bool
accepts entries intent = has_place entries intent || nat_lt (length entries) entries_bound

-- the entries without that of the same action and actor, and then the new one
abbrev pub put_last : List Intent → Intent → List Intent
put_last entries intent = filter (λ entry. not (same_place intent entry)) entries ++ intent ∷ []

-- Each entry is the player's.
abbrev pub AreOf : ℕ → List Intent → Type 0
AreOf player entries = All (λ entry. entry.player ≡ player) entries

-- by the number of the action, and then by the actor
abbrev pub place_cmp : ℕ × ℕ → ℕ × ℕ → Ordering
place_cmp one other = ordering_then (nat_cmp one.0 other.0) (nat_cmp one.1 other.1)

-- The list is the entries by the number of the action, and then by the actor.
abbrev pub IsCanonical : List Intent → List Intent → Type 0
IsCanonical entries list = IsPermutation entries list × IsSortedByKey place place_cmp list
