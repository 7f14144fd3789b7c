-- A world that a file says is one that can be hosted.
use Rattle.std.proofs.Common.{ℕ, ◌<◌, ◌≤◌, List, [], ◌∷◌, length, map, refl, arith}
use Rattle.std.specs.List.{AllByRecursion}
use Rattle.std.proofs.lemmas.List.{length-map}
use Rattle.game_tables.specs.Limits.{most_memory, most_players, most_rooms}
use Rattle.object_store.specs.declared.account.Account.{Account}
use Rattle.object_store.specs.Stored.{Stored}
use Rattle.world_rules.specs.declared.rule.Rule.TheVariants.{Counts}
use Rattle.world_rules.specs.World.{listed_room}
use Rattle.world_form.specs.Written.{IsWritable, IsWritableAccount}
use Rattle.hosted_tick.specs.Hosting.{IsHosted}

-- Nothing is above a bound that it can't be above.
pub not_above : (n most : ℕ) → (most < n → ⊥) → n ≤ most
not_above n most below = grind (arith, below)

short_memories : (accounts : List Account) → AllByRecursion IsWritableAccount accounts → AllByRecursion (λ account. length account.memory ≤ most_memory) accounts
short_memories [] all = tt
short_memories (account ∷ accounts) all = (all.0.memory, short_memories accounts all.1)

pub writable_hosted : (world : Stored) → IsWritable world → IsHosted world
writable_hosted world is = record {
  sound = is.sound;
  rooms = not_above (length world.rooms) most_rooms (λ many. is.rules Counts 0 (refl, λ within. let few : length (map listed_room world.rooms) ≤ most_rooms = within.rooms in omega (arith, many, few, length-map world.rooms listed_room)));
  players = not_above (length world.accounts) most_players (λ many. is.rules Counts 0 (refl, λ within. let few : length world.accounts ≤ most_players = within.players in omega (arith, many, few)));
  memories = short_memories world.accounts is.accounts;
}
