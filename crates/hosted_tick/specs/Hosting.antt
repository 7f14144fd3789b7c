-- A world with modules as it is held.
use Rattle.std.specs.Prelude.{◌≡◌, ℕ, ◌≤◌, List, length, map, Some}
use Rattle.std.specs.List.{AllByRecursion}
use Rattle.std.specs.FinMap.{from_entries, get}
use Rattle.game_tables.specs.Limits.{most_memory, most_players, most_rooms}
use Rattle.object_store.specs.Stored.{Stored}
use Rattle.world_rules.specs.Sound.{IsSound}
use Rattle.world_rules.specs.World.{world_of}
use Rattle.wasm_link.specs.Kept.{link_view}
use Rattle.player_run.specs.Admission.{Accepts, IsAccepted}
use Rattle.hosted_tick.specs.declared.modules.HostedModule.{HostedModule}
use Rattle.hosted_tick.specs.Next.{Modules, State}

-- the stored world, and the bytes of the modules in rising player
pub record Held : Type 0 where
  pub world : Stored
  pub modules : List (ℕ × List ℕ)

-- the state that is held
abbrev pub state_of : Held → State
state_of held = record { world = world_of held.world; modules = from_entries held.modules }

-- Each of these modules was accepted.
abbrev pub AreAccepted : Modules → Type 0
AreAccepted modules = (player : ℕ) (bytes : List ℕ) → get modules player ≡ Some bytes → IsAccepted bytes

-- The world is sound, and there are no more rooms, players and bytes of a memory text than may be.
pub record IsHosted (world : Stored) : Type 0 where
  pub sound : IsSound world
  pub rooms : length world.rooms ≤ most_rooms
  pub players : length world.accounts ≤ most_players
  pub memories : AllByRecursion (λ account. length account.memory ≤ most_memory) world.accounts

-- ---- modules as they are kept: by player, each with its bytes and as it was linked

abbrev pub Kept : Type 0
Kept = List (ℕ × HostedModule)

-- the bytes of each player's module
abbrev pub bytes_of : Kept → List (ℕ × List ℕ)
bytes_of kept = map (λ entry. (entry.0, entry.1.bytes)) kept

abbrev pub modules_of : Kept → Modules
modules_of kept = from_entries (bytes_of kept)

-- Each module is that of its bytes.
abbrev pub AreLinked : Kept → Type 0
AreLinked kept = AllByRecursion (λ entry. Accepts entry.1.bytes (link_view entry.1.linked)) kept
