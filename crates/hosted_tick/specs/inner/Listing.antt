-- The players with modules, as they are listed to be run.
use Rattle.std.specs.Prelude.{◌≡◌, ℕ, List, [], ◌∷◌, Option, None, Some}
use Rattle.std.specs.FinMap.{get}
use Rattle.object_store.specs.declared.account.Account.{Account}
use Rattle.object_store.specs.Stored.{Stored, find_account}
use Rattle.wasm_link.specs.Kept.{link_view}
use Rattle.player_run.specs.Admission.{Accepts}
use Rattle.player_runs.specs.declared.runs.PlayerModule.{PlayerModule}
use Rattle.hosted_tick.specs.Next.{Modules}

-- It is the player of this account with the module of these bytes.
pub record IsListed (world : Stored) (account : Account) (bytes : List ℕ) (one : PlayerModule) : Type 0 where
  pub player : one.player ≡ account.player
  pub found : find_account account.player world.accounts ≡ Some account
  pub accepted : Accepts bytes (link_view one.linked.now)

-- A player with a module of these bytes is listed first; one without is not.
abbrev pub ListsFirst : Stored → Account → Option (List ℕ) → (List PlayerModule → Type 0)
    → List PlayerModule → Type 0
ListsFirst world account None Others players = Others players
ListsFirst world account (Some bytes) Others players =
    (one : PlayerModule) × (others : List PlayerModule) × (players ≡ one ∷ others)
    × IsListed world account bytes one × Others others

-- These are the players of the accounts that have modules, each with his.
abbrev pub AreListed : Stored → Modules → List Account → List PlayerModule → Type 0
AreListed world modules [] players = players ≡ []
AreListed world modules (account ∷ later) players =
    ListsFirst world account (get modules account.player) (AreListed world modules later) players
