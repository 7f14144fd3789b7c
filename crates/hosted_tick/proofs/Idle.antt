-- A tick in which nobody has a module.
use Rattle.std.proofs.Common.{◌≡◌, ℕ, List, [], ◌∷◌, length, Option, None, refl, sym, subst, arith}
use Rattle.std.specs.Cmp.{nat_cmp_total}
use Rattle.std.specs.FinMap.{get, get-from_entries}
use Rattle.object_store.specs.declared.account.Account.{Account}
use Rattle.world_rules.specs.World.{World}
use Rattle.visible_view.specs.Sights.{sight_of}
use Rattle.hosted_tick.specs.Hosting.{Kept, modules_of}
use Rattle.hosted_tick.specs.Next.{AreRuns, BeginWith}

-- Nobody's module is found.
none_there : (kept : Kept) → length kept ≡ 0 → (player : ℕ) → get (modules_of kept) player ≡ None
none_there [] none player = get-from_entries nat_cmp_total [] player
none_there (entry ∷ later) none player = absurd (omega (arith, none))

-- So nobody has a run.
pub nobody_runs : (world : World) (kept : Kept) → length kept ≡ 0 → (accounts : List Account) → AreRuns world (modules_of kept) accounts []
nobody_runs world kept none [] = refl
nobody_runs world kept none (account ∷ later) =
    subst (λ (found : Option (List ℕ)). BeginWith found (sight_of world account) (AreRuns world (modules_of kept) later) []) (sym (none_there kept none account.player)) (nobody_runs world kept none later)
