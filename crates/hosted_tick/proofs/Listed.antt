-- The players with modules, listed, and the runs of such a list.
use Rattle.std.proofs.Common.{◌≡◌, ℕ, zero, suc, ◌+◌, ◌*◌, ◌<◌, ◌≤◌, ◌==◌, List, [], ◌∷◌, ◌++◌, length, take, get_or, Option, Some, None, slice_get, refl, sym, ap, subst, ◌∙◌, length-append, arith}
use Rattle.std.specs.List.{AllByRecursion}
use Rattle.std.specs.FinMap.{get}
use Rattle.std.proofs.lemmas.List.{take_more, append-nil}
use Rattle.game_tables.specs.Limits.{most_memory}
use Rattle.object_store.specs.declared.account.Account.{Account}
use Rattle.object_store.specs.Stored.{Stored, find_account}
use Rattle.intent_book.specs.Records.{entries_bound}
use Rattle.intent_book.specs.declared.player_run.PlayerRun.{PlayerRun}
use Rattle.world_rules.specs.Tick.{intents_of}
use Rattle.world_rules.specs.World.{world_of}
use Rattle.visible_view.specs.Sights.{sight_of}
use Rattle.wasm_link.specs.Kept.{link_view}
use Rattle.player_run.specs.Emitted.{Emits, EmitsBy}
use Rattle.player_runs.specs.declared.runs.PlayerModule.{PlayerModule}
use Rattle.player_runs.specs.PlayerRuns.{AreRunsOf, IsRunOf, MayRun}
use Rattle.hosted_tick.specs.Next.{AreRuns, BeginWith, Modules}
use Rattle.hosted_tick.specs.inner.Listing.{AreListed, IsListed, ListsFirst}
use Rattle.hosted_tick.proofs.Found.{holds_of_found}

module _ (world : Stored) (modules : Modules) where
  first_more : (account : Account) (bytes : Option (List ℕ)) (Others Further : List PlayerModule → Type 0) (more : List PlayerModule) → ((players : List PlayerModule) → Others players → Further (players ++ more))
      → (players : List PlayerModule) → ListsFirst world account bytes Others players → ListsFirst world account bytes Further (players ++ more)
  first_more account None Others Further more go players so = go players so
  first_more account (Some bytes) Others Further more go players so = (so.0, so.1 ++ more, ap (λ (r : List PlayerModule). r ++ more) so.2, so.3, go so.1 so.4)

  listed_append : (accounts later : List Account) (more : List PlayerModule) → AreListed world modules later more
      → (players : List PlayerModule) → AreListed world modules accounts players → AreListed world modules (accounts ++ later) (players ++ more)
  listed_append [] later more then players so = subst (λ (r : List PlayerModule). AreListed world modules later (r ++ more)) (sym so) then
  listed_append (account ∷ accounts) later more then players so =
      first_more account (get modules account.player) (AreListed world modules accounts) (AreListed world modules (accounts ++ later)) more
      (listed_append accounts later more then) players so

  listed_none : (account : Account) → get modules account.player ≡ None → AreListed world modules (account ∷ []) []
  listed_none account none =
      subst (λ (bytes : Option (List ℕ)). ListsFirst world account bytes (AreListed world modules []) []) (sym none) refl

  listed_one : (account : Account) (bytes : List ℕ) (one : PlayerModule) → get modules account.player ≡ Some bytes → IsListed world account bytes one → AreListed world modules (account ∷ []) (one ∷ [])
  listed_one account bytes one some is =
      subst (λ (b : Option (List ℕ)). ListsFirst world account b (AreListed world modules []) (one ∷ [])) (sym some) (one, [], refl, is, refl)

  -- one account more, whose player has no module
  pub more_none : (accounts : List Account) (i : ℕ) (account : Account) (players : List PlayerModule) → i < length accounts → account ≡ get_or accounts i account → get modules account.player ≡ None
      → AreListed world modules (take i accounts) players → AreListed world modules (take (i + 1) accounts) players
  more_none accounts i account players within is none so =
      let front : take (i + 1) accounts ≡ take i accounts ++ account ∷ [] = take_more accounts i account within ∙ ap (λ (a : Account). take i accounts ++ a ∷ []) (sym is) in
      let longer = listed_append (take i accounts) (account ∷ []) [] (listed_none account none) players so in
      subst (λ (list : List Account). AreListed world modules list players) (sym front) (subst (AreListed world modules (take i accounts ++ account ∷ [])) (append-nil players) longer)

  -- and one whose player has one
  pub more_one : (accounts : List Account) (i : ℕ) (account : Account) (bytes : List ℕ) (one : PlayerModule) (players : List PlayerModule) → i < length accounts → account ≡ get_or accounts i account → get modules account.player ≡ Some bytes → IsListed world account bytes one
      → AreListed world modules (take i accounts) players → AreListed world modules (take (i + 1) accounts) (players ++ one ∷ [])
  more_one accounts i account bytes one players within is some listed so =
      let front : take (i + 1) accounts ≡ take i accounts ++ account ∷ [] = take_more accounts i account within ∙ ap (λ (a : Account). take i accounts ++ a ∷ []) (sym is) in
      subst (λ (list : List Account). AreListed world modules list (players ++ one ∷ [])) (sym front) (listed_append (take i accounts) (account ∷ []) (one ∷ []) (listed_one account bytes one some listed) players so)

  -- no more players than accounts
  few_first : (account : Account) (bytes : Option (List ℕ)) (Others : List PlayerModule → Type 0) (n : ℕ) → ((players : List PlayerModule) → Others players → length players ≤ n)
      → (players : List PlayerModule) → ListsFirst world account bytes Others players → length players ≤ n + 1
  few_first account None Others n go players so = let few = go players so in omega (arith, few)
  few_first account (Some bytes) Others n go players so = let few = go so.1 so.4 in omega (arith, few, ap length so.2)

  pub few_listed : (accounts : List Account) (players : List PlayerModule) → AreListed world modules accounts players → length players ≤ length accounts
  few_listed [] players so = omega (arith, ap length so)
  few_listed (account ∷ later) players so =
      let few = few_first account (get modules account.player) (AreListed world modules later) (length later) (few_listed later) players so in
      omega (arith, few)

  -- each of them may be run
  may_first : (account : Account) (bytes : Option (List ℕ)) (Others : List PlayerModule → Type 0) → AllByRecursion (λ a. length a.memory ≤ most_memory) world.accounts
      → ((players : List PlayerModule) → Others players → (k : ℕ) (one : PlayerModule) → slice_get players k ≡ Some one → MayRun world one.player)
      → (players : List PlayerModule) → ListsFirst world account bytes Others players → (k : ℕ) (one : PlayerModule) → slice_get players k ≡ Some one → MayRun world one.player
  may_first account None Others short go players so k one at = go players so k one at
  may_first account (Some bytes) Others short go players so k one at = here k (subst (λ (list : List PlayerModule). slice_get list k ≡ Some one) so.2 at)
    where
      here : (k : ℕ) → slice_get (so.0 ∷ so.1) k ≡ Some one → MayRun world one.player
      here zero at =
          let same : so.0 ≡ one = cc in
          let player : one.player ≡ account.player = ap (λ (p : PlayerModule). p.player) (sym same) ∙ so.3.player in
          let found : find_account one.player world.accounts ≡ Some account = ap (λ (n : ℕ). find_account n world.accounts) player ∙ so.3.found in
          record {
            account = (account, found);
            memory = λ other there. holds_of_found (λ (a : Account). length a.memory ≤ most_memory) (λ (a : Account). a.player == one.player) world.accounts other short there;
          }
      here (suc k) at = go so.1 so.4 k one at

  pub may_all : AllByRecursion (λ a. length a.memory ≤ most_memory) world.accounts → (accounts : List Account) (players : List PlayerModule) → AreListed world modules accounts players
      → (k : ℕ) (one : PlayerModule) → slice_get players k ≡ Some one → MayRun world one.player
  may_all short [] players so k one at = absurd (let none : slice_get [] k ≡ Some one = subst (λ (list : List PlayerModule). slice_get list k ≡ Some one) so at in cc)
  may_all short (account ∷ later) players so k one at = may_first account (get modules account.player) (AreListed world modules later) short (may_all short later) players so k one at

  -- ---- the runs of a list

  pub record AreRan (accounts : List Account) (runs : List PlayerRun) : Type 0 where
    pub ran : AreRuns (world_of world) modules accounts runs
    pub few : length (intents_of runs) ≤ entries_bound * length accounts
    pub short : AllByRecursion (λ run. length run.memory ≤ most_memory) runs

  no_runs : (runs : List PlayerRun) → AreRunsOf world [] runs → runs ≡ []
  no_runs [] each = refl
  no_runs (run ∷ runs) each = absurd (each 0)

  intents_first : (run : PlayerRun) (runs : List PlayerRun) → length (intents_of (run ∷ runs)) ≡ length run.intents + length (intents_of runs)
  intents_first run runs = length-append run.intents (intents_of runs)

  ran_first : (account : Account) (later : List Account) (bytes : Option (List ℕ)) → get modules account.player ≡ bytes
      → ((players : List PlayerModule) (runs : List PlayerRun) → AreListed world modules later players → AreRunsOf world players runs → AreRan later runs)
      → (players : List PlayerModule) (runs : List PlayerRun) → ListsFirst world account bytes (AreListed world modules later) players → AreRunsOf world players runs → AreRan (account ∷ later) runs
  ran_first account later None none go players runs so each =
      let rest = go players runs so each in
      record {
        ran = subst (λ (b : Option (List ℕ)). BeginWith b (sight_of (world_of world) account) (AreRuns (world_of world) modules later) runs) (sym none) rest.ran;
        few = (let few = rest.few in omega (arith, few));
        short = rest.short;
      }
  ran_first account later (Some bytes) some go players runs so each = there runs (subst (λ (list : List PlayerModule). AreRunsOf world list runs) so.2 each)
    where
      there : (runs : List PlayerRun) → AreRunsOf world (so.0 ∷ so.1) runs → AreRan (account ∷ later) runs
      there [] each = absurd (each 0)
      there (run ∷ runs) each =
          let rest = go so.1 runs so.4 (λ k. each (suc k)) in
          let is : IsRunOf world so.0 run = each 0 in
          let twice : Some is.account ≡ Some account = sym is.found ∙ ap (λ (n : ℕ). find_account n world.accounts) so.3.player ∙ so.3.found in
          let same : is.account ≡ account = cc in
          let emits : Emits bytes (sight_of (world_of world) account) run = (link_view so.0.linked.now, so.3.accepted, subst (λ (a : Account). EmitsBy (link_view so.0.linked.now) (sight_of (world_of world) a) run) same is.emitted) in
          record {
            ran = subst (λ (b : Option (List ℕ)). BeginWith b (sight_of (world_of world) account) (AreRuns (world_of world) modules later) (run ∷ runs)) (sym some) (run, runs, refl, emits, rest.ran);
            few = (let few = rest.few in let own = is.few in omega (arith, few, own, intents_first run runs));
            short = (is.short, rest.short);
          }

  pub ran_all : (accounts : List Account) (players : List PlayerModule) (runs : List PlayerRun) → AreListed world modules accounts players → AreRunsOf world players runs → AreRan accounts runs
  ran_all [] players runs so each =
      let none : runs ≡ [] = no_runs runs (subst (λ (list : List PlayerModule). AreRunsOf world list runs) so each) in
      record { ran = none; few = omega (arith, ap (λ (r : List PlayerRun). length (intents_of r)) none); short = subst (AllByRecursion (λ (run : PlayerRun). length run.memory ≤ most_memory)) (sym none) tt }
  ran_all (account ∷ later) players runs so each = ran_first account later (get modules account.player) refl (ran_all later) players runs so each
