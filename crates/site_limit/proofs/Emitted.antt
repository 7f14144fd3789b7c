-- What the players of a world emit in a tick wants no more new sites than each may have.
use Rattle.std.proofs.Common.{◌≡◌, ℕ, ◌+◌, ◌-◌, ◌==◌, ◌&&◌, ◌≤◌, ◌<◌, Bool, true, false, cond, List, [], ◌∷◌, ◌++◌, Option, Some, None, refl, sym, ap, subst, ◌∙◌, arith}
use Rattle.std.specs.List.{AllByRecursion, count_by}
use Rattle.std.specs.FinMap.{get}
use Rattle.std.proofs.lemmas.Bool.{eq-eqb, eqb-true}
use Rattle.std.proofs.lemmas.List.Elements.{recursion_from_All}
use Rattle.std.proofs.lemmas.List.Sorted.{sum_by-IsPermutation}
use Rattle.std.proofs.lemmas.List.Sums.{sum_by-cons, sum_by-append}
use Rattle.game_tables.specs.Limits.{most_sites}
use Rattle.object_store.specs.declared.account.Account.{Account}
use Rattle.object_store.specs.Stored.{AreRising}
use Rattle.intent_book.specs.declared.intent.Intent.{Intent}
use Rattle.intent_book.specs.declared.player_run.PlayerRun.{PlayerRun}
use Rattle.world_rules.specs.Intents.{names_tile}
use Rattle.world_rules.specs.Tick.{intents_of}
use Rattle.world_rules.specs.World.{World}
use Rattle.visible_view.specs.Sights.{Sight, sight_of, site_count}
use Rattle.wasm_link.specs.Linking.{Link}
use Rattle.host_calls.specs.Desks.{Desk}
use Rattle.host_calls.specs.Replies.{answers}
use Rattle.player_run.specs.Emitted.{EmitsBy}
use Rattle.player_run.proofs.HostKept.{run_keeps}
use Rattle.player_run.proofs.Owned.{emitted_own}
use Rattle.player_run.proofs.Replied.{Changes, answered, records, same, text}
use Rattle.hosted_tick.specs.Next.{AreRuns, BeginWith, Modules}
use Rattle.site_limit.specs.FewSites.{wants_site}
use Rattle.site_limit.proofs.Recorded.{put_few, site_entries}

-- ---- one run

-- The desk is that of this sight, and its record wants no more sites than the player may have with those that he has.
record IsBounded (seen : Sight) (desk : Desk) : Type 0 where
  pub sight : desk.sight ≡ seen
  pub few : seen.sites + site_entries desk.book.entries ≤ most_sites

changed_bounded : (seen : Sight) (desk later : Desk) → Changes desk later → IsBounded seen desk → IsBounded seen later
changed_bounded seen desk _ same bounded = bounded
changed_bounded seen desk _ text bounded = record { sight = bounded.sight; few = bounded.few }
changed_bounded seen desk _ (records {intent = intent} is) bounded = record {
  sight = bounded.sight;
  few =
      (let few = bounded.few in
      let sites : desk.sight.sites ≡ seen.sites = ap (λ (s : Sight). s.sites) bounded.sight in
      let put = put_few (most_sites - seen.sites) desk.book.entries intent (omega (arith, few)) (λ tile. (let less = is.few tile in omega (arith, less, sites))) in
      omega (arith, few, put));
}

-- A run of a player who has no more sites than he may have.
run_few : (link : Link) (sight : Sight) (run : PlayerRun) → EmitsBy link sight run → sight.sites ≤ most_sites → sight.sites + site_entries run.intents ≤ most_sites
run_few link sight run emits few =
    let bounded : IsBounded sight emits.last.host =
    run_keeps link.program answers (IsBounded sight) (λ host later number args memory after answer is. changed_bounded sight host later (answered host later number args memory after answer is)) emits.ends
    (record { sight = refl; few = omega (arith, few) }) in
    let less = bounded.few in
    let same = sum_by-IsPermutation (λ (e : Intent). cond (names_tile e.action) 1 0) emits.last.host.book.entries run.intents emits.intents.0 in
    omega (arith, less, same)

-- ---- all runs

module _ (player : ℕ) where
  abbrev Wants : Intent → Bool
  Wants = wants_site player

  wants_few : (entries : List Intent) → count_by Wants entries ≤ site_entries entries
  wants_few [] = omega arith
  wants_few (entry ∷ later) =
      let rest = wants_few later in
      let step = sum_by-cons (λ (e : Intent). cond (Wants e) 1 0) entry later in
      let front = sum_by-cons (λ (e : Intent). cond (names_tile e.action) 1 0) entry later in
      elim (names_tile entry.action) as (λ b. count_by Wants (entry ∷ later) ≡ cond (b && (entry.player == player)) 1 0 + count_by Wants later → site_entries (entry ∷ later) ≡ cond b 1 0 + site_entries later → count_by Wants (entry ∷ later) ≤ site_entries (entry ∷ later)) [
        | false ↦ λ one other. omega (arith, rest, one, other)
        | true ↦ λ one other. elim (entry.player == player) as (λ b. count_by Wants (entry ∷ later) ≡ cond b 1 0 + count_by Wants later → count_by Wants (entry ∷ later) ≤ site_entries (entry ∷ later)) [
          | true ↦ λ own. omega (arith, rest, own, other)
          | false ↦ λ own. omega (arith, rest, own, other)
        ] one
      ] step front

  others_want_none : (other : ℕ) → (other ≡ player → ⊥) → (entries : List Intent) → AllByRecursion (λ entry. entry.player ≡ other) entries → count_by Wants entries ≡ 0
  others_want_none other apart [] own = refl
  others_want_none other apart (entry ∷ later) own =
      let step = sum_by-cons (λ (e : Intent). cond (Wants e) 1 0) entry later in
      let rest = others_want_none other apart later own.1 in
      elim (entry.player == player) as (λ b. (entry.player == player) ≡ b → count_by Wants (entry ∷ later) ≡ cond (names_tile entry.action && b) 1 0 + count_by Wants later → count_by Wants (entry ∷ later) ≡ 0) [
        | true ↦ λ is front. absurd (apart (sym own.0 ∙ eqb-true entry.player player is))
        | false ↦ λ is front. elim (names_tile entry.action) as (λ b. count_by Wants (entry ∷ later) ≡ cond (b && false) 1 0 + count_by Wants later → count_by Wants (entry ∷ later) ≡ 0) [
          | true ↦ λ none. omega (arith, none, rest)
          | false ↦ λ none. omega (arith, none, rest)
        ] front
      ] refl step

  count_append : (one other : List Intent) → count_by Wants (one ++ other) ≡ count_by Wants one + count_by Wants other
  count_append one other = sum_by-append (λ (e : Intent). cond (Wants e) 1 0) one other

  module _ (world : World) (modules : Modules) where
    -- of accounts of others
    begin_none : (bytes : Option (List ℕ)) (sight : Sight) (Others : List PlayerRun → Type 0) → (sight.account.player ≡ player → ⊥) → ((runs : List PlayerRun) → Others runs → count_by Wants (intents_of runs) ≡ 0)
        → (runs : List PlayerRun) → BeginWith bytes sight Others runs → count_by Wants (intents_of runs) ≡ 0
    begin_none None sight Others apart go runs so = go runs so
    begin_none (Some bytes) sight Others apart go runs so =
        let own = recursion_from_All (λ (entry : Intent). entry.player ≡ sight.account.player) so.0.intents (emitted_own so.3.0 sight so.0 so.3.2) in
        let first = others_want_none sight.account.player apart so.0.intents own in
        let rest = go so.1 so.4 in
        let sum = count_append so.0.intents (intents_of so.1) in
        ap (λ (r : List PlayerRun). count_by Wants (intents_of r)) so.2 ∙ sum ∙ (λ i. first i + rest i)

    none_of_others : (accounts : List Account) → AllByRecursion (λ account. player < account.player) accounts → (runs : List PlayerRun) → AreRuns world modules accounts runs → count_by Wants (intents_of runs) ≡ 0
    none_of_others [] above runs ran = ap (λ (r : List PlayerRun). count_by Wants (intents_of r)) ran
    none_of_others (account ∷ later) above runs ran =
        begin_none (get modules account.player) (sight_of world account) (AreRuns world modules later) (λ is. (let more = above.0 in omega (arith, is, more))) (none_of_others later above.1) runs ran

    -- of the player's account, and of those that come after it
    begin_own : (bytes : Option (List ℕ)) (account : Account) (Others : List PlayerRun → Type 0) → site_count world account.player ≤ most_sites → account.player ≡ player → ((runs : List PlayerRun) → Others runs → count_by Wants (intents_of runs) ≡ 0)
        → (runs : List PlayerRun) → BeginWith bytes (sight_of world account) Others runs → site_count world player + count_by Wants (intents_of runs) ≤ most_sites
    begin_own None account Others few is go runs so =
        let none = go runs so in
        let same = ap (site_count world) is in
        omega (arith, few, none, same)
    begin_own (Some bytes) account Others few is go runs so =
        let sight : Sight = sight_of world account in
        let first = run_few so.3.0 sight so.0 so.3.2 few in
        let less = wants_few so.0.intents in
        let rest = go so.1 so.4 in
        let sum = ap (λ (r : List PlayerRun). count_by Wants (intents_of r)) so.2 ∙ count_append so.0.intents (intents_of so.1) in
        let same = ap (site_count world) is in
        omega (arith, first, less, rest, sum, same)

    -- of the account of another
    begin_other : (bytes : Option (List ℕ)) (sight : Sight) (Others : List PlayerRun → Type 0) → (sight.account.player ≡ player → ⊥) → ((runs : List PlayerRun) → Others runs → site_count world player + count_by Wants (intents_of runs) ≤ most_sites)
        → (runs : List PlayerRun) → BeginWith bytes sight Others runs → site_count world player + count_by Wants (intents_of runs) ≤ most_sites
    begin_other None sight Others apart go runs so = go runs so
    begin_other (Some bytes) sight Others apart go runs so =
        let own = recursion_from_All (λ (entry : Intent). entry.player ≡ sight.account.player) so.0.intents (emitted_own so.3.0 sight so.0 so.3.2) in
        let first = others_want_none sight.account.player apart so.0.intents own in
        let rest = go so.1 so.4 in
        let sum = ap (λ (r : List PlayerRun). count_by Wants (intents_of r)) so.2 ∙ count_append so.0.intents (intents_of so.1) in
        omega (arith, first, rest, sum)

    -- A player's sites and his entries for new ones are no more than he may have.
    pub runs_few : (accounts : List Account) → AreRising accounts → site_count world player ≤ most_sites → (runs : List PlayerRun) → AreRuns world modules accounts runs → site_count world player + count_by Wants (intents_of runs) ≤ most_sites
    runs_few [] rising few runs ran =
        let none : count_by Wants (intents_of runs) ≡ 0 = ap (λ (r : List PlayerRun). count_by Wants (intents_of r)) ran in
        omega (arith, few, none)
    runs_few (account ∷ later) rising few runs ran =
        elim (account.player == player) as (λ b. (account.player == player) ≡ b → site_count world player + count_by Wants (intents_of runs) ≤ most_sites) [
          | true ↦ λ is.
              let own : account.player ≡ player = eqb-true account.player player is in
              begin_own (get modules account.player) account (AreRuns world modules later) (subst (λ (n : ℕ). site_count world n ≤ most_sites) (sym own) few) own
              (none_of_others later (subst (λ (n : ℕ). AllByRecursion (λ account. n < account.player) later) own rising.0)) runs ran
          | false ↦ λ off. begin_other (get modules account.player) (sight_of world account) (AreRuns world modules later) (λ own. (let is = eq-eqb account.player player own in cc)) (runs_few later rising.1 few) runs ran
        ] refl
