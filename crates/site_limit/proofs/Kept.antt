-- A tick keeps the limit of sites.
use Rattle.std.proofs.Common.{◌≡◌, ℕ, ◌+◌, ◌≤◌, Bool, List, ◌++◌, length, map, inl, inr, sym, subst, ◌∙◌, arith, length-append}
use Rattle.std.proofs.lemmas.Bool.{cases_lt}
use Rattle.std.specs.List.{count_by, filter}
use Rattle.std.specs.Cmp.{nat_cmp_total}
use Rattle.std.specs.FinMap.{entries, get-entries, get-from_entries}
use Rattle.game_tables.specs.Limits.{most_sites}
use Rattle.object_store.specs.declared.account.Account.{Account}
use Rattle.object_store.specs.Stored.{Stored}
use Rattle.intent_book.specs.declared.player_run.PlayerRun.{PlayerRun}
use Rattle.upload_stream.specs.Streams.{Upload}
use Rattle.tick_journal.specs.declared.entries.UploadEntry.{UploadEntry}
use Rattle.visible_view.specs.Sights.{site_count}
use Rattle.world_rules.specs.Rules.{IsPlayer}
use Rattle.world_rules.specs.Sound.{IsSound}
use Rattle.world_rules.specs.Tick.{intents_of, next_world}
use Rattle.world_rules.specs.World.{Placed, World, listing_of, placed, world_of}
use Rattle.world_rules.specs.declared.rule.Rule.TheVariants.{IdTwice}
use Rattle.room_commutes.proofs.Keyed.{keyed_stored}
use Rattle.room_commutes.proofs.Members.{Has, filter_has, has_found, has_map}
use Rattle.hosted_tick.specs.Hosting.{Held, state_of}
use Rattle.hosted_tick.specs.Next.{AreRuns, Next, account_list}
use Rattle.hosted_tick.proofs.Accounts.{accounts_listed}
use Rattle.site_limit.specs.FewSites.{HaveFewSites, is_site_of}
use Rattle.site_limit.proofs.Accounts.{players_stay}
use Rattle.site_limit.proofs.Counted.{few_keys, found_pair, length_keys, map_at_most, once_where}
use Rattle.site_limit.proofs.Emitted.{runs_few}
use Rattle.site_limit.proofs.Entered.{ruled_within}
use Rattle.site_limit.proofs.Worlds.{AllFitIn}

abbrev HasSite : ℕ → ℕ × Placed → Bool
HasSite player entry = is_site_of player entry.1.object

module _ (player : ℕ) where
  -- the ids of the player's sites
  abbrev places_of : World → List ℕ
  places_of world = map (λ e. e.0) (filter (HasSite player) (entries world.objects))

  -- In a stored world they stand under these.
  fit_before : (stored : Stored) → AllFitIn player (places_of (world_of stored)) (world_of stored)
  fit_before stored id found is =
      let own : found.object.id ≡ id = keyed_stored stored id found is in (
        own,
        λ site. subst (Has (places_of (world_of stored))) (sym own)
            (has_map (λ (e : ℕ × Placed). e.0) (filter (HasSite player) (entries (world_of stored).objects)) (id, found)
            (filter_has (HasSite player) (entries (world_of stored).objects) (id, found) (found_pair (entries (world_of stored).objects) id found (sym (get-entries (world_of stored).objects id) ∙ is)) site)),
      )

  listed_at_most : (stored : Stored) → site_count (world_of stored) player ≤ count_by (HasSite player) (placed (listing_of stored))
  listed_at_most stored = map_at_most (HasSite player) (placed (listing_of stored))

  -- Where all sites stand under these, no more are listed.
  few_listed : (stored : Stored) → IsSound stored → (places : List ℕ) → AllFitIn player places (world_of stored) → count_by (HasSite player) (placed (listing_of stored)) ≤ length places
  few_listed stored sound places fit =
      let listed : List (ℕ × Placed) = placed (listing_of stored) in
      let once = once_where listed (λ n twice. sound.rules IdTwice n (λ e. cc) (λ e. cc) twice) in
      few_keys (HasSite player) listed places once (λ e has is.
      let fits = fit e.0 e.1 (get-from_entries nat_cmp_total listed e.0 ∙ has_found listed once e has) in
      subst (Has places) fits.0 (fits.1 is))

  module _ (before after : Held) (runs : List PlayerRun) (sound : IsSound before.world) (well : IsSound after.world) (ran : AreRuns (world_of before.world) (state_of after).modules (account_list (world_of before.world)) runs)
      (ruled_so : world_of after.world ≡ next_world (world_of before.world) runs) where
    few_after : site_count (world_of before.world) player ≤ most_sites → count_by (HasSite player) (placed (listing_of after.world)) ≤ most_sites
    few_after few =
        let world : World = world_of before.world in
        let within = ruled_within player (places_of world) world (intents_of runs) (fit_before before.world) in
        let list = within.more ++ places_of world in
        let fit : AllFitIn player list (world_of after.world) = subst (AllFitIn player list) (sym ruled_so) within.fit in
        let listed = few_listed after.world well list fit in
        let own : AreRuns world (state_of after).modules before.world.accounts runs = subst (λ (accounts : List Account). AreRuns world (state_of after).modules accounts runs) (accounts_listed before.world sound.accounts) ran in
        let wanted = runs_few player world (state_of after).modules before.world.accounts sound.accounts few runs own in
        let less = within.few in
        let sum = length-append within.more (places_of world) in
        let same : length (places_of world) ≡ site_count world player = length_keys (HasSite player) (entries world.objects) in
        omega (arith, listed, wanted, less, sum, same)

-- The tick keeps the rule.
pub limit_kept : (before after : Held) (uploads : List Upload) (records : List UploadEntry) (runs : List PlayerRun) → IsSound before.world → IsSound after.world
    → Next (state_of before) uploads records runs (state_of after) → HaveFewSites before.world → HaveFewSites after.world
limit_kept before after uploads records runs sound well next few player broken =
    let was : IsPlayer (world_of before.world) player = players_stay before.world after.world runs next.ruled player broken.0 in
    let more = broken.1 in
    elim (cases_lt most_sites (count_by (HasSite player) (placed (listing_of before.world)))) [
      | inl many ↦ few player (was, many)
      | inr at_most ↦
          let counted = listed_at_most player before.world in
          let less = few_after player before after runs sound well next.emitted next.ruled (omega (arith, counted, at_most)) in
          absurd (omega (arith, more, less))
    ]
