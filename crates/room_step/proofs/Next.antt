-- A tick of what is stored, room by room, with its accounts after the runs, is the next world.
use Rattle.std.proofs.Common.{◌≡◌, List, length, map, refl, sym, ap, ◌∙◌}
use Rattle.intent_book.specs.declared.intent.Intent.{Intent}
use Rattle.intent_book.specs.declared.player_run.PlayerRun.{PlayerRun}
use Rattle.object_store.specs.declared.account.Account.{Account}
use Rattle.object_store.specs.Stored.{Stored}
use Rattle.world_rules.specs.World.{World, world_of}
use Rattle.world_rules.specs.Crossings.{crossed, crossed_over}
use Rattle.world_rules.specs.Sound.{IsSound}
use Rattle.world_rules.specs.Tick.{account_after, book, gained, intents_of, next_world, run_of}
use Rattle.world_rules.proofs.Orderly.{book_orderly}
use Rattle.room_commutes.specs.Schedules.{Event, IsFull, after}
use Rattle.room_commutes.proofs.Births.{rooms_stored, used_stored}
use Rattle.room_commutes.proofs.Schedule.{schedule_ruled}
use Rattle.exit_crossing.specs.declared.leaving.Crosser.{Crosser}
use Rattle.ruled_tick.specs.inner.Ticked.{IsRuledRooms}
use Rattle.ruled_tick.proofs.Next.{after_rooms, earned_is, gone_accounts, is_ruled, later_is}
use Rattle.room_step.specs.inner.Rooms.{accounted}
use Rattle.room_step.proofs.Accounted.{accounted-player, after-player}

module _ (w : Stored) (sound : IsSound w) (runs : List PlayerRun) (next : Stored) (crossers : List Crosser) (r : IsRuledRooms w (λ intents. intents ≡ intents_of runs) next crossers) (pushed later : Stored)
    (is : pushed ≡ record next { accounts = map (accounted (gained book (world_of w) (intents_of runs)) runs) w.accounts })
    (crossing : world_of later ≡ crossed_over (map (λ crosser. crosser.id) crossers) (world_of pushed)) where
  abbrev Tells : List Intent → Type 0
  Tells intents = intents ≡ intents_of runs

  abbrev f : Account → Account
  f = accounted (gained book (world_of w) (intents_of runs)) runs

  same : (account : Account) → (f account).player ≡ account.player
  same = accounted-player (gained book (world_of w) (intents_of runs)) runs

  pub next_is : world_of later ≡ next_world (world_of w) runs
  next_is =
      later_is w Tells sound next crossers r f same pushed is later crossing
      ∙ earned_is (λ gain player account. account_after gain account (run_of player runs)) (λ gain account. after-player gain account (run_of account.player runs)) w (after_rooms w Tells sound next crossers r f same pushed is) (intents_of runs) sound
      (gone_accounts w Tells sound next crossers r f same pushed is)
      (is_ruled w Tells sound next crossers r f same pushed is (intents_of runs) refl)

  -- Its rooms are those of any full schedule.
  pub scheduled : (events : List Event) → IsFull events (length w.rooms) → record (world_of later) { accounts = (world_of w).accounts } ≡ after book crossed (world_of w) (intents_of runs) events
  scheduled events full =
      let rooms : World = after_rooms w Tells sound next crossers r f same pushed is in
      ap (λ (world : World). record world { accounts = (world_of w).accounts }) (later_is w Tells sound next crossers r f same pushed is later crossing)
      ∙ (λ i. record rooms { accounts = sym (gone_accounts w Tells sound next crossers r f same pushed is) i })
      ∙ is_ruled w Tells sound next crossers r f same pushed is (intents_of runs) refl
      ∙ sym (schedule_ruled book book_orderly (world_of w) (used_stored w sound) (intents_of runs) (length w.rooms) (rooms_stored w) events full crossed)
