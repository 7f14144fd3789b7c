-- What a tick makes of a world that is held.
use Rattle.std.proofs.Common.{◌≡◌, ℕ, ◌≤◌, List, map, length, sym, ap, subst, arith}
use Rattle.std.specs.List.{AllByRecursion}
use Rattle.std.proofs.lemmas.List.{length-map}
use Rattle.game_tables.specs.Limits.{most_memory}
use Rattle.object_store.specs.declared.account.Account.{Account}
use Rattle.object_store.specs.Stored.{Stored, AreRising}
use Rattle.intent_book.specs.declared.player_run.PlayerRun.{PlayerRun}
use Rattle.world_rules.specs.Sound.{IsSound}
use Rattle.world_rules.specs.Tick.{account_after, next_world, run_of}
use Rattle.world_rules.specs.World.{world_of}
use Rattle.upload_stream.specs.Streams.{Upload}
use Rattle.tick_journal.specs.declared.entries.UploadEntry.{UploadEntry}
use Rattle.hosted_tick.specs.Hosting.{Held, IsHosted, Kept, bytes_of, modules_of, state_of}
use Rattle.hosted_tick.specs.Next.{AreJudged, AreRuns, Next}
use Rattle.hosted_tick.proofs.Accounts.{accounts_listed}
use Rattle.hosted_tick.proofs.Ran.{memories_after}

pub next_of : (held : Held) (world : Stored) (kept after : Kept) (uploads : List Upload) (records : List UploadEntry) (runs : List PlayerRun) (next : Stored)
    → record { world = world; modules = bytes_of kept } ≡ held → IsSound held.world
    → AreJudged (world_of world) (modules_of kept) uploads (modules_of after) records
    → AreRuns (world_of world) (modules_of after) world.accounts runs
    → world_of next ≡ next_world (world_of world) runs
    → Next (state_of held) uploads records runs (state_of (record { world = next; modules = bytes_of after }))
next_of held world kept after uploads records runs next is sound judged ran ruled =
    let rising : AreRising world.accounts = subst (λ (h : Held). AreRising h.world.accounts) (sym is) sound.accounts in
    subst (λ (h : Held). Next (state_of h) uploads records runs (state_of (record { world = next; modules = bytes_of after }))) is (record {
      judged = judged;
      emitted = subst (λ (accounts : List Account). AreRuns (world_of world) (modules_of after) accounts runs) (sym (accounts_listed world rising)) ran;
      ruled = ruled;
    })

pub hosted_after : (world next : Stored) (gain : ℕ → ℕ) (runs : List PlayerRun) → IsHosted world → AllByRecursion (λ run. length run.memory ≤ most_memory) runs → IsSound next → length next.rooms ≡ length world.rooms
    → next.accounts ≡ map (λ (account : Account). account_after (gain account.player) account (run_of account.player runs)) world.accounts → IsHosted next
hosted_after world next gain runs hosted short sound rooms accounts =
    let after : Account → Account = λ account. account_after (gain account.player) account (run_of account.player runs) in
    let many = ap length accounts in
    let same : length (map after world.accounts) ≡ length world.accounts = length-map world.accounts after in
    let few = hosted.players in
    let few_rooms = hosted.rooms in
    record {
      sound = sound;
      rooms = omega (arith, few_rooms, rooms);
      players = omega (arith, few, many, same);
      memories = subst (AllByRecursion (λ (account : Account). length account.memory ≤ most_memory)) (sym accounts) (memories_after gain runs world.accounts short hosted.memories);
    }
