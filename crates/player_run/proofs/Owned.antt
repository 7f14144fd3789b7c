-- A player's record has entries of his own alone.
use Rattle.std.proofs.Common.{◌≡◌, ℕ, not, List, filter, refl, ap, ◌∙◌}
use Rattle.std.proofs.lemmas.List.Elements.{All-filter, All-nil, All-push}
use Rattle.std.proofs.lemmas.List.Sorted.{All-permutation}
use Rattle.intent_book.specs.Records.{AreOf, put_last, same_place}
use Rattle.intent_book.specs.declared.intent.Intent.{Intent}
use Rattle.intent_book.specs.declared.player_run.PlayerRun.{PlayerRun}
use Rattle.visible_view.specs.Sights.{Sight}
use Rattle.wasm_link.specs.Linking.{Link}
use Rattle.host_calls.specs.Desks.{Desk}
use Rattle.host_calls.specs.Replies.{answers}
use Rattle.player_run.specs.Emitted.{EmitsBy}
use Rattle.player_run.proofs.HostKept.{run_keeps}
use Rattle.player_run.proofs.Replied.{Changes, answered, records, same, text}

-- The desk is that of this sight, and its record has entries of the player's alone.
record IsOwn (seen : Sight) (desk : Desk) : Type 0 where
  pub sight : desk.sight ≡ seen
  pub own : AreOf seen.account.player desk.book.entries

put_own : (player : ℕ) (entries : List Intent) (intent : Intent) → intent.player ≡ player → AreOf player entries → AreOf player (put_last entries intent)
put_own player entries intent is own =
    All-push (λ (entry : Intent). entry.player ≡ player) (filter (λ entry. not (same_place intent entry)) entries) intent
    (All-filter (λ entry. not (same_place intent entry)) (λ (entry : Intent). entry.player ≡ player) entries own) is

changed_own : (seen : Sight) (desk later : Desk) → Changes desk later → IsOwn seen desk → IsOwn seen later
changed_own seen desk _ same own = own
changed_own seen desk _ text own = record { sight = own.sight; own = own.own }
changed_own seen desk _ (records {intent = intent} is) own = record {
  sight = own.sight;
  own = put_own seen.account.player desk.book.entries intent (is.own ∙ ap (λ (s : Sight). s.account.player) own.sight) own.own;
}

-- What is emitted is the player's.
pub emitted_own : (link : Link) (sight : Sight) (run : PlayerRun) → EmitsBy link sight run → AreOf sight.account.player run.intents
emitted_own link sight run emits =
    let own : IsOwn sight emits.last.host =
    run_keeps link.program answers (IsOwn sight) (λ host later number args memory after answer is. changed_own sight host later (answered host later number args memory after answer is)) emits.ends
    (record { sight = refl; own = All-nil (λ (entry : Intent). entry.player ≡ sight.account.player) }) in
    All-permutation (λ (entry : Intent). entry.player ≡ sight.account.player) emits.last.host.book.entries run.intents emits.intents.0 own.own
