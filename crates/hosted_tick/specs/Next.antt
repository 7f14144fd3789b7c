-- One tick of a world with players: the uploads are judged, each player with a module runs it on what he sees
-- of the world as it stands, and what the runs want is ruled.
use Rattle.std.specs.Prelude.{◌≡◌, ℕ, List, [], ◌∷◌, map, Option, Some, None}
use Rattle.std.specs.Ordering.{nat_cmp}
use Rattle.std.specs.FinMap.{FinMap, get, insert, entries}
use Rattle.object_store.specs.declared.account.Account.{Account}
use Rattle.intent_book.specs.Refusals.{refusal_number}
use Rattle.intent_book.specs.declared.player_run.PlayerRun.{PlayerRun}
use Rattle.intent_book.specs.declared.refusal.Refusal.{Refusal}
use Rattle.intent_book.specs.declared.refusal.Refusal.TheVariants.{UnknownPlayer}
use Rattle.world_rules.specs.Rules.{IsPlayer}
use Rattle.world_rules.specs.Tick.{next_world}
use Rattle.world_rules.specs.World.{World}
use Rattle.visible_view.specs.Sights.{Sight, sight_of}
use Rattle.upload_stream.specs.Streams.{Upload}
use Rattle.judged_uploads.specs.Judging.{judged_entry}
use Rattle.player_run.specs.Admission.{IsAccepted, IsRefused}
use Rattle.player_run.specs.Emitted.{Emits}
use Rattle.tick_journal.specs.declared.entries.UploadEntry.{UploadEntry}

-- the bytes of each player's module
abbrev pub Modules : Type 0
Modules = FinMap nat_cmp (List ℕ)

-- a world, and the modules of its players
pub record State : Type 0 where
  pub world : World
  pub modules : Modules

-- ---- uploads

-- What becomes of an upload: nobody has an account of its player; or somebody has, and its bytes are refused,
-- or accepted.
abbrev pub IsResult : World → Upload → Option Refusal → Type 0
IsResult world upload None = IsPlayer world upload.player × IsAccepted upload.bytes
IsResult world upload (Some UnknownPlayer) = ¬ IsPlayer world upload.player
IsResult world upload (Some refusal) = IsPlayer world upload.player × IsRefused upload.bytes refusal

-- An accepted module becomes its player's; a refused one leaves things as they were.
abbrev pub modules_after : Modules → Upload → Option Refusal → Modules
modules_after modules upload None = insert modules upload.player upload.bytes
modules_after modules upload (Some refusal) = modules

abbrev pub result_number : Option Refusal → ℕ
result_number None = 0
result_number (Some refusal) = refusal_number refusal

-- what is recorded of an upload with its result
abbrev pub entry_of : Upload → Option Refusal → UploadEntry
entry_of upload result = judged_entry upload (result_number result)

-- Uploads are judged one after the other, and so the later of two modules of a player is his.
abbrev pub AreJudged : World → Modules → List Upload → Modules → List UploadEntry → Type 0
AreJudged world modules [] after records = (after ≡ modules) × (records ≡ [])
AreJudged world modules (upload ∷ later) after records =
    (result : Option Refusal) × (rest : List UploadEntry) × IsResult world upload result
    × (records ≡ entry_of upload result ∷ rest)
    × AreJudged world (modules_after modules upload result) later after rest

-- ---- runs

-- A player with a module of these bytes has the first run, which is what it emits of what he sees; one
-- without has none.
abbrev pub BeginWith : Option (List ℕ) → Sight → (List PlayerRun → Type 0) → List PlayerRun → Type 0
BeginWith None sight Others runs = Others runs
BeginWith (Some bytes) sight Others runs =
    (run : PlayerRun) × (others : List PlayerRun) × (runs ≡ run ∷ others) × Emits bytes sight run
    × Others others

-- The runs are those of the players of these accounts, each on the same world.
abbrev pub AreRuns : World → Modules → List Account → List PlayerRun → Type 0
AreRuns world modules [] runs = runs ≡ []
AreRuns world modules (account ∷ later) runs =
    BeginWith (get modules account.player) (sight_of world account) (AreRuns world modules later) runs

-- the accounts of a world in rising player
abbrev pub account_list : World → List Account
account_list world = map (λ entry. entry.1) (entries world.accounts)

-- ---- the tick

-- A tick with these uploads, of which this is recorded, and these runs leads from one state to the other.
pub record Next (before : State) (uploads : List Upload) (records : List UploadEntry) (runs : List PlayerRun)
    (after : State) : Type 0 where
  pub judged : AreJudged before.world before.modules uploads after.modules records
  pub emitted : AreRuns before.world after.modules (account_list before.world) runs
  pub ruled : after.world ≡ next_world before.world runs
