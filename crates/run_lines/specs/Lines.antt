-- The lines that a run prints.
use Rattle.std.specs.Prelude.{ℕ, List, [], ◌++◌, ◌==◌, if◌then◌else◌, length, decimal, codes, option_map}
use Rattle.std.specs.Prelude.{unwrap_or}
use Rattle.std.specs.List.{flat_map, sum_by}
use Rattle.object_store.specs.Stored.{Stored}
use Rattle.intent_book.specs.Refusals.{refusal_name, refusal_of}
use Rattle.intent_book.specs.declared.player_run.PlayerRun.{PlayerRun}
use Rattle.intent_book.specs.declared.player_run.RunOutcome.{RunOutcome}
use Rattle.intent_book.specs.declared.player_run.RunOutcome.TheVariants.{Finished, Trapped, Spent}
use Rattle.world_rules.specs.Tick.{intents_of}
use Rattle.world_rules.specs.World.{placed, listing_of}
use Rattle.tick_journal.specs.declared.entries.UploadEntry.{UploadEntry}

-- the number of objects of a world
abbrev pub object_count : Stored → ℕ
object_count world = length (placed (listing_of world))

-- the energy of all objects of a world
abbrev pub total_energy : Stored → ℕ
total_energy world = sum_by (λ entry. entry.1.object.energy) (placed (listing_of world))

-- at the start of a run
unfoldable pub start_line : Stored → List ℕ
start_line world =
    codes "start tick " ++ decimal world.tick
    ++ codes " rooms " ++ decimal (length world.rooms)
    ++ codes " objects " ++ decimal (object_count world)
    ++ codes " players " ++ decimal (length world.accounts) ++ codes "\n"

-- the result of an upload, by its number
unfoldable pub result_text : ℕ → List ℕ
result_text number =
    if number == 0 then codes "accepted"
    else unwrap_or (option_map (λ refusal. codes "refused " ++ refusal_name refusal) (refusal_of number)) []

-- for each upload of a tick
unfoldable pub upload_line : UploadEntry → List ℕ
upload_line entry =
    codes "upload player " ++ decimal entry.player ++ codes " " ++ result_text entry.result_number
    ++ codes "\n"

-- how a run ended
unfoldable pub outcome_text : RunOutcome → List ℕ
outcome_text Finished = codes "finished"
outcome_text (Trapped trap) = codes "trapped"
outcome_text Spent = codes "spent"

-- for each run of a tick, with the instructions that it used
unfoldable pub run_line : PlayerRun → List ℕ
run_line run =
    codes "player " ++ decimal run.player ++ codes " " ++ outcome_text run.outcome ++ codes " "
    ++ decimal run.used ++ codes "\n"

-- after a tick, with the numbers of the new world and of the intents that were recorded
unfoldable pub tick_line : Stored → ℕ → List ℕ
tick_line world intents =
    codes "tick " ++ decimal world.tick
    ++ codes " objects " ++ decimal (object_count world)
    ++ codes " intents " ++ decimal intents
    ++ codes " energy " ++ decimal (total_energy world) ++ codes "\n"

-- all lines of a tick, by its uploads, its runs, and the world after it
abbrev pub tick_lines : List UploadEntry → List PlayerRun → Stored → List ℕ
tick_lines uploads runs world =
    flat_map upload_line uploads ++ flat_map run_line runs ++ tick_line world (length (intents_of runs))
