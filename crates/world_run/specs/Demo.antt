-- What `demo SEED ROOMS TICKS` prints.
use Rattle.std.specs.Prelude.{◌≡◌, ℕ, ◌+◌, ◌<◌, ◌⊎◌, List, [], ◌++◌, length, Option, Some, slice_get, codes}
use Rattle.std.specs.Prelude.{decimal}
use Rattle.std.specs.FinMap.{empty}
use Rattle.std.specs.Io.KnownBytes.{Appends}
use Rattle.byte_fields.specs.Front.{SpellsShortest}
use Rattle.wasm_module.specs.Sections.{Spells}
use Rattle.hosted_tick.specs.Next.{State}
use Rattle.world_gen.specs.Generator.{generated}
use Rattle.world_gen.specs.PlayerModule.{player_module}
use Rattle.world_gen.specs.Uploads.{uploads}
use Rattle.world_io.specs.Told.{AppendsPrefix}
use Rattle.world_journal.specs.Journals.{IsWholeJournal}
use Rattle.world_rules.specs.World.{World, world_of}
use Rattle.world_replay.specs.Listed.{listed}
use Rattle.world_replay.specs.Serials.{IsExhausted}
use Rattle.world_run.specs.Runs.{Follow, Step, last_of, output, recorded_of}
use Rattle.run_status.specs.declared.status.Status.{Status}
use Rattle.run_status.specs.declared.status.Status.TheVariants as statuses

-- ---- the run

-- The text is that of the players' module in its shortest form.
abbrev pub IsPlayerText : List ℕ → Type 0
IsPlayerText text = SpellsShortest Spells text player_module

-- the world of a seed and so many rooms
abbrev pub made_world : ℕ → ℕ → World
made_world seed rooms = world_of (generated seed rooms)

-- that world, in which no player has a module yet
abbrev pub made_state : ℕ → ℕ → State
made_state seed rooms = record { world = made_world seed rooms; modules = empty }

-- These are ticks of that world, for the first of which each player uploads the players' module.
pub record AreMadeTicks (seed rooms : ℕ) (steps : List Step) : Type 0 where
  pub text : List ℕ
  pub is_text : IsPlayerText text
  pub follow : Follow (uploads text rooms) (made_state seed rooms) steps

-- ---- what is printed of it

-- The line is the last of a text: it begins the text or stands behind a line feed, and has none but at its
-- end.
pub record IsLastLine (line text : List ℕ) : Type 0 where
  pub earlier : List ℕ
  pub split : text ≡ earlier ++ line
  pub begins : (earlier ≡ []) ⊎ ((front : List ℕ) × (earlier ≡ front ++ codes "\n"))
  pub one : (place : ℕ) → slice_get line place ≡ Some 10 → place + 1 ≡ length line

-- The text is the last line that a run prints of so many ticks, and the length of its journal.
pub record IsDemonstrated (seed rooms ticks : ℕ) (text : List ℕ) : Type 0 where
  pub steps : List Step
  pub made : AreMadeTicks seed rooms steps
  pub count : length steps ≡ ticks
  pub line : List ℕ
  pub last : IsLastLine line (output (made_world seed rooms) steps)
  pub journal : List ℕ
  pub whole : IsWholeJournal (listed (made_world seed rooms)) (recorded_of steps) journal
  pub text_is : text ≡ line ++ codes "journal " ++ decimal (length journal) ++ codes "\n"

-- Behind fewer ticks this room is the first that has used up its serials.
pub record UsesUp (seed rooms ticks index : ℕ) : Type 0 where
  pub steps : List Step
  pub made : AreMadeTicks seed rooms steps
  pub fewer : length steps < ticks
  pub exhausted : IsExhausted (last_of (made_state seed rooms) steps).world index

-- ---- how a demo ends, by its status

-- There is no text, and this is why.
abbrev pub IsNotDemonstrated : ℕ → ℕ → ℕ → Status → Type 0
IsNotDemonstrated seed rooms ticks (statuses.IdsExhausted index) = UsesUp seed rooms ticks index
IsNotDemonstrated seed rooms ticks statuses.Memory = Unit {0}
IsNotDemonstrated seed rooms ticks status = ⊥

-- Of what the sink was given before and after it:
abbrev pub EndsDemonstrating : ℕ → ℕ → ℕ → Option (List ℕ) → Option (List ℕ) → Status → Type 0
-- The text was written.
EndsDemonstrating seed rooms ticks old new statuses.Done =
    (text : List ℕ) × IsDemonstrated seed rooms ticks text × Appends old new text
-- A prefix of it was written.
EndsDemonstrating seed rooms ticks old new statuses.WriteFault =
    (text : List ℕ) × IsDemonstrated seed rooms ticks text × AppendsPrefix old new text
-- Else nothing was written.
EndsDemonstrating seed rooms ticks old new status = IsNotDemonstrated seed rooms ticks status × (new ≡ old)
