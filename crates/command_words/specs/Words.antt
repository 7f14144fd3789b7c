-- The words of a call, as `clap` reads them.
use Rattle.std.specs.Prelude.{◌≡◌, ℕ, ◌≤◌, ◌<◌, ◌^◌, ◌⊎◌, List, [], ◌∷◌, Option, None, Some, codes}
use Rattle.clap.specs.Walk.{Row, Text, first_of}
use Rattle.clap.specs.Simple.{matches_of}
use Rattle.clap.specs.Faults.{fault_of}
use Rattle.clap.specs.Kinds.{Kinds}
use Rattle.command_words.specs.Numbers.{IsNumber}
use Rattle.command_words.specs.Choices.{Choice, command_of, run, check, replay, show, gen, demo, serve}
use Rattle.command_words.specs.declared.command.GenPart.{GenPart}
use Rattle.command_words.specs.declared.command.GenPart.TheVariants.{World, Uploads}

-- ---- the words of a choice

-- the faults that `clap` finds in the words of a choice: none where it takes them
unfoldable pub faults_in : Choice → List Text → Kinds
faults_in choice words = fault_of (command_of choice) words

-- what `clap` makes of the words: a row for each argument
unfoldable pub rows_in : Choice → List Text → List Row
rows_in choice words = matches_of (command_of choice) words

-- The first word is that of the choice, and `clap` takes the rest.
pub record IsTaken (choice : Choice) (words : List Text) : Type 0 where
  pub rest : List Text
  pub chosen : words ≡ choice.word ∷ rest
  pub faultless : faults_in choice words ≡ []

-- the value of the argument of this name
abbrev pub value_of : Choice → List Text → Text → Option Text
value_of choice words name = first_of name (rows_in choice words)

-- The argument of this name has this value.
abbrev pub Gives : Choice → List Text → Text → Text → Type 0
Gives choice words name value = value_of choice words name ≡ Some value

-- The argument of this name has a value that spells this number.
abbrev pub GivesNumber : Choice → List Text → Text → ℕ → Type 0
GivesNumber choice words name n = (text : Text) × Gives choice words name text × IsNumber text n

-- ---- `run WORLD UPLOADS JOURNAL --ticks N --workers K`

-- The value of an option says so many workers, 1 to 16; where the option is left out, it is one.
abbrev pub AreWorkers : Option Text → ℕ → Type 0
AreWorkers None workers = workers ≡ 1
AreWorkers (Some text) workers = IsNumber text workers × (1 ≤ workers) × (workers ≤ 16)

-- The words are those of a run of at most 1,000,000 ticks, with these paths, by so many workers.
pub record IsRun (words : List Text) (world uploads journal : Text) (ticks workers : ℕ) : Type 0 where
  pub taken : IsTaken run words
  pub world_is : Gives run words (codes "WORLD") world
  pub uploads_is : Gives run words (codes "UPLOADS") uploads
  pub journal_is : Gives run words (codes "JOURNAL") journal
  pub number : Text
  pub number_is : Gives run words (codes "ticks") number
  pub spells : IsNumber number ticks
  pub limit : ticks ≤ 1000000
  pub workers_are : AreWorkers (value_of run words (codes "workers")) workers

-- The words are those of a run.
abbrev pub AreRun : List Text → Type 0
AreRun words =
    (world : Text) × (uploads : Text) × (journal : Text) × (ticks : ℕ) × (workers : ℕ)
    × IsRun words world uploads journal ticks workers

-- The words are those of a run of so many ticks, by at most so many workers.
abbrev pub Asks : ℕ → List Text → ℕ → Type 0
Asks most words ticks =
    (world : Text) × (uploads : Text) × (journal : Text) × (workers : ℕ)
    × IsRun words world uploads journal ticks workers × (workers ≤ most)

-- The words are those of a run by at most so many workers.
abbrev pub AreRunBy : ℕ → List Text → Type 0
AreRunBy most words = (ticks : ℕ) × Asks most words ticks

-- The words are those of a run of so many ticks or more, by at most so many workers.
abbrev pub AsksAtLeast : ℕ → List Text → ℕ → Type 0
AsksAtLeast most words done = (ticks : ℕ) × (done ≤ ticks) × Asks most words ticks

-- ---- `serve WORLD JOURNAL --ticks N --links M --port P --workers K --pace MS`

-- The value of an option says a pause of so many milliseconds, at most 60,000; where the option is left out,
-- there is none.
abbrev pub IsPace : Option Text → ℕ → Type 0
IsPace None pace = pace ≡ 0
IsPace (Some text) pace = IsNumber text pace × (pace ≤ 60000)

-- The words are those of serving at most 1,000,000 ticks and at most 1,000,000 links at a port from 1 to
-- 65,535, with these paths, by so many workers, with this pause before each tick.
pub record IsServe (words : List Text) (world journal : Text) (ticks links port workers pace : ℕ)
    : Type 0 where
  pub taken : IsTaken serve words
  pub world_is : Gives serve words (codes "WORLD") world
  pub journal_is : Gives serve words (codes "JOURNAL") journal
  pub ticks_are : GivesNumber serve words (codes "ticks") ticks
  pub ticks_limit : ticks ≤ 1000000
  pub links_are : GivesNumber serve words (codes "links") links
  pub links_limit : links ≤ 1000000
  pub port_is : GivesNumber serve words (codes "port") port
  pub port_limits : (1 ≤ port) × (port ≤ 65535)
  pub workers_are : AreWorkers (value_of serve words (codes "workers")) workers
  pub pace_is : IsPace (value_of serve words (codes "pace")) pace

-- The words are those of serving.
abbrev pub AreServe : List Text → Type 0
AreServe words =
    (world : Text) × (journal : Text) × (ticks : ℕ) × (links : ℕ) × (port : ℕ) × (workers : ℕ) × (pace : ℕ)
    × IsServe words world journal ticks links port workers pace

-- The words are those of serving so many ticks.
abbrev pub AsksToServe : List Text → ℕ → Type 0
AsksToServe words ticks =
    (world : Text) × (journal : Text) × (links : ℕ) × (port : ℕ) × (workers : ℕ) × (pace : ℕ)
    × IsServe words world journal ticks links port workers pace

-- The words are those of serving so many ticks or more.
abbrev pub AsksToServeAtLeast : List Text → ℕ → Type 0
AsksToServeAtLeast words done = (ticks : ℕ) × (done ≤ ticks) × AsksToServe words ticks

-- ---- `check MODULE`

-- The words are those of a check of the module at this path.
pub record IsCheck (words : List Text) (path : Text) : Type 0 where
  pub taken : IsTaken check words
  pub path_is : Gives check words (codes "MODULE") path

-- The words are those of a check.
abbrev pub AreCheck : List Text → Type 0
AreCheck words = (path : Text) × IsCheck words path

-- ---- `replay JOURNAL`

-- The words are those of a replay of the journal at this path.
pub record IsReplay (words : List Text) (path : Text) : Type 0 where
  pub taken : IsTaken replay words
  pub path_is : Gives replay words (codes "JOURNAL") path

-- The words are those of a replay.
abbrev pub AreReplay : List Text → Type 0
AreReplay words = (path : Text) × IsReplay words path

-- ---- `show JOURNAL TICK`

-- The words ask for the world of this tick of the journal at this path.
pub record IsShow (words : List Text) (path : Text) (tick : ℕ) : Type 0 where
  pub taken : IsTaken show words
  pub path_is : Gives show words (codes "JOURNAL") path
  pub tick_is : GivesNumber show words (codes "TICK") tick
  pub limit : tick < 2 ^ 64

-- The words are those of the showing of a tick.
abbrev pub AreShow : List Text → Type 0
AreShow words = (path : Text) × (tick : ℕ) × IsShow words path tick

-- The words ask for the world of this tick.
abbrev pub AsksFor : List Text → ℕ → Type 0
AsksFor words tick = (path : Text) × IsShow words path tick

-- ---- `gen SEED ROOMS PART`

-- the word of a part
abbrev pub part_word : GenPart → Text
part_word World = codes "world"
part_word Uploads = codes "uploads"

-- There are as many rooms as a generated world may have.
abbrev pub AreRooms : ℕ → Type 0
AreRooms rooms = (1 ≤ rooms) × (rooms ≤ 400)

-- The words ask for this part of the world of a seed and so many rooms.
pub record IsGen (words : List Text) (seed rooms : ℕ) (part : GenPart) : Type 0 where
  pub taken : IsTaken gen words
  pub seed_is : GivesNumber gen words (codes "SEED") seed
  pub seed_limit : seed < 2 ^ 64
  pub rooms_is : GivesNumber gen words (codes "ROOMS") rooms
  pub rooms_limits : AreRooms rooms
  pub part_is : Gives gen words (codes "PART") (part_word part)

-- The words are those of a gen.
abbrev pub AreGen : List Text → Type 0
AreGen words = (seed : ℕ) × (rooms : ℕ) × (part : GenPart) × IsGen words seed rooms part

-- ---- `demo SEED ROOMS TICKS`

-- The words ask for so many ticks of the world of a seed and so many rooms.
pub record IsDemo (words : List Text) (seed rooms ticks : ℕ) : Type 0 where
  pub taken : IsTaken demo words
  pub seed_is : GivesNumber demo words (codes "SEED") seed
  pub seed_limit : seed < 2 ^ 64
  pub rooms_is : GivesNumber demo words (codes "ROOMS") rooms
  pub rooms_limits : AreRooms rooms
  pub ticks_is : GivesNumber demo words (codes "TICKS") ticks
  pub limit : ticks ≤ 1000000

-- The words are those of a demo.
abbrev pub AreDemo : List Text → Type 0
AreDemo words = (seed : ℕ) × (rooms : ℕ) × (ticks : ℕ) × IsDemo words seed rooms ticks

-- ---- all commands that keep nothing

-- The words are those of a check, of a gen, of a demo, of a show or of a replay.
abbrev pub AreOfTool : List Text → Type 0
AreOfTool words = AreCheck words ⊎ AreGen words ⊎ AreDemo words ⊎ AreShow words ⊎ AreReplay words
