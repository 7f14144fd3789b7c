-- Words in the order in which the choices are shown.
use Rattle.std.specs.Prelude.{◌≡◌, ◌≢◌, ℕ, ◌≤◌, ◌<◌, ◌^◌, ◌⊎◌, List, [], ◌∷◌, ◌++◌, codes}
use Rattle.clap.specs.Walk.{Text}
use Rattle.command_words.specs.Numbers.{IsNumber}
use Rattle.command_words.specs.Words.{AreRooms, IsRun, IsCheck, IsDemo, IsGen, IsReplay, IsServe, IsShow}
use Rattle.command_words.specs.Words.{part_word}
use Rattle.command_words.specs.declared.command.GenPart.{GenPart}

-- The word doesn't begin with `-`.
abbrev pub IsPlain : Text → Type 0
IsPlain [] = Unit {0}
IsPlain (first ∷ rest) = first ≢ 45

-- The last words are `--workers K`, or there are none, which says one worker.
abbrev pub ShowsWorkers : List Text → ℕ → Type 0
ShowsWorkers words workers =
    ((words ≡ []) × (workers ≡ 1))
    ⊎ ((number : Text) × (words ≡ codes "--workers" ∷ number ∷ []) × IsNumber number workers
    × (1 ≤ workers) × (workers ≤ 16))

-- The words are `run WORLD UPLOADS JOURNAL --ticks N`, one after the other, with `--workers K` or without.
pub record ShowsRun (words : List Text) (world uploads journal : Text) (ticks workers : ℕ) : Type 0 where
  pub number : Text
  pub rest : List Text
  pub order : words ≡ codes "run" ∷ world ∷ uploads ∷ journal ∷ codes "--ticks" ∷ number ∷ rest
  pub by : ShowsWorkers rest workers
  pub world_plain : IsPlain world
  pub uploads_plain : IsPlain uploads
  pub journal_plain : IsPlain journal
  pub spells : IsNumber number ticks
  pub limit : ticks ≤ 1000000

-- The words are `check MODULE`.
pub record ShowsCheck (words : List Text) (path : Text) : Type 0 where
  pub order : words ≡ codes "check" ∷ path ∷ []
  pub path_plain : IsPlain path

-- The words are `replay JOURNAL`.
pub record ShowsReplay (words : List Text) (path : Text) : Type 0 where
  pub order : words ≡ codes "replay" ∷ path ∷ []
  pub path_plain : IsPlain path

-- The words are `show JOURNAL TICK`.
pub record ShowsShow (words : List Text) (path : Text) (tick : ℕ) : Type 0 where
  pub number : Text
  pub order : words ≡ codes "show" ∷ path ∷ number ∷ []
  pub path_plain : IsPlain path
  pub spells : IsNumber number tick
  pub limit : tick < 2 ^ 64

-- The words are `gen SEED ROOMS PART`.
pub record ShowsGen (words : List Text) (seed rooms : ℕ) (part : GenPart) : Type 0 where
  pub seed_text : Text
  pub rooms_text : Text
  pub order : words ≡ codes "gen" ∷ seed_text ∷ rooms_text ∷ part_word part ∷ []
  pub seed_spells : IsNumber seed_text seed
  pub seed_limit : seed < 2 ^ 64
  pub rooms_spells : IsNumber rooms_text rooms
  pub rooms_limits : AreRooms rooms

-- The words are `demo SEED ROOMS TICKS`.
pub record ShowsDemo (words : List Text) (seed rooms ticks : ℕ) : Type 0 where
  pub seed_text : Text
  pub rooms_text : Text
  pub ticks_text : Text
  pub order : words ≡ codes "demo" ∷ seed_text ∷ rooms_text ∷ ticks_text ∷ []
  pub seed_spells : IsNumber seed_text seed
  pub seed_limit : seed < 2 ^ 64
  pub rooms_spells : IsNumber rooms_text rooms
  pub rooms_limits : AreRooms rooms
  pub ticks_spells : IsNumber ticks_text ticks
  pub limit : ticks ≤ 1000000

-- The words are `--pace MS`, or there are none, which says no pause.
abbrev pub ShowsPace : List Text → ℕ → Type 0
ShowsPace words pace =
    ((words ≡ []) × (pace ≡ 0))
    ⊎ ((number : Text) × (words ≡ codes "--pace" ∷ number ∷ []) × IsNumber number pace × (pace ≤ 60000))

-- The words are `serve WORLD JOURNAL --ticks N --links M --port P`, one after the other, with `--workers K`
-- or without, and then with `--pace MS` or without.
pub record ShowsServe (words : List Text) (world journal : Text) (ticks links port workers pace : ℕ)
    : Type 0 where
  pub ticks_text : Text
  pub links_text : Text
  pub port_text : Text
  pub by : List Text
  pub behind : List Text
  pub order : words ≡ codes "serve" ∷ world ∷ journal ∷ codes "--ticks" ∷ ticks_text ∷ codes "--links"
      ∷ links_text ∷ codes "--port" ∷ port_text ∷ (by ++ behind)
  pub by_workers : ShowsWorkers by workers
  pub with_pace : ShowsPace behind pace
  pub world_plain : IsPlain world
  pub journal_plain : IsPlain journal
  pub ticks_spells : IsNumber ticks_text ticks
  pub ticks_limit : ticks ≤ 1000000
  pub links_spells : IsNumber links_text links
  pub links_limit : links ≤ 1000000
  pub port_spells : IsNumber port_text port
  pub port_limits : (1 ≤ port) × (port ≤ 65535)

-- Words as they are shown are those of the command.
pub record TakesShown (words : List Text) : Type 0 where
  pub run_taken : (world uploads journal : Text) (ticks workers : ℕ)
      → ShowsRun words world uploads journal ticks workers → IsRun words world uploads journal ticks workers
  pub check_taken : (path : Text) → ShowsCheck words path → IsCheck words path
  pub replay_taken : (path : Text) → ShowsReplay words path → IsReplay words path
  pub show_taken : (path : Text) (tick : ℕ) → ShowsShow words path tick → IsShow words path tick
  pub gen_taken : (seed rooms : ℕ) (part : GenPart) → ShowsGen words seed rooms part
      → IsGen words seed rooms part
  pub demo_taken : (seed rooms ticks : ℕ) → ShowsDemo words seed rooms ticks → IsDemo words seed rooms ticks
  pub serve_taken : (world journal : Text) (ticks links port workers pace : ℕ)
      → ShowsServe words world journal ticks links port workers pace
      → IsServe words world journal ticks links port workers pace
