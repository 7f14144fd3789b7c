-- The words of a run in the order in which they are shown are taken.
use Rattle.std.proofs.Common.{◌≡◌, ◌≤◌, ◌∙◌, ℕ, List, [], ◌∷◌, ap, ap₂, refl, codes, inl, inr}
use Rattle.std.specs.Prelude.{fold}
use Rattle.clap.specs.Walk.{Row, Text, Walk, finished, first_of, idle, nothing_held, option, walk, walk_from, walked}
use Rattle.clap.specs.Simple.{Shape, built}
use Rattle.clap.specs.Faults.{defaults_fault, walk_fault}
use Rattle.command_words.specs.Choices.{command_of, run}
use Rattle.command_words.specs.Words.{IsRun, faults_in, rows_in}
use Rattle.command_words.specs.Numbers.{IsNumber}
use Rattle.command_words.specs.Shown.{IsPlain, ShowsRun}
use Rattle.command_words.proofs.Parsed.{same_workers}
use Rattle.command_words.proofs.Plain.{between, given, holding, idle_fault, idle_walked, level, more_fault, more_walked, no_more, number_plain, option_fault, option_walked}

-- ---- a run

abbrev run_shape : Shape
run_shape = (built (command_of run)).top

module _ (world uploads journal number : Text) where
  -- the words, and those that may follow
  abbrev run_words : List Text → List Text
  run_words rest = world ∷ uploads ∷ journal ∷ codes "--ticks" ∷ number ∷ rest

  abbrev after_world : Walk
  after_world = between (holding [] (codes "WORLD") (world ∷ [])) idle 2

  abbrev after_uploads : Walk
  after_uploads = between (holding (given (codes "WORLD") world ∷ []) (codes "UPLOADS") (uploads ∷ [])) idle 3

  abbrev two_paths : List Row
  two_paths = given (codes "WORLD") world ∷ given (codes "UPLOADS") uploads ∷ []

  abbrev after_journal : Walk
  after_journal = between (holding two_paths (codes "JOURNAL") (journal ∷ [])) idle 4

  abbrev paths : List Row
  paths =
      given (codes "WORLD") world ∷ given (codes "UPLOADS") uploads ∷ given (codes "JOURNAL") journal ∷ []

  abbrev after_option : Walk
  after_option = between (holding paths (codes "ticks") []) (option (codes "ticks")) 4

  abbrev after_number : Walk
  after_number = between (holding paths (codes "ticks") (number ∷ [])) idle 4

  option_met : walked run_shape.rules [] after_journal (codes "--ticks") ≡ after_option
  unfolding walked
  option_met = refl

  run_walk : (rest : List Text) → IsPlain world → IsPlain uploads → IsPlain journal → IsPlain number
      → walk run_shape.rules [] nothing_held (run_words rest) ≡ fold (walked run_shape.rules []) after_number rest
  run_walk rest a b c d =
      let rules = run_shape.rules in
      more_walked rules (walk_from nothing_held) after_world world
      (uploads ∷ journal ∷ codes "--ticks" ∷ number ∷ rest)
      (idle_walked rules nothing_held 1 world a)
      ∙ (more_walked rules after_world after_uploads uploads (journal ∷ codes "--ticks" ∷ number ∷ rest)
      (idle_walked rules after_world.held 2 uploads b)
      ∙ (more_walked rules after_uploads after_journal journal (codes "--ticks" ∷ number ∷ rest)
      (idle_walked rules after_uploads.held 3 journal c)
      ∙ (more_walked rules after_journal after_option (codes "--ticks") (number ∷ rest) option_met
      ∙ more_walked rules after_option after_number number rest
      (option_walked rules after_option.held (codes "ticks") 4 number d))))

  run_walk_fault : (rest : List Text) → IsPlain world → IsPlain uploads → IsPlain journal → IsPlain number
      → walk_fault run_shape [] after_number rest ≡ []
      → walk_fault run_shape [] (walk_from nothing_held) (run_words rest) ≡ []
  run_walk_fault rest a b c d later =
      let s = run_shape in
      more_fault s (walk_from nothing_held) after_world world
      (uploads ∷ journal ∷ codes "--ticks" ∷ number ∷ rest)
      (idle_fault s nothing_held 1 world a) (idle_walked s.rules nothing_held 1 world a)
      (more_fault s after_world after_uploads uploads (journal ∷ codes "--ticks" ∷ number ∷ rest)
      (idle_fault s after_world.held 2 uploads b) (idle_walked s.rules after_world.held 2 uploads b)
      (more_fault s after_uploads after_journal journal (codes "--ticks" ∷ number ∷ rest)
      (idle_fault s after_uploads.held 3 journal c) (idle_walked s.rules after_uploads.held 3 journal c)
      (more_fault s after_journal after_option (codes "--ticks") (number ∷ rest) refl option_met
      (more_fault s after_option after_number number rest
      (option_fault s after_option.held (codes "ticks") 4 number d)
      (option_walked s.rules after_option.held (codes "ticks") 4 number d)
      later))))

  -- where no words follow
  level_run : level run [] after_number ≡ []
  unfolding defaults_fault
  level_run = refl

  run_faultless : IsPlain world → IsPlain uploads → IsPlain journal → IsPlain number
      → faults_in run (codes "run" ∷ run_words []) ≡ []
  unfolding faults_in
  run_faultless a b c d =
      ap₂ (level run) (run_walk_fault [] a b c d (no_more run_shape after_number)) (run_walk [] a b c d) ∙ level_run

  run_gives : IsPlain world → IsPlain uploads → IsPlain journal → IsPlain number
      → rows_in run (codes "run" ∷ run_words []) ≡ finished run_shape.rules after_number.held
  unfolding rows_in
  run_gives a b c d = ap (λ (w : Walk). finished run_shape.rules w.held) (run_walk [] a b c d)

  -- where the number of workers follows
  module _ (workers : Text) where
    abbrev two_more : List Text
    two_more = codes "--workers" ∷ workers ∷ []

    abbrev and_ticks : List Row
    and_ticks =
        given (codes "WORLD") world ∷ given (codes "UPLOADS") uploads ∷ given (codes "JOURNAL") journal
        ∷ given (codes "ticks") number ∷ []

    abbrev after_second : Walk
    after_second = between (holding and_ticks (codes "workers") []) (option (codes "workers")) 4

    abbrev after_workers : Walk
    after_workers = between (holding and_ticks (codes "workers") (workers ∷ [])) idle 4

    second_met : walked run_shape.rules [] after_number (codes "--workers") ≡ after_second
    unfolding walked
    second_met = refl

    more_walk : IsPlain workers → fold (walked run_shape.rules []) after_number two_more ≡ after_workers
    more_walk e =
        let rules = run_shape.rules in
        more_walked rules after_number after_second (codes "--workers") (workers ∷ []) second_met
        ∙ more_walked rules after_second after_workers workers []
        (option_walked rules after_second.held (codes "workers") 4 workers e)

    more_walk_fault : IsPlain workers → walk_fault run_shape [] after_number two_more ≡ []
    more_walk_fault e =
        let s = run_shape in
        more_fault s after_number after_second (codes "--workers") (workers ∷ []) refl second_met
        (more_fault s after_second after_workers workers []
        (option_fault s after_second.held (codes "workers") 4 workers e)
        (option_walked s.rules after_second.held (codes "workers") 4 workers e)
        (no_more s after_workers))

    level_workers : level run [] after_workers ≡ []
    unfolding defaults_fault
    level_workers = refl

    workers_faultless : IsPlain world → IsPlain uploads → IsPlain journal → IsPlain number → IsPlain workers
        → faults_in run (codes "run" ∷ run_words two_more) ≡ []
    unfolding faults_in
    workers_faultless a b c d e =
        ap₂ (level run) (run_walk_fault two_more a b c d (more_walk_fault e)) (run_walk two_more a b c d ∙ more_walk e)
        ∙ level_workers

    workers_give : IsPlain world → IsPlain uploads → IsPlain journal → IsPlain number → IsPlain workers
        → rows_in run (codes "run" ∷ run_words two_more) ≡ finished run_shape.rules after_workers.held
    unfolding rows_in
    workers_give a b c d e =
        ap (λ (w : Walk). finished run_shape.rules w.held) (run_walk two_more a b c d ∙ more_walk e)

run_alone_shown : (words : List Text) (world uploads journal : Text) (ticks workers : ℕ)
    → (shows : ShowsRun words world uploads journal ticks workers) → shows.rest ≡ [] → workers ≡ 1
    → IsRun words world uploads journal ticks workers
run_alone_shown words world uploads journal ticks workers shows nothing one =
    let number = shows.number in
    let plain = number_plain number shows.spells.digits in
    let order : words ≡ codes "run" ∷ run_words world uploads journal number [] =
    shows.order ∙ ap (λ (rest : List Text). codes "run" ∷ run_words world uploads journal number rest) nothing in
    let rows : rows_in run words ≡ finished run_shape.rules (after_number world uploads journal number).held =
    ap (rows_in run) order
    ∙ run_gives world uploads journal number shows.world_plain shows.uploads_plain shows.journal_plain plain in
    record {
      taken = record {
        rest = run_words world uploads journal number [];
        chosen = order;
        faultless = ap (faults_in run) order
            ∙ run_faultless world uploads journal number shows.world_plain shows.uploads_plain
            shows.journal_plain plain;
      };
      world_is = ap (first_of (codes "WORLD")) rows;
      uploads_is = ap (first_of (codes "UPLOADS")) rows;
      journal_is = ap (first_of (codes "JOURNAL")) rows;
      number = number;
      number_is = ap (first_of (codes "ticks")) rows;
      spells = shows.spells;
      limit = shows.limit;
      workers_are = same_workers (rows_in run words)
          (finished run_shape.rules (after_number world uploads journal number).held) (codes "workers") workers rows one;
    }

run_by_shown : (words : List Text) (world uploads journal : Text) (ticks workers : ℕ)
    → (shows : ShowsRun words world uploads journal ticks workers) → (text : Text)
    → shows.rest ≡ codes "--workers" ∷ text ∷ [] → IsNumber text workers → 1 ≤ workers → workers ≤ 16
    → IsRun words world uploads journal ticks workers
run_by_shown words world uploads journal ticks workers shows text two by some few =
    let number = shows.number in
    let plain = number_plain number shows.spells.digits in
    let plain_too = number_plain text by.digits in
    let rest = codes "--workers" ∷ text ∷ [] in
    let order : words ≡ codes "run" ∷ run_words world uploads journal number rest =
    shows.order ∙ ap (λ (rest : List Text). codes "run" ∷ run_words world uploads journal number rest) two in
    let rows : rows_in run words ≡ finished run_shape.rules (after_workers world uploads journal number text).held =
    ap (rows_in run) order
    ∙ workers_give world uploads journal number text shows.world_plain shows.uploads_plain shows.journal_plain plain
    plain_too in
    record {
      taken = record {
        rest = run_words world uploads journal number rest;
        chosen = order;
        faultless = ap (faults_in run) order
            ∙ workers_faultless world uploads journal number text shows.world_plain shows.uploads_plain
            shows.journal_plain plain plain_too;
      };
      world_is = ap (first_of (codes "WORLD")) rows;
      uploads_is = ap (first_of (codes "UPLOADS")) rows;
      journal_is = ap (first_of (codes "JOURNAL")) rows;
      number = number;
      number_is = ap (first_of (codes "ticks")) rows;
      spells = shows.spells;
      limit = shows.limit;
      workers_are = same_workers (rows_in run words)
          (finished run_shape.rules (after_workers world uploads journal number text).held) (codes "workers") workers
          rows (by, some, few);
    }

pub run_shown : (words : List Text) (world uploads journal : Text) (ticks workers : ℕ)
    → ShowsRun words world uploads journal ticks workers → IsRun words world uploads journal ticks workers
run_shown words world uploads journal ticks workers shows =
    elim shows.by [
      | inl alone ↦ run_alone_shown words world uploads journal ticks workers shows alone.0 alone.1
      | inr more ↦ run_by_shown words world uploads journal ticks workers shows more.0 more.1 more.2 more.3 more.4
    ]
