-- The words of serving in the order in which they are shown are taken.
use Rattle.std.proofs.Common.{◌≡◌, ◌∙◌, ◌++◌, ℕ, List, [], ◌∷◌, Option, Some, None, ap, ap₂, refl, sym, subst, codes, inl, inr}
use Rattle.std.specs.Prelude.{fold}
use Rattle.clap.specs.Walk.{Row, Rule, Text, Walk, finished, first_of, idle, nothing_held, option, walk_from, walked}
use Rattle.clap.specs.Simple.{Shape, built}
use Rattle.clap.specs.Faults.{defaults_fault, turn_fault, walk_fault}
use Rattle.command_words.specs.Choices.{command_of, serve}
use Rattle.command_words.specs.Words.{AreWorkers, IsPace, IsServe, faults_in, rows_in}
use Rattle.command_words.specs.Shown.{IsPlain, ShowsServe}
use Rattle.command_words.proofs.Plain.{between, given, holding, idle_fault, idle_walked, level, more_fault, more_walked, no_more, number_plain, option_fault, option_walked}

abbrev serve_shape : Shape
serve_shape = (built (command_of serve)).top

abbrev serve_rules : List Rule
serve_rules = serve_shape.rules

-- ---- words that lead from one place of the walk to another, with no fault

record Passes (from : Walk) (words : List Text) (end : Walk) : Type 0 where
  pub walks : fold (walked serve_rules []) from words ≡ end
  pub faultless : walk_fault serve_shape [] from words ≡ []

passes_none : (from : Walk) → Passes from [] from
passes_none from = record { walks = refl; faultless = no_more serve_shape from }

passes_word : (from after end : Walk) (word : Text) (rest : List Text) → turn_fault serve_shape [] from word ≡ []
    → walked serve_rules [] from word ≡ after → Passes after rest end → Passes from (word ∷ rest) end
passes_word from after end word rest none step later = record {
  walks = more_walked serve_rules from after word rest step ∙ later.walks;
  faultless = more_fault serve_shape from after word rest none step later.faultless;
}

-- ---- the words

module _ (world journal ticks links port : Text) where
  -- the words that have to be there, and those that may follow
  abbrev serve_words : List Text → List Text
  serve_words rest =
      world ∷ journal ∷ codes "--ticks" ∷ ticks ∷ codes "--links" ∷ links ∷ codes "--port" ∷ port ∷ rest

  abbrev after_world : Walk
  after_world = between (holding [] (codes "WORLD") (world ∷ [])) idle 2

  abbrev after_journal : Walk
  after_journal = between (holding (given (codes "WORLD") world ∷ []) (codes "JOURNAL") (journal ∷ [])) idle 3

  abbrev paths : List Row
  paths = given (codes "WORLD") world ∷ given (codes "JOURNAL") journal ∷ []

  abbrev before_ticks : Walk
  before_ticks = between (holding paths (codes "ticks") []) (option (codes "ticks")) 3

  abbrev after_ticks : Walk
  after_ticks = between (holding paths (codes "ticks") (ticks ∷ [])) idle 3

  abbrev with_ticks : List Row
  with_ticks = given (codes "WORLD") world ∷ given (codes "JOURNAL") journal ∷ given (codes "ticks") ticks ∷ []

  abbrev before_links : Walk
  before_links = between (holding with_ticks (codes "links") []) (option (codes "links")) 3

  abbrev after_links : Walk
  after_links = between (holding with_ticks (codes "links") (links ∷ [])) idle 3

  abbrev with_links : List Row
  with_links =
      given (codes "WORLD") world ∷ given (codes "JOURNAL") journal ∷ given (codes "ticks") ticks
      ∷ given (codes "links") links ∷ []

  abbrev before_port : Walk
  before_port = between (holding with_links (codes "port") []) (option (codes "port")) 3

  abbrev after_port : Walk
  after_port = between (holding with_links (codes "port") (port ∷ [])) idle 3

  ticks_met : walked serve_rules [] after_journal (codes "--ticks") ≡ before_ticks
  unfolding walked
  ticks_met = refl

  links_met : walked serve_rules [] after_ticks (codes "--links") ≡ before_links
  unfolding walked
  links_met = refl

  port_met : walked serve_rules [] after_links (codes "--port") ≡ before_port
  unfolding walked
  port_met = refl

  port_passed : (rest : List Text) (end : Walk) → IsPlain port → Passes after_port rest end
      → Passes after_links (codes "--port" ∷ port ∷ rest) end
  port_passed rest end e later =
      passes_word after_links before_port end (codes "--port") (port ∷ rest) refl port_met
      (passes_word before_port after_port end port rest
      (option_fault serve_shape before_port.held (codes "port") 3 port e)
      (option_walked serve_rules before_port.held (codes "port") 3 port e) later)

  links_passed : (rest : List Text) (end : Walk) → IsPlain links → Passes after_links rest end
      → Passes after_ticks (codes "--links" ∷ links ∷ rest) end
  links_passed rest end d later =
      passes_word after_ticks before_links end (codes "--links") (links ∷ rest) refl links_met
      (passes_word before_links after_links end links rest
      (option_fault serve_shape before_links.held (codes "links") 3 links d)
      (option_walked serve_rules before_links.held (codes "links") 3 links d) later)

  ticks_passed : (rest : List Text) (end : Walk) → IsPlain ticks → Passes after_ticks rest end
      → Passes after_journal (codes "--ticks" ∷ ticks ∷ rest) end
  ticks_passed rest end c later =
      passes_word after_journal before_ticks end (codes "--ticks") (ticks ∷ rest) refl ticks_met
      (passes_word before_ticks after_ticks end ticks rest
      (option_fault serve_shape before_ticks.held (codes "ticks") 3 ticks c)
      (option_walked serve_rules before_ticks.held (codes "ticks") 3 ticks c) later)

  paths_passed : (rest : List Text) (end : Walk) → IsPlain world → IsPlain journal → Passes after_journal rest end
      → Passes (walk_from nothing_held) (world ∷ journal ∷ rest) end
  paths_passed rest end a b later =
      passes_word (walk_from nothing_held) after_world end world (journal ∷ rest)
      (idle_fault serve_shape nothing_held 1 world a) (idle_walked serve_rules nothing_held 1 world a)
      (passes_word after_world after_journal end journal rest
      (idle_fault serve_shape after_world.held 2 journal b) (idle_walked serve_rules after_world.held 2 journal b)
      later)

  serve_passed : (rest : List Text) (end : Walk) → IsPlain world → IsPlain journal → IsPlain ticks → IsPlain links
      → IsPlain port → Passes after_port rest end → Passes (walk_from nothing_held) (serve_words rest) end
  serve_passed rest end a b c d e later =
      paths_passed (codes "--ticks" ∷ ticks ∷ codes "--links" ∷ links ∷ codes "--port" ∷ port ∷ rest) end a b
      (ticks_passed (codes "--links" ∷ links ∷ codes "--port" ∷ port ∷ rest) end c
      (links_passed (codes "--port" ∷ port ∷ rest) end d (port_passed rest end e later)))

  -- ---- the ends

  -- The words behind the port end the walk here, where `clap` finds no fault, and what it found has these values.
  record Ends (rest : List Text) (end : Walk) (by behind : Option Text) : Type 0 where
    pub passes : Passes after_port rest end
    pub none : level serve [] end ≡ []
    pub world_at : first_of (codes "WORLD") (finished serve_rules end.held) ≡ Some world
    pub journal_at : first_of (codes "JOURNAL") (finished serve_rules end.held) ≡ Some journal
    pub ticks_at : first_of (codes "ticks") (finished serve_rules end.held) ≡ Some ticks
    pub links_at : first_of (codes "links") (finished serve_rules end.held) ≡ Some links
    pub port_at : first_of (codes "port") (finished serve_rules end.held) ≡ Some port
    pub workers_at : first_of (codes "workers") (finished serve_rules end.held) ≡ by
    pub pace_at : first_of (codes "pace") (finished serve_rules end.held) ≡ behind

  -- where no words follow
  level_alone : level serve [] after_port ≡ []
  unfolding defaults_fault
  level_alone = refl

  ends_alone : Ends [] after_port None None
  ends_alone = record {
    passes = passes_none after_port;
    none = level_alone;
    world_at = refl;
    journal_at = refl;
    ticks_at = refl;
    links_at = refl;
    port_at = refl;
    workers_at = refl;
    pace_at = refl;
  }

  abbrev with_port : List Row
  with_port =
      given (codes "WORLD") world ∷ given (codes "JOURNAL") journal ∷ given (codes "ticks") ticks
      ∷ given (codes "links") links ∷ given (codes "port") port ∷ []

  -- where the number of workers follows the port
  module _ (workers : Text) where
    abbrev before_workers : Walk
    before_workers = between (holding with_port (codes "workers") []) (option (codes "workers")) 3

    abbrev after_workers : Walk
    after_workers = between (holding with_port (codes "workers") (workers ∷ [])) idle 3

    workers_met : walked serve_rules [] after_port (codes "--workers") ≡ before_workers
    unfolding walked
    workers_met = refl

    workers_passed : (rest : List Text) (end : Walk) → IsPlain workers → Passes after_workers rest end
        → Passes after_port (codes "--workers" ∷ workers ∷ rest) end
    workers_passed rest end f later =
        passes_word after_port before_workers end (codes "--workers") (workers ∷ rest) refl workers_met
        (passes_word before_workers after_workers end workers rest
        (option_fault serve_shape before_workers.held (codes "workers") 3 workers f)
        (option_walked serve_rules before_workers.held (codes "workers") 3 workers f) later)

    level_workers : level serve [] after_workers ≡ []
    unfolding defaults_fault
    level_workers = refl

    ends_by : IsPlain workers → Ends (codes "--workers" ∷ workers ∷ []) after_workers (Some workers) None
    ends_by f = record {
      passes = workers_passed [] after_workers f (passes_none after_workers);
      none = level_workers;
      world_at = refl;
      journal_at = refl;
      ticks_at = refl;
      links_at = refl;
      port_at = refl;
      workers_at = refl;
      pace_at = refl;
    }

    -- and the pause follows the workers
    module _ (pace : Text) where
      abbrev with_workers : List Row
      with_workers =
          given (codes "WORLD") world ∷ given (codes "JOURNAL") journal ∷ given (codes "ticks") ticks
          ∷ given (codes "links") links ∷ given (codes "port") port ∷ given (codes "workers") workers ∷ []

      abbrev before_last : Walk
      before_last = between (holding with_workers (codes "pace") []) (option (codes "pace")) 3

      abbrev after_last : Walk
      after_last = between (holding with_workers (codes "pace") (pace ∷ [])) idle 3

      last_met : walked serve_rules [] after_workers (codes "--pace") ≡ before_last
      unfolding walked
      last_met = refl

      last_passed : IsPlain pace → Passes after_workers (codes "--pace" ∷ pace ∷ []) after_last
      last_passed g =
          passes_word after_workers before_last after_last (codes "--pace") (pace ∷ []) refl last_met
          (passes_word before_last after_last after_last pace []
          (option_fault serve_shape before_last.held (codes "pace") 3 pace g)
          (option_walked serve_rules before_last.held (codes "pace") 3 pace g) (passes_none after_last))

      level_last : level serve [] after_last ≡ []
      unfolding defaults_fault
      level_last = refl

      ends_by_with : IsPlain workers → IsPlain pace
          → Ends (codes "--workers" ∷ workers ∷ codes "--pace" ∷ pace ∷ []) after_last (Some workers) (Some pace)
      ends_by_with f g = record {
        passes = workers_passed (codes "--pace" ∷ pace ∷ []) after_last f (last_passed g);
        none = level_last;
        world_at = refl;
        journal_at = refl;
        ticks_at = refl;
        links_at = refl;
        port_at = refl;
        workers_at = refl;
        pace_at = refl;
      }

  -- where the pause follows the port
  module _ (pace : Text) where
    abbrev before_pace : Walk
    before_pace = between (holding with_port (codes "pace") []) (option (codes "pace")) 3

    abbrev after_pace : Walk
    after_pace = between (holding with_port (codes "pace") (pace ∷ [])) idle 3

    pace_met : walked serve_rules [] after_port (codes "--pace") ≡ before_pace
    unfolding walked
    pace_met = refl

    pace_passed : IsPlain pace → Passes after_port (codes "--pace" ∷ pace ∷ []) after_pace
    pace_passed g =
        passes_word after_port before_pace after_pace (codes "--pace") (pace ∷ []) refl pace_met
        (passes_word before_pace after_pace after_pace pace []
        (option_fault serve_shape before_pace.held (codes "pace") 3 pace g)
        (option_walked serve_rules before_pace.held (codes "pace") 3 pace g) (passes_none after_pace))

    level_pace : level serve [] after_pace ≡ []
    unfolding defaults_fault
    level_pace = refl

    ends_with : IsPlain pace → Ends (codes "--pace" ∷ pace ∷ []) after_pace None (Some pace)
    ends_with g = record {
      passes = pace_passed g;
      none = level_pace;
      world_at = refl;
      journal_at = refl;
      ticks_at = refl;
      links_at = refl;
      port_at = refl;
      workers_at = refl;
      pace_at = refl;
    }

  -- ---- what `clap` makes of the words

  serve_faultless : (rest : List Text) (end : Walk) → Passes (walk_from nothing_held) (serve_words rest) end
      → level serve [] end ≡ [] → faults_in serve (codes "serve" ∷ serve_words rest) ≡ []
  unfolding faults_in
  serve_faultless rest end passes none = ap₂ (level serve) passes.faultless passes.walks ∙ none

  serve_gives : (rest : List Text) (end : Walk) → Passes (walk_from nothing_held) (serve_words rest) end
      → rows_in serve (codes "serve" ∷ serve_words rest) ≡ finished serve_rules end.held
  unfolding rows_in
  serve_gives rest end passes = ap (λ (w : Walk). finished serve_rules w.held) passes.walks

-- ---- the command

module _ (words : List Text) (world journal : Text) (ticks links port workers pace : ℕ)
    (shows : ShowsServe words world journal ticks links port workers pace) where
  abbrev one : Text
  one = shows.ticks_text

  abbrev two : Text
  two = shows.links_text

  abbrev three : Text
  three = shows.port_text

  -- the words that follow the port end the walk here
  abbrev EndsShown : List Text → Walk → Option Text → Option Text → Type 0
  EndsShown rest end by behind = Ends world journal one two three rest end by behind

  serve_ended : (some more : List Text) (end : Walk) (by behind : Option Text) → shows.by ≡ some
      → shows.behind ≡ more → EndsShown (some ++ more) end by behind → AreWorkers by workers → IsPace behind pace
      → IsServe words world journal ticks links port workers pace
  serve_ended some more end by behind first second ends are is =
      let rest = some ++ more in
      let order : words ≡ codes "serve" ∷ serve_words world journal one two three rest =
      shows.order ∙ ap₂ (λ (x y : List Text). codes "serve" ∷ serve_words world journal one two three (x ++ y)) first
      second in
      let passes = serve_passed world journal one two three rest end shows.world_plain shows.journal_plain
      (number_plain one shows.ticks_spells.digits) (number_plain two shows.links_spells.digits)
      (number_plain three shows.port_spells.digits) ends.passes in
      let rows : rows_in serve words ≡ finished serve_rules end.held =
      ap (rows_in serve) order ∙ serve_gives world journal one two three rest end passes in
      record {
        taken = record {
          rest = serve_words world journal one two three rest;
          chosen = order;
          faultless = ap (faults_in serve) order
              ∙ serve_faultless world journal one two three rest end passes ends.none;
        };
        world_is = ap (first_of (codes "WORLD")) rows ∙ ends.world_at;
        journal_is = ap (first_of (codes "JOURNAL")) rows ∙ ends.journal_at;
        ticks_are = (one, ap (first_of (codes "ticks")) rows ∙ ends.ticks_at, shows.ticks_spells);
        ticks_limit = shows.ticks_limit;
        links_are = (two, ap (first_of (codes "links")) rows ∙ ends.links_at, shows.links_spells);
        links_limit = shows.links_limit;
        port_is = (three, ap (first_of (codes "port")) rows ∙ ends.port_at, shows.port_spells);
        port_limits = shows.port_limits;
        workers_are = subst (λ (v : Option Text). AreWorkers v workers)
            (sym (ap (first_of (codes "workers")) rows ∙ ends.workers_at)) are;
        pace_is = subst (λ (v : Option Text). IsPace v pace)
            (sym (ap (first_of (codes "pace")) rows ∙ ends.pace_at)) is;
      }

  is_serve : IsServe words world journal ticks links port workers pace
  is_serve =
      elim shows.by_workers [
        | inl alone ↦ elim shows.with_pace [
          | inl at_once ↦ serve_ended [] [] (after_port world journal one two three) None None alone.0 at_once.0
              (ends_alone world journal one two three) alone.1 at_once.1
          | inr slow ↦ serve_ended [] (codes "--pace" ∷ slow.0 ∷ [])
              (after_pace world journal one two three slow.0) None (Some slow.0) alone.0 slow.1
              (ends_with world journal one two three slow.0 (number_plain slow.0 slow.2.digits))
              alone.1 (slow.2, slow.3)
        ]
        | inr more ↦ elim shows.with_pace [
          | inl at_once ↦ serve_ended (codes "--workers" ∷ more.0 ∷ []) []
              (after_workers world journal one two three more.0) (Some more.0) None more.1 at_once.0
              (ends_by world journal one two three more.0 (number_plain more.0 more.2.digits))
              (more.2, more.3, more.4) at_once.1
          | inr slow ↦ serve_ended (codes "--workers" ∷ more.0 ∷ []) (codes "--pace" ∷ slow.0 ∷ [])
              (after_last world journal one two three more.0 slow.0) (Some more.0) (Some slow.0) more.1 slow.1
              (ends_by_with world journal one two three more.0 slow.0 (number_plain more.0 more.2.digits)
              (number_plain slow.0 slow.2.digits))
              (more.2, more.3, more.4) (slow.2, slow.3)
        ]
      ]

pub serve_shown : (words : List Text) (world journal : Text) (ticks links port workers pace : ℕ)
    → ShowsServe words world journal ticks links port workers pace
    → IsServe words world journal ticks links port workers pace
serve_shown words world journal ticks links port workers pace shows =
    is_serve words world journal ticks links port workers pace shows
