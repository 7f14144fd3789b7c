-- What a parse by the command of a choice says of the words.
use Rattle.std.proofs.Common.{◌≡◌, ◌&&◌, ◌∙◌, ◌≤◌, ◌<◌, ◌^◌, ℕ, Bool, true, false, List, [], ◌∷◌, Some, None, ap, sym}
use Rattle.std.proofs.Common.{subst, refl, inl, inr, codes}
use Rattle.clap.specs.Values.{kind_of}
use Rattle.clap.specs.Matches.{found_of}
use Rattle.clap.specs.Kinds.{HasKind, IsAmong}
use Rattle.clap.specs.Walk.{Row, Text, first_of, rows_of}
use Rattle.clap.specs.Simple.{App, HasMatchesOf, built, is_simple, matches_of}
use Rattle.clap.specs.Faults.{fault_of, is_free_app, is_simple_and_free}
use Rattle.clap.specs.declared.error.Error.{Error}
use Rattle.clap.specs.declared.error.kind.ErrorKind.TheVariants.{OutOfMemory}
use Rattle.clap.specs.declared.parser.matches.ArgMatches.{ArgMatches}
use Rattle.command_words.specs.Numbers.{IsNumber}
use Rattle.command_words.specs.Choices.{Choice, command_of, run, check, replay, show, gen, demo, serve}
use Rattle.command_words.specs.Words.{AreRooms, AreWorkers, GivesNumber, IsPace, IsRun, IsCheck, IsReplay, IsShow, IsGen, IsDemo, IsServe, faults_in, part_word, rows_in}
use Rattle.command_words.specs.declared.command.GenPart.{GenPart}

first_holds : (x y : Bool) → (x && y) ≡ true → x ≡ true
first_holds true y h = refl
first_holds false y h = h

pub taken_rows : (choice : Choice) (app : App) (words : List Text) (m : ArgMatches) → app ≡ command_of choice
    → is_simple_and_free (command_of choice) ≡ true → HasMatchesOf app words m
    → rows_of (found_of m) ≡ rows_in choice words
unfolding rows_in
taken_rows choice app words m same simple has =
    (has (first_holds (is_simple app) (is_free_app (built app)) (ap is_simple_and_free same ∙ simple))).0
    ∙ ap (λ (a : App). matches_of a words) same

pub taken_faultless : (choice : Choice) (app : App) (words : List Text) → app ≡ command_of choice
    → is_simple_and_free (command_of choice) ≡ true → (is_simple_and_free app ≡ true → fault_of app words ≡ [])
    → faults_in choice words ≡ []
unfolding faults_in
taken_faultless choice app words same simple kinds =
    ap (λ (a : App). fault_of a words) (sym same) ∙ kinds (ap is_simple_and_free same ∙ simple)

pub refused_faulty : (choice : Choice) (app : App) (words : List Text) (e : Error) → app ≡ command_of choice
    → is_simple_and_free (command_of choice) ≡ true
    → (is_simple_and_free app ≡ true → HasKind (fault_of app words) e)
    → (kind_of e ≡ OutOfMemory → ⊥) → faults_in choice words ≡ [] → ⊥
unfolding faults_in
refused_faulty choice app words e same simple kinds fine none =
    let no_fault : fault_of app words ≡ [] = ap (λ (a : App). fault_of a words) same ∙ none in
    elim (kinds (ap is_simple_and_free same ∙ simple)) [
      | inl memory ↦ fine memory
      | inr among ↦ subst (IsAmong (kind_of e)) no_fault among
    ]

-- ---- values

pub same_value : (rows other : List Row) (name value : Text) → rows ≡ other → first_of name other ≡ Some value
    → first_of name rows ≡ Some value
same_value rows other name value same gives = ap (first_of name) same ∙ gives

pub no_value : (rows other : List Row) (name value : Text) → rows ≡ other → first_of name rows ≡ None
    → first_of name other ≡ Some value → ⊥
no_value rows other name value same none gives =
    let bad : None ≡ Some value = sym none ∙ same_value rows other name value same gives in cc

pub choice_rows : (rows : List Row) (choice shown : Choice) (words : List Text) → rows ≡ rows_in choice words
    → choice ≡ shown → rows ≡ rows_in shown words
choice_rows rows choice shown words found same = found ∙ ap (λ (v : Choice). rows_in v words) same

pub choice_faults : (choice shown : Choice) (words : List Text) → choice ≡ shown
    → faults_in choice words ≡ faults_in shown words
choice_faults choice shown words same = ap (λ (v : Choice). faults_in v words) same

-- ---- numbers

pub number_given : (choice : Choice) (words : List Text) (rows : List Row) (name text : Text) (n : ℕ)
    → rows ≡ rows_in choice words → first_of name rows ≡ Some text → IsNumber text n
    → GivesNumber choice words name n
number_given choice words rows name text n found at spells =
    (text, same_value (rows_in choice words) rows name text (sym found) at, spells)

pub no_number : (choice : Choice) (words : List Text) (rows : List Row) (name : Text) (n : ℕ)
    → rows ≡ rows_in choice words → GivesNumber choice words name n
    → ((text : Text) → first_of name rows ≡ Some text → IsNumber text n → ⊥) → ⊥
no_number choice words rows name n found gives refused =
    refused gives.0 (same_value rows (rows_in choice words) name gives.0 found gives.1) gives.2

-- ---- the commands

pub same_workers : (rows other : List Row) (name : Text) (workers : ℕ) → rows ≡ other
    → AreWorkers (first_of name other) workers → AreWorkers (first_of name rows) workers
same_workers rows other name workers same are =
    subst (λ (r : List Row). AreWorkers (first_of name r) workers) (sym same) are

pub same_pace : (rows other : List Row) (name : Text) (pace : ℕ) → rows ≡ other
    → IsPace (first_of name other) pace → IsPace (first_of name rows) pace
same_pace rows other name pace same is =
    subst (λ (r : List Row). IsPace (first_of name r) pace) (sym same) is

pub says_run : (words rest : List Text) (rows : List Row) (world uploads journal number : Text) (ticks workers : ℕ)
    → words ≡ codes "run" ∷ rest → faults_in run words ≡ [] → rows ≡ rows_in run words
    → first_of (codes "WORLD") rows ≡ Some world → first_of (codes "UPLOADS") rows ≡ Some uploads
    → first_of (codes "JOURNAL") rows ≡ Some journal → first_of (codes "ticks") rows ≡ Some number
    → IsNumber number ticks → ticks ≤ 1000000 → AreWorkers (first_of (codes "workers") rows) workers
    → IsRun words world uploads journal ticks workers
says_run words rest rows world uploads journal number ticks workers chosen none found w u j n spells limit by = record {
  taken = record { rest = rest; chosen = chosen; faultless = none };
  world_is = same_value (rows_in run words) rows (codes "WORLD") world (sym found) w;
  uploads_is = same_value (rows_in run words) rows (codes "UPLOADS") uploads (sym found) u;
  journal_is = same_value (rows_in run words) rows (codes "JOURNAL") journal (sym found) j;
  number = number;
  number_is = same_value (rows_in run words) rows (codes "ticks") number (sym found) n;
  spells = spells;
  limit = limit;
  workers_are = same_workers (rows_in run words) rows (codes "workers") workers (sym found) by;
}

pub says_check : (words rest : List Text) (rows : List Row) (path : Text) → words ≡ codes "check" ∷ rest
    → faults_in check words ≡ [] → rows ≡ rows_in check words → first_of (codes "MODULE") rows ≡ Some path
    → IsCheck words path
says_check words rest rows path chosen none found p = record {
  taken = record { rest = rest; chosen = chosen; faultless = none };
  path_is = same_value (rows_in check words) rows (codes "MODULE") path (sym found) p;
}

pub says_replay : (words rest : List Text) (rows : List Row) (path : Text) → words ≡ codes "replay" ∷ rest
    → faults_in replay words ≡ [] → rows ≡ rows_in replay words → first_of (codes "JOURNAL") rows ≡ Some path
    → IsReplay words path
says_replay words rest rows path chosen none found p = record {
  taken = record { rest = rest; chosen = chosen; faultless = none };
  path_is = same_value (rows_in replay words) rows (codes "JOURNAL") path (sym found) p;
}

pub says_show : (words rest : List Text) (rows : List Row) (path number : Text) (tick : ℕ)
    → words ≡ codes "show" ∷ rest → faults_in show words ≡ [] → rows ≡ rows_in show words
    → first_of (codes "JOURNAL") rows ≡ Some path → first_of (codes "TICK") rows ≡ Some number
    → IsNumber number tick → tick < 2 ^ 64 → IsShow words path tick
says_show words rest rows path number tick chosen none found p t spells limit = record {
  taken = record { rest = rest; chosen = chosen; faultless = none };
  path_is = same_value (rows_in show words) rows (codes "JOURNAL") path (sym found) p;
  tick_is = number_given show words rows (codes "TICK") number tick found t spells;
  limit = limit;
}

pub says_gen : (words rest : List Text) (rows : List Row) (one two : Text) (seed rooms : ℕ) (part : GenPart)
    → words ≡ codes "gen" ∷ rest → faults_in gen words ≡ [] → rows ≡ rows_in gen words
    → first_of (codes "SEED") rows ≡ Some one → IsNumber one seed → seed < 2 ^ 64
    → first_of (codes "ROOMS") rows ≡ Some two → IsNumber two rooms → AreRooms rooms
    → first_of (codes "PART") rows ≡ Some (part_word part) → IsGen words seed rooms part
says_gen words rest rows one two seed rooms part chosen none found s one_spells limit r two_spells few p = record {
  taken = record { rest = rest; chosen = chosen; faultless = none };
  seed_is = number_given gen words rows (codes "SEED") one seed found s one_spells;
  seed_limit = limit;
  rooms_is = number_given gen words rows (codes "ROOMS") two rooms found r two_spells;
  rooms_limits = few;
  part_is = same_value (rows_in gen words) rows (codes "PART") (part_word part) (sym found) p;
}

pub says_demo : (words rest : List Text) (rows : List Row) (one two three : Text) (seed rooms ticks : ℕ)
    → words ≡ codes "demo" ∷ rest → faults_in demo words ≡ [] → rows ≡ rows_in demo words
    → first_of (codes "SEED") rows ≡ Some one → IsNumber one seed → seed < 2 ^ 64
    → first_of (codes "ROOMS") rows ≡ Some two → IsNumber two rooms → AreRooms rooms
    → first_of (codes "TICKS") rows ≡ Some three → IsNumber three ticks → ticks ≤ 1000000
    → IsDemo words seed rooms ticks
says_demo words rest rows one two three seed rooms ticks chosen none found s one_spells limit r two_spells few t
    three_spells most = record {
      taken = record { rest = rest; chosen = chosen; faultless = none };
      seed_is = number_given demo words rows (codes "SEED") one seed found s one_spells;
      seed_limit = limit;
      rooms_is = number_given demo words rows (codes "ROOMS") two rooms found r two_spells;
      rooms_limits = few;
      ticks_is = number_given demo words rows (codes "TICKS") three ticks found t three_spells;
      limit = most;
    }

pub says_serve : (words rest : List Text) (rows : List Row) (world journal one two three : Text) (ticks links port workers pace : ℕ)
    → words ≡ codes "serve" ∷ rest → faults_in serve words ≡ [] → rows ≡ rows_in serve words
    → first_of (codes "WORLD") rows ≡ Some world → first_of (codes "JOURNAL") rows ≡ Some journal
    → first_of (codes "ticks") rows ≡ Some one → IsNumber one ticks → ticks ≤ 1000000
    → first_of (codes "links") rows ≡ Some two → IsNumber two links → links ≤ 1000000
    → first_of (codes "port") rows ≡ Some three → IsNumber three port → (1 ≤ port) × (port ≤ 65535)
    → AreWorkers (first_of (codes "workers") rows) workers → IsPace (first_of (codes "pace") rows) pace
    → IsServe words world journal ticks links port workers pace
says_serve words rest rows world journal one two three ticks links port workers pace chosen none found w j t
    one_spells most l two_spells many p three_spells limits by behind = record {
      taken = record { rest = rest; chosen = chosen; faultless = none };
      world_is = same_value (rows_in serve words) rows (codes "WORLD") world (sym found) w;
      journal_is = same_value (rows_in serve words) rows (codes "JOURNAL") journal (sym found) j;
      ticks_are = number_given serve words rows (codes "ticks") one ticks found t one_spells;
      ticks_limit = most;
      links_are = number_given serve words rows (codes "links") two links found l two_spells;
      links_limit = many;
      port_is = number_given serve words rows (codes "port") three port found p three_spells;
      port_limits = limits;
      workers_are = same_workers (rows_in serve words) rows (codes "workers") workers (sym found) by;
      pace_is = same_pace (rows_in serve words) rows (codes "pace") pace (sym found) behind;
    }
