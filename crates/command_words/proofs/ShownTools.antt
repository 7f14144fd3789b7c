-- The words of the other commands in the order in which they are shown are taken.
use Rattle.std.proofs.Common.{◌≡◌, ◌∙◌, ℕ, List, [], ◌∷◌, ap, ap₂, refl, codes}
use Rattle.clap.specs.Walk.{Text, Walk, finished, first_of, idle, nothing_held, walk, walk_from}
use Rattle.clap.specs.Simple.{Shape, built}
use Rattle.clap.specs.Faults.{defaults_fault, walk_fault}
use Rattle.std.proofs.Common.{◌≤◌, arith, lit≤}
use Rattle.command_words.specs.Choices.{check, command_of, demo, gen, replay, show}
use Rattle.command_words.specs.declared.command.GenPart.{GenPart}
use Rattle.command_words.specs.declared.command.GenPart.TheVariants.{World, Uploads}
use Rattle.command_words.specs.Words.{IsCheck, IsDemo, IsGen, IsReplay, IsShow, faults_in, part_word, rows_in}
use Rattle.command_words.specs.Shown.{IsPlain, ShowsCheck, ShowsDemo, ShowsGen, ShowsReplay, ShowsShow}
use Rattle.command_words.proofs.Plain.{between, given, holding, idle_fault, idle_walked, level, more_fault, more_walked, no_more, number_plain}

-- ---- check

abbrev check_shape : Shape
check_shape = (built (command_of check)).top

module _ (path : Text) where
  abbrev check_words : List Text
  check_words = path ∷ []

  abbrev check_1 : Walk
  check_1 = between (holding [] (codes "MODULE") (path ∷ [])) idle 2

  check_walk : IsPlain path → walk check_shape.rules [] nothing_held check_words ≡ check_1
  check_walk a =
      more_walked check_shape.rules (walk_from nothing_held) check_1 path []
      (idle_walked check_shape.rules nothing_held 1 path a)

  check_walk_fault : IsPlain path
      → walk_fault check_shape [] (walk_from nothing_held) check_words ≡ []
  check_walk_fault a =
      more_fault check_shape (walk_from nothing_held) check_1 path []
      (idle_fault check_shape nothing_held 1 path a) (idle_walked check_shape.rules nothing_held 1 path a)
      (no_more check_shape check_1)

  level_check : level check [] check_1 ≡ []
  unfolding defaults_fault
  level_check = refl

  check_faultless : IsPlain path → faults_in check (codes "check" ∷ check_words) ≡ []
  unfolding faults_in
  check_faultless a = ap₂ (level check) (check_walk_fault a) (check_walk a) ∙ level_check

  check_gives : IsPlain path
      → rows_in check (codes "check" ∷ check_words) ≡ finished check_shape.rules check_1.held
  unfolding rows_in
  check_gives a = ap (λ (w : Walk). finished check_shape.rules w.held) (check_walk a)

-- ---- replay

abbrev replay_shape : Shape
replay_shape = (built (command_of replay)).top

module _ (path : Text) where
  abbrev replay_words : List Text
  replay_words = path ∷ []

  abbrev replay_1 : Walk
  replay_1 = between (holding [] (codes "JOURNAL") (path ∷ [])) idle 2

  replay_walk : IsPlain path → walk replay_shape.rules [] nothing_held replay_words ≡ replay_1
  replay_walk a =
      more_walked replay_shape.rules (walk_from nothing_held) replay_1 path []
      (idle_walked replay_shape.rules nothing_held 1 path a)

  replay_walk_fault : IsPlain path
      → walk_fault replay_shape [] (walk_from nothing_held) replay_words ≡ []
  replay_walk_fault a =
      more_fault replay_shape (walk_from nothing_held) replay_1 path []
      (idle_fault replay_shape nothing_held 1 path a) (idle_walked replay_shape.rules nothing_held 1 path a)
      (no_more replay_shape replay_1)

  level_replay : level replay [] replay_1 ≡ []
  unfolding defaults_fault
  level_replay = refl

  replay_faultless : IsPlain path → faults_in replay (codes "replay" ∷ replay_words) ≡ []
  unfolding faults_in
  replay_faultless a = ap₂ (level replay) (replay_walk_fault a) (replay_walk a) ∙ level_replay

  replay_gives : IsPlain path
      → rows_in replay (codes "replay" ∷ replay_words) ≡ finished replay_shape.rules replay_1.held
  unfolding rows_in
  replay_gives a = ap (λ (w : Walk). finished replay_shape.rules w.held) (replay_walk a)

-- ---- show

abbrev show_shape : Shape
show_shape = (built (command_of show)).top

module _ (path tick : Text) where
  abbrev show_words : List Text
  show_words = path ∷ tick ∷ []

  abbrev show_1 : Walk
  show_1 = between (holding [] (codes "JOURNAL") (path ∷ [])) idle 2

  abbrev show_2 : Walk
  show_2 = between (holding (given (codes "JOURNAL") path ∷ []) (codes "TICK") (tick ∷ [])) idle 3

  show_walk : IsPlain path → IsPlain tick → walk show_shape.rules [] nothing_held show_words ≡ show_2
  show_walk a b =
      more_walked show_shape.rules (walk_from nothing_held) show_1 path (tick ∷ [])
      (idle_walked show_shape.rules nothing_held 1 path a)
      ∙ more_walked show_shape.rules show_1 show_2 tick []
      (idle_walked show_shape.rules show_1.held 2 tick b)

  show_walk_fault : IsPlain path → IsPlain tick
      → walk_fault show_shape [] (walk_from nothing_held) show_words ≡ []
  show_walk_fault a b =
      more_fault show_shape (walk_from nothing_held) show_1 path (tick ∷ [])
      (idle_fault show_shape nothing_held 1 path a) (idle_walked show_shape.rules nothing_held 1 path a)
      (more_fault show_shape show_1 show_2 tick []
      (idle_fault show_shape show_1.held 2 tick b) (idle_walked show_shape.rules show_1.held 2 tick b)
      (no_more show_shape show_2))

  level_show : level show [] show_2 ≡ []
  unfolding defaults_fault
  level_show = refl

  show_faultless : IsPlain path → IsPlain tick → faults_in show (codes "show" ∷ show_words) ≡ []
  unfolding faults_in
  show_faultless a b = ap₂ (level show) (show_walk_fault a b) (show_walk a b) ∙ level_show

  show_gives : IsPlain path → IsPlain tick
      → rows_in show (codes "show" ∷ show_words) ≡ finished show_shape.rules show_2.held
  unfolding rows_in
  show_gives a b = ap (λ (w : Walk). finished show_shape.rules w.held) (show_walk a b)

-- ---- gen

abbrev gen_shape : Shape
gen_shape = (built (command_of gen)).top

module _ (seed rooms part : Text) where
  abbrev gen_words : List Text
  gen_words = seed ∷ rooms ∷ part ∷ []

  abbrev gen_1 : Walk
  gen_1 = between (holding [] (codes "SEED") (seed ∷ [])) idle 2

  abbrev gen_2 : Walk
  gen_2 = between (holding (given (codes "SEED") seed ∷ []) (codes "ROOMS") (rooms ∷ [])) idle 3

  abbrev gen_3 : Walk
  gen_3 = between (holding (given (codes "SEED") seed ∷ given (codes "ROOMS") rooms ∷ []) (codes "PART") (part ∷ [])) idle 4

  gen_walk : IsPlain seed → IsPlain rooms → IsPlain part → walk gen_shape.rules [] nothing_held gen_words ≡ gen_3
  gen_walk a b c =
      more_walked gen_shape.rules (walk_from nothing_held) gen_1 seed (rooms ∷ part ∷ [])
      (idle_walked gen_shape.rules nothing_held 1 seed a)
      ∙ (more_walked gen_shape.rules gen_1 gen_2 rooms (part ∷ [])
      (idle_walked gen_shape.rules gen_1.held 2 rooms b)
      ∙ more_walked gen_shape.rules gen_2 gen_3 part []
      (idle_walked gen_shape.rules gen_2.held 3 part c))

  gen_walk_fault : IsPlain seed → IsPlain rooms → IsPlain part
      → walk_fault gen_shape [] (walk_from nothing_held) gen_words ≡ []
  gen_walk_fault a b c =
      more_fault gen_shape (walk_from nothing_held) gen_1 seed (rooms ∷ part ∷ [])
      (idle_fault gen_shape nothing_held 1 seed a) (idle_walked gen_shape.rules nothing_held 1 seed a)
      (more_fault gen_shape gen_1 gen_2 rooms (part ∷ [])
      (idle_fault gen_shape gen_1.held 2 rooms b) (idle_walked gen_shape.rules gen_1.held 2 rooms b)
      (more_fault gen_shape gen_2 gen_3 part []
      (idle_fault gen_shape gen_2.held 3 part c) (idle_walked gen_shape.rules gen_2.held 3 part c)
      (no_more gen_shape gen_3)))

  level_gen : level gen [] gen_3 ≡ []
  unfolding defaults_fault
  level_gen = refl

  gen_faultless : IsPlain seed → IsPlain rooms → IsPlain part → faults_in gen (codes "gen" ∷ gen_words) ≡ []
  unfolding faults_in
  gen_faultless a b c = ap₂ (level gen) (gen_walk_fault a b c) (gen_walk a b c) ∙ level_gen

  gen_gives : IsPlain seed → IsPlain rooms → IsPlain part
      → rows_in gen (codes "gen" ∷ gen_words) ≡ finished gen_shape.rules gen_3.held
  unfolding rows_in
  gen_gives a b c = ap (λ (w : Walk). finished gen_shape.rules w.held) (gen_walk a b c)

-- ---- demo

abbrev demo_shape : Shape
demo_shape = (built (command_of demo)).top

module _ (seed rooms ticks : Text) where
  abbrev demo_words : List Text
  demo_words = seed ∷ rooms ∷ ticks ∷ []

  abbrev demo_1 : Walk
  demo_1 = between (holding [] (codes "SEED") (seed ∷ [])) idle 2

  abbrev demo_2 : Walk
  demo_2 = between (holding (given (codes "SEED") seed ∷ []) (codes "ROOMS") (rooms ∷ [])) idle 3

  abbrev demo_3 : Walk
  demo_3 = between (holding (given (codes "SEED") seed ∷ given (codes "ROOMS") rooms ∷ []) (codes "TICKS") (ticks ∷ [])) idle 4

  demo_walk : IsPlain seed → IsPlain rooms → IsPlain ticks → walk demo_shape.rules [] nothing_held demo_words ≡ demo_3
  demo_walk a b c =
      more_walked demo_shape.rules (walk_from nothing_held) demo_1 seed (rooms ∷ ticks ∷ [])
      (idle_walked demo_shape.rules nothing_held 1 seed a)
      ∙ (more_walked demo_shape.rules demo_1 demo_2 rooms (ticks ∷ [])
      (idle_walked demo_shape.rules demo_1.held 2 rooms b)
      ∙ more_walked demo_shape.rules demo_2 demo_3 ticks []
      (idle_walked demo_shape.rules demo_2.held 3 ticks c))

  demo_walk_fault : IsPlain seed → IsPlain rooms → IsPlain ticks
      → walk_fault demo_shape [] (walk_from nothing_held) demo_words ≡ []
  demo_walk_fault a b c =
      more_fault demo_shape (walk_from nothing_held) demo_1 seed (rooms ∷ ticks ∷ [])
      (idle_fault demo_shape nothing_held 1 seed a) (idle_walked demo_shape.rules nothing_held 1 seed a)
      (more_fault demo_shape demo_1 demo_2 rooms (ticks ∷ [])
      (idle_fault demo_shape demo_1.held 2 rooms b) (idle_walked demo_shape.rules demo_1.held 2 rooms b)
      (more_fault demo_shape demo_2 demo_3 ticks []
      (idle_fault demo_shape demo_2.held 3 ticks c) (idle_walked demo_shape.rules demo_2.held 3 ticks c)
      (no_more demo_shape demo_3)))

  level_demo : level demo [] demo_3 ≡ []
  unfolding defaults_fault
  level_demo = refl

  demo_faultless : IsPlain seed → IsPlain rooms → IsPlain ticks → faults_in demo (codes "demo" ∷ demo_words) ≡ []
  unfolding faults_in
  demo_faultless a b c = ap₂ (level demo) (demo_walk_fault a b c) (demo_walk a b c) ∙ level_demo

  demo_gives : IsPlain seed → IsPlain rooms → IsPlain ticks
      → rows_in demo (codes "demo" ∷ demo_words) ≡ finished demo_shape.rules demo_3.held
  unfolding rows_in
  demo_gives a b c = ap (λ (w : Walk). finished demo_shape.rules w.held) (demo_walk a b c)

differ : (n : ℕ) → n ≡ 45 → 100 ≤ n → ⊥
differ n same high = absurd (omega arith)

part_plain : (part : GenPart) → IsPlain (part_word part)
part_plain World = λ same. differ 119 same (lit≤ tt)
part_plain Uploads = λ same. differ 117 same (lit≤ tt)

-- ---- the commands

pub check_shown : (words : List Text) (path : Text) → ShowsCheck words path → IsCheck words path
check_shown words path shows = record {
  taken = record {
    rest = check_words path;
    chosen = shows.order;
    faultless = ap (faults_in check) shows.order ∙ check_faultless path shows.path_plain;
  };
  path_is = ap (first_of (codes "MODULE")) (ap (rows_in check) shows.order ∙ check_gives path shows.path_plain);
}

pub replay_shown : (words : List Text) (path : Text) → ShowsReplay words path → IsReplay words path
replay_shown words path shows = record {
  taken = record {
    rest = replay_words path;
    chosen = shows.order;
    faultless = ap (faults_in replay) shows.order ∙ replay_faultless path shows.path_plain;
  };
  path_is = ap (first_of (codes "JOURNAL")) (ap (rows_in replay) shows.order ∙ replay_gives path shows.path_plain);
}

pub show_shown : (words : List Text) (path : Text) (tick : ℕ) → ShowsShow words path tick → IsShow words path tick
show_shown words path tick shows =
    let number = shows.number in
    let plain = number_plain number shows.spells.digits in
    let rows = ap (rows_in show) shows.order ∙ show_gives path number shows.path_plain plain in
    record {
      taken = record {
        rest = show_words path number;
        chosen = shows.order;
        faultless = ap (faults_in show) shows.order ∙ show_faultless path number shows.path_plain plain;
      };
      path_is = ap (first_of (codes "JOURNAL")) rows;
      tick_is = (number, ap (first_of (codes "TICK")) rows, shows.spells);
      limit = shows.limit;
    }

pub gen_shown : (words : List Text) (seed rooms : ℕ) (part : GenPart) → ShowsGen words seed rooms part
    → IsGen words seed rooms part
gen_shown words seed rooms part shows =
    let one = shows.seed_text in
    let two = shows.rooms_text in
    let plain_one = number_plain one shows.seed_spells.digits in
    let plain_two = number_plain two shows.rooms_spells.digits in
    let plain_part = part_plain part in
    let rows = ap (rows_in gen) shows.order ∙ gen_gives one two (part_word part) plain_one plain_two plain_part in
    record {
      taken = record {
        rest = gen_words one two (part_word part);
        chosen = shows.order;
        faultless = ap (faults_in gen) shows.order
            ∙ gen_faultless one two (part_word part) plain_one plain_two plain_part;
      };
      seed_is = (one, ap (first_of (codes "SEED")) rows, shows.seed_spells);
      seed_limit = shows.seed_limit;
      rooms_is = (two, ap (first_of (codes "ROOMS")) rows, shows.rooms_spells);
      rooms_limits = shows.rooms_limits;
      part_is = ap (first_of (codes "PART")) rows;
    }

pub demo_shown : (words : List Text) (seed rooms ticks : ℕ) → ShowsDemo words seed rooms ticks
    → IsDemo words seed rooms ticks
demo_shown words seed rooms ticks shows =
    let one = shows.seed_text in
    let two = shows.rooms_text in
    let three = shows.ticks_text in
    let plain_one = number_plain one shows.seed_spells.digits in
    let plain_two = number_plain two shows.rooms_spells.digits in
    let plain_three = number_plain three shows.ticks_spells.digits in
    let rows = ap (rows_in demo) shows.order ∙ demo_gives one two three plain_one plain_two plain_three in
    record {
      taken = record {
        rest = demo_words one two three;
        chosen = shows.order;
        faultless = ap (faults_in demo) shows.order
            ∙ demo_faultless one two three plain_one plain_two plain_three;
      };
      seed_is = (one, ap (first_of (codes "SEED")) rows, shows.seed_spells);
      seed_limit = shows.seed_limit;
      rooms_is = (two, ap (first_of (codes "ROOMS")) rows, shows.rooms_spells);
      rooms_limits = shows.rooms_limits;
      ticks_is = (three, ap (first_of (codes "TICKS")) rows, shows.ticks_spells);
      limit = shows.limit;
    }
