-- The words of a gen ask for one part of one world, those of a demo for one run, and those of a show for one tick.
use Rattle.std.proofs.Common.{◌≡◌, ◌∙◌, ℕ, List, Option, Some, arith, ap, refl, subst, sym}
use Rattle.std.specs.Prelude.{slice_index}
use Rattle.std.specs.Str.Parse.{digits_value}
use Rattle.clap.specs.Walk.{Text}
use Rattle.command_words.specs.Choices.{Choice}
use Rattle.command_words.specs.Words.{AsksFor, GivesNumber, IsDemo, IsGen, IsShow, part_word}
use Rattle.command_words.specs.declared.command.GenPart.{GenPart}
use Rattle.command_words.specs.declared.command.GenPart.TheVariants.{World, Uploads}
use Rattle.world_run.specs.Demo.{EndsDemonstrating}
use Rattle.world_tools.specs.Made.{EndsWriting, IsMade}
use Rattle.run_status.specs.declared.status.Status.{Status}

same_text : (found : Option Text) (one other : Text) → found ≡ Some one → found ≡ Some other → one ≡ other
same_text found one other is also = cc

one_number : (choice : Choice) (words : List Text) (name : Text) (n m : ℕ) → GivesNumber choice words name n
    → GivesNumber choice words name m → n ≡ m
one_number choice words name n m gives also =
    sym gives.2.value ∙ (ap (digits_value 10) (same_text _ gives.0 also.0 gives.1 also.1) ∙ also.2.value)

differ : (a b : ℕ) → a ≡ b → a ≡ 119 → b ≡ 117 → ⊥
differ a b same is also = absurd (omega arith)

one_part : (one other : GenPart) → part_word one ≡ part_word other → one ≡ other
one_part World World same = refl
one_part World Uploads same = absurd (differ 119 117 (ap (λ (w : Text). slice_index w 0) same) refl refl)
one_part Uploads World same = absurd (differ 119 117 (sym (ap (λ (w : Text). slice_index w 0) same)) refl refl)
one_part Uploads Uploads same = refl

pub asked_once : (words : List Text) (seed rooms : ℕ) (part : GenPart) (seed' rooms' : ℕ) (part' : GenPart)
    (old new : Option (List ℕ)) (status : Status) → IsGen words seed rooms part → IsGen words seed' rooms' part'
    → EndsWriting (IsMade seed rooms part) old new status → EndsWriting (IsMade seed' rooms' part') old new status
asked_once words seed rooms part seed' rooms' part' old new status asks also ends =
    let same_seed = one_number _ words _ seed seed' asks.seed_is also.seed_is in
    let same_rooms = one_number _ words _ rooms rooms' asks.rooms_is also.rooms_is in
    let same_part = one_part part part' (same_text _ (part_word part) (part_word part') asks.part_is also.part_is) in
    subst (λ (s : ℕ). EndsWriting (IsMade s rooms' part') old new status) same_seed
    (subst (λ (r : ℕ). EndsWriting (IsMade seed r part') old new status) same_rooms
    (subst (λ (p : GenPart). EndsWriting (IsMade seed rooms p) old new status) same_part ends))

pub demo_once : (words : List Text) (seed rooms ticks seed' rooms' ticks' : ℕ)
    (old new : Option (List ℕ)) (status : Status) → IsDemo words seed rooms ticks → IsDemo words seed' rooms' ticks'
    → EndsDemonstrating seed rooms ticks old new status → EndsDemonstrating seed' rooms' ticks' old new status
demo_once words seed rooms ticks seed' rooms' ticks' old new status asks also ends =
    let same_seed = one_number _ words _ seed seed' asks.seed_is also.seed_is in
    let same_rooms = one_number _ words _ rooms rooms' asks.rooms_is also.rooms_is in
    let same_ticks = one_number _ words _ ticks ticks' asks.ticks_is also.ticks_is in
    subst (λ (s : ℕ). EndsDemonstrating s rooms' ticks' old new status) same_seed
    (subst (λ (r : ℕ). EndsDemonstrating seed r ticks' old new status) same_rooms
    (subst (λ (t : ℕ). EndsDemonstrating seed rooms t old new status) same_ticks ends))

pub one_tick : (words : List Text) (path : Text) (tick tick' : ℕ) → IsShow words path tick → AsksFor words tick' → tick ≡ tick'
one_tick words path tick tick' asks also = one_number _ words _ tick tick' asks.tick_is also.1.tick_is
