-- No words are those of two choices.
use Rattle.std.proofs.Common.{◌≡◌, ◌≢◌, ◌∙◌, ◌+◌, ◌*◌, ◌==◌, ℕ, List, [], ◌∷◌, ap, refl, sym, subst, codes, if◌then◌else◌}
use Rattle.std.specs.Prelude.{slice_index}
use Rattle.clap.specs.Walk.{Text}
use Rattle.command_words.specs.Commands.{AreNone, AreOf, Kind, a_check, a_demo, a_gen, a_replay, a_run, a_serve, a_show, choice_of}

abbrev word_of : Kind → Text
word_of kind = (choice_of kind).word

-- the first two bytes of the first word, as one number
abbrev initials : List Text → ℕ
initials [] = 0
initials (word ∷ rest) = 256 * slice_index word 0 + slice_index word 1

-- the choice whose word has these
abbrev kind_at : ℕ → Kind
kind_at n =
    if n == 25448 then a_check else (if n == 29285 then a_replay else (if n == 29544 then a_show else
    (if n == 26469 then a_gen else (if n == 25701 then a_demo else (if n == 29541 then a_serve else a_run)))))

is_at : (kind : Kind) (rest : List Text) → kind_at (initials (word_of kind ∷ rest)) ≡ kind
is_at a_run rest = refl
is_at a_check rest = refl
is_at a_replay rest = refl
is_at a_show rest = refl
is_at a_gen rest = refl
is_at a_demo rest = refl
is_at a_serve rest = refl

-- Words of a choice begin with its word.
pub begins : (kind : Kind) (words : List Text) → AreOf kind words
    → (rest : List Text) × (words ≡ word_of kind ∷ rest)
begins a_run words are = (are.5.taken.rest, are.5.taken.chosen)
begins a_check words are = (are.1.taken.rest, are.1.taken.chosen)
begins a_replay words are = (are.1.taken.rest, are.1.taken.chosen)
begins a_show words are = (are.2.taken.rest, are.2.taken.chosen)
begins a_gen words are = (are.3.taken.rest, are.3.taken.chosen)
begins a_demo words are = (are.3.taken.rest, are.3.taken.chosen)
begins a_serve words are = (are.7.taken.rest, are.7.taken.chosen)

one_choice : (one other : Kind) (words first second : List Text) → words ≡ word_of one ∷ first
    → words ≡ word_of other ∷ second → other ≡ one
one_choice one other words first second is_one is_other =
    sym (is_at other second) ∙ (ap (λ (w : List Text). kind_at (initials w)) (sym is_other ∙ is_one)
    ∙ is_at one first)

-- Words that begin with the word of a choice are of no other.
pub of_no_other : (one : Kind) (words rest : List Text) → words ≡ word_of one ∷ rest
    → (other : Kind) → other ≢ one → AreOf other words → ⊥
of_no_other one words rest chosen other differs are =
    let found = begins other words are in
    differs (one_choice one other words rest found.0 chosen found.1)

-- Words that begin with the word of a choice, but are not of it, are of none.
pub of_none : (one : Kind) (words rest : List Text) → words ≡ word_of one ∷ rest → (AreOf one words → ⊥)
    → AreNone words
of_none one words rest chosen refused kind are =
    let found = begins kind words are in
    let same = one_choice one kind words rest found.0 chosen found.1 in
    refused (subst (λ (k : Kind). AreOf k words) same are)

-- words that begin with none of the choices
pub unchosen : (words : List Text) → ((rest : List Text) → words ≡ codes "run" ∷ rest → ⊥)
    → ((rest : List Text) → words ≡ codes "check" ∷ rest → ⊥)
    → ((rest : List Text) → words ≡ codes "replay" ∷ rest → ⊥)
    → ((rest : List Text) → words ≡ codes "show" ∷ rest → ⊥)
    → ((rest : List Text) → words ≡ codes "gen" ∷ rest → ⊥)
    → ((rest : List Text) → words ≡ codes "demo" ∷ rest → ⊥)
    → ((rest : List Text) → words ≡ codes "serve" ∷ rest → ⊥) → AreNone words
unchosen words no_run no_check no_replay no_show no_gen no_demo no_serve = none
  where
    none : AreNone words
    none a_run are = let b = begins a_run words are in no_run b.0 b.1
    none a_check are = let b = begins a_check words are in no_check b.0 b.1
    none a_replay are = let b = begins a_replay words are in no_replay b.0 b.1
    none a_show are = let b = begins a_show words are in no_show b.0 b.1
    none a_gen are = let b = begins a_gen words are in no_gen b.0 b.1
    none a_demo are = let b = begins a_demo words are in no_demo b.0 b.1
    none a_serve are = let b = begins a_serve words are in no_serve b.0 b.1
