-- What a loop over names makes of a command.
use Rattle.std.proofs.Common.{◌≡◌, ◌∙◌, ◌<◌, ◌≤◌, ◌+◌, ℕ, [], List, length, take, map, ap, sym, get_or}
use Rattle.std.specs.Prelude.{fold}
use Rattle.std.specs.Borrow.{Bor}
use Rattle.std.proofs.lemmas.List.{take_all}
use Rattle.std.proofs.lemmas.List.Folds.{fold-map}
use Rattle.std.proofs.lemmas.List.Sums.{fold_more}
use Rattle.clap.specs.Walk.{Text}
use Rattle.clap.specs.Simple.{App}

-- the command after one more name
abbrev pub after_name : (App → Text → App) → App → Bor Text → App
after_name add app name = add app name.now

abbrev pub no_name : Bor Text
no_name = record { ref_ptr = (0, 0); now = [] }

-- a step of the loop
pub one_more : (add : App → Text → App) (app : App) (names : List (Bor Text)) (i : ℕ) → i < length names
    → add (fold (after_name add) app (take i names)) (get_or names i no_name).now
    ≡ fold (after_name add) app (take (i + 1) names)
one_more add app names i inside = sym (fold_more (after_name add) app names i no_name inside)

-- its end
pub all_added : (add : App → Text → App) (app : App) (names : List (Bor Text)) (texts : List Text) (i : ℕ)
    → map (λ (s : Bor Text). s.now) names ≡ texts → length names ≤ i
    → fold (after_name add) app (take i names) ≡ fold add app texts
all_added add app names texts i same all =
    ap (fold (after_name add) app) (take_all i names all)
    ∙ (sym (fold-map add (λ (s : Bor Text). s.now) app names) ∙ ap (fold add app) same)
