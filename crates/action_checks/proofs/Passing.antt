-- The first check that fails, of checks that are made in two parts.
use Rattle.std.proofs.Common.{◌≡◌, ◌≢◌, ℕ, Option, Some, None, Result, Ok, Err, Bool, true, false, List, [], ◌∷◌, ◌++◌, ◌&&◌, inl, inr, refl, sym, ap, ◌∙◌}
use Rattle.std.proofs.lemmas.Bool.{and_from, and_parts, cases_Bool, cond-true, cond-false}
use Rattle.std.specs.List.{AllByRecursion}
use Rattle.game_tables.specs.declared.code.Code.{Code}
use Rattle.game_tables.specs.declared.code.Code.TheVariants.{Done}
use Rattle.game_tables.specs.Actions.{max_range, needed_part}
use Rattle.game_tables.specs.declared.action.Action.{Action}
use Rattle.game_tables.specs.declared.kind.Part.{Part}
use Rattle.game_tables.specs.declared.action.Action.TheVariants.{DropLoad, Transfer, Withdraw, Pickup, Harvest, Repair, Build, ClaimController, Upgrade, Reserve, AttackController, Move}
use Rattle.action_checks.specs.inner.Passing.{Passes}
use Rattle.world_rules.specs.Checks.{Check, Scene, all_hold, amount_checks, checks, creep_checks, first_failing, further_checks, part_checks, target_checks}

-- All of both parts hold.
pub hold_both : (early late : List Check) → all_hold early ≡ true → all_hold late ≡ true → all_hold (early ++ late) ≡ true
hold_both [] late holds later = later
hold_both (check ∷ early) late holds later =
    let both = and_parts check.0 (all_hold early) holds in
    ap (λ (b : Bool). b && all_hold (early ++ late)) both.0 ∙ hold_both early late both.1 later

-- Where a check of the first part fails, the first of all is there.
pub fails_early : (early late : List Check) → all_hold early ≡ false → (first_failing (early ++ late) ≡ first_failing early) × (all_hold (early ++ late) ≡ false)
fails_early [] late fails = absurd cc
fails_early (check ∷ early) late fails =
    elim (cases_Bool check.0) [
      | inl holds ↦
          let rest = fails_early early late (sym (ap (λ (b : Bool). b && all_hold early) holds) ∙ fails) in
          (cond-true _ _ _ holds ∙ rest.0 ∙ sym (cond-true _ _ _ holds), ap (λ (b : Bool). b && all_hold (early ++ late)) holds ∙ rest.1)
      | inr not_so ↦ (cond-false _ _ _ not_so ∙ sym (cond-false _ _ _ not_so), ap (λ (b : Bool). b && all_hold (early ++ late)) not_so)
    ]

-- Where the first part holds, the first of all is that of the second part.
pub fails_late : (early late : List Check) → all_hold early ≡ true → (first_failing (early ++ late) ≡ first_failing late) × (all_hold (early ++ late) ≡ all_hold late)
fails_late [] late holds = (refl, refl)
fails_late (check ∷ early) late holds =
    let both = and_parts check.0 (all_hold early) holds in
    let rest = fails_late early late both.1 in
    (cond-true _ _ _ both.0 ∙ rest.0, ap (λ (b : Bool). b && all_hold (early ++ late)) both.0 ∙ rest.1)

-- What comes of the second part, where the first holds, comes of all.
pub passes_later : (early late : List Check) (result : Result (Unit {0}) Code) → all_hold early ≡ true → Passes result late → Passes result (early ++ late)
passes_later early late (Ok done) holds passes = hold_both early late holds passes
passes_later early late (Err code) holds passes = let rest = fails_late early late holds in (rest.0 ∙ passes.0, rest.1 ∙ passes.1)

-- Where all hold, none is the first that fails.
pub done_where_all : (list : List Check) → all_hold list ≡ true → first_failing list ≡ Done
done_where_all [] holds = refl
done_where_all (check ∷ later) holds =
    let both = and_parts check.0 (all_hold later) holds in
    cond-true _ _ _ both.0 ∙ done_where_all later both.1

-- ---- no check has the code Done

abbrev pub HaveCodes : List Check → Type 0
HaveCodes list = AllByRecursion (λ (check : Check). check.1 ≢ Done) list

have_both : (early late : List Check) → HaveCodes early → HaveCodes late → HaveCodes (early ++ late)
have_both [] late have more = more
have_both (check ∷ early) late have more = (have.0, have_both early late have.1 more)

part_codes : (needed : Option Part) (scene : Scene) → HaveCodes (part_checks needed scene)
part_codes None scene = tt
part_codes (Some part) scene = (λ e. cc, tt)

target_codes : (range : Option ℕ) (action : Action) (scene : Scene) → HaveCodes (target_checks range action scene)
target_codes None action scene = tt
target_codes (Some range) action scene = (λ e. cc, (λ e. cc, tt))

further_codes : (action : Action) (scene : Scene) → HaveCodes (further_checks action scene)
further_codes DropLoad scene = (λ e. cc, tt)
further_codes Transfer scene = (λ e. cc, (λ e. cc, tt))
further_codes Withdraw scene = (λ e. cc, (λ e. cc, (λ e. cc, tt)))
further_codes Pickup scene = (λ e. cc, tt)
further_codes Harvest scene = (λ e. cc, (λ e. cc, tt))
further_codes Repair scene = (λ e. cc, tt)
further_codes Build scene = (λ e. cc, (λ e. cc, (λ e. cc, tt)))
further_codes ClaimController scene = (λ e. cc, (λ e. cc, tt))
further_codes Upgrade scene = (λ e. cc, (λ e. cc, tt))
further_codes Reserve scene = (λ e. cc, tt)
further_codes AttackController scene = (λ e. cc, tt)
further_codes Move scene = (λ e. cc, tt)
further_codes _ scene = tt

pub have_codes : (action : Action) (scene : Scene) → HaveCodes (checks action scene)
have_codes action scene =
    have_both (creep_checks scene ++ amount_checks action scene ++ part_checks (needed_part action) scene ++ target_checks (max_range action) action scene) (further_checks action scene)
    (have_both (creep_checks scene ++ amount_checks action scene ++ part_checks (needed_part action) scene) (target_checks (max_range action) action scene)
    (have_both (creep_checks scene ++ amount_checks action scene) (part_checks (needed_part action) scene) (λ e. cc, (λ e. cc, (λ e. cc, tt))) (part_codes (needed_part action) scene))
    (target_codes (max_range action) action scene))
    (further_codes action scene)

pub all_where_done : (list : List Check) → HaveCodes list → first_failing list ≡ Done → all_hold list ≡ true
all_where_done [] have done = refl
all_where_done (check ∷ later) have done =
    elim (cases_Bool check.0) [
      | inl holds ↦ ap (λ (b : Bool). b && all_hold later) holds ∙ all_where_done later have.1 (sym (cond-true _ _ _ holds) ∙ done)
      | inr not_so ↦ absurd (have.0 (sym (cond-false _ _ _ not_so) ∙ done))
    ]

-- Where none of all checks fails, the first of them hold.
pub own_checks : (own late : List Check) → HaveCodes own → first_failing (own ++ late) ≡ Done → all_hold own ≡ true
own_checks own late have done =
    elim (cases_Bool (all_hold own)) [
      | inl holds ↦ holds
      | inr not_so ↦ all_where_done own have (sym (fails_early own late not_so).0 ∙ done)
    ]

-- All hold exactly where each does.
pub each_holds : (list : List Check) → all_hold list ≡ true → AllByRecursion (λ (check : Check). check.0 ≡ true) list
each_holds [] holds = tt
each_holds (check ∷ later) holds = let both = and_parts check.0 (all_hold later) holds in (both.0, each_holds later both.1)

pub hold_each : (list : List Check) → AllByRecursion (λ (check : Check). check.0 ≡ true) list → all_hold list ≡ true
hold_each [] each = refl
hold_each (check ∷ later) each = and_from check.0 (all_hold later) each.0 (hold_each later each.1)

-- Where none of an action's checks is the first that fails, all hold.
pub all_hold_where_done : (action : Action) (scene : Scene) → first_failing (checks action scene) ≡ Done → all_hold (checks action scene) ≡ true
all_hold_where_done action scene = all_where_done (checks action scene) (have_codes action scene)

-- Checks that fail in the middle.
pub fails_between : (first middle last : List Check) (code : Code) → all_hold first ≡ true → (first_failing middle ≡ code) × (all_hold middle ≡ false)
    → (first_failing (first ++ middle ++ last) ≡ code) × (all_hold (first ++ middle ++ last) ≡ false)
fails_between first middle last code holds fails =
    let late = fails_late first middle holds in
    let early = fails_early (first ++ middle) last (late.1 ∙ fails.1) in
    (early.0 ∙ late.0 ∙ fails.0, early.1)
