-- What a run leaves is what the module emits.
use Rattle.std.proofs.Common.{◌≡◌, ℕ, ◌+◌, ◌≤◌, refl, ap, sym, ◌∙◌, subst, arith, List, [], Option, IsPermutation}
use Rattle.std.specs.List.{IsDistinct}
use Rattle.std.proofs.lemmas.List.Sorted.{IsPermutation-sym}
use Rattle.std.proofs.lemmas.Map.Keys.{IsDistinct-IsPermutation}
use Rattle.wasm_steps.specs.Program.{Program, Store}
use Rattle.wasm_steps.specs.Steps.{Meaning, State}
use Rattle.wasm_steps.specs.Runs.{EndsFrom, Ends, ends_main, ends_in_start, ends_behind_start, behind}
use Rattle.wasm_steps.specs.declared.outcome.Outcome.{Outcome}
use Rattle.wasm_steps.specs.declared.outcome.Outcome.TheVariants.{Finished, Trapped, Spent}
use Rattle.wasm_link.specs.Kept.{Kept, link_view}
use Rattle.wasm_link.specs.Linking.{first_store}
use Rattle.wasm_machine.specs.Runs.{Runs}
use Rattle.intent_book.specs.Records.{IsCanonical, place, same_place}
use Rattle.intent_book.specs.declared.intent.Intent.{Intent}
use Rattle.intent_book.specs.declared.player_run.PlayerRun.{PlayerRun}
use Rattle.intent_book.proofs.Orders.{place_symm}
use Rattle.visible_view.specs.Sights.{Sight}
use Rattle.host_calls.specs.Desks.{Desk, desk_of}
use Rattle.host_calls.specs.Replies.{answers}
use Rattle.player_run.specs.Emitted.{EmitsBy, fuel_of, outcome_of, used_of}

-- ---- no run uses more than its fuel

behind_used : (before : ℕ) (outcome : Outcome) → used_of (behind before outcome) ≡ before + used_of outcome
behind_used before (Finished used) = refl
behind_used before (Trapped used trap) = refl
behind_used before (Spent used) = refl

module _ (program : Program) {S : Type 0} (H : Meaning S) where
  from_within : (first : State S) (fuel : ℕ) (outcome : Outcome) (last : State S) → EndsFrom program H first fuel outcome last → used_of outcome ≤ fuel
  from_within first fuel (Finished used) last e = e.0
  from_within first fuel (Trapped used trap) last e = e.0
  from_within first fuel (Spent used) last e = let same = e.0 in omega (arith, same)

  ends_within : {main fuel : ℕ} {start : Option ℕ} {store : Store} {host : S} {outcome : Outcome} {last : State S} → Ends program H main start store host fuel outcome last → used_of outcome ≤ fuel
  ends_within {fuel = f} {outcome = o} {last = l} (ends_main {thread = t} {store = s} {host = h} v e) = from_within (record { thread = t; store = s; host = h }) f o l e
  ends_within {fuel = f} {outcome = o} {last = l} (ends_in_start {thread = t} {store = s} {host = h} v e u) = from_within (record { thread = t; store = s; host = h }) f o l e
  ends_within {fuel = f} (ends_behind_start {used = n} {outcome = o} v e d) =
      let later = ends_within d in
      let first : n ≤ f = e.0 in
      let sum = behind_used n o in
      omega (arith, later, first, sum)

-- ---- the run

-- Where no two of the canonical list have one action and actor, no two of the entries have.
pub distinct_before : (entries list : List Intent) → IsPermutation entries list → IsDistinct same_place list → IsDistinct same_place entries
distinct_before entries list same distinct =
    IsDistinct-IsPermutation same_place (λ a b. place_symm (place a) (place b)) list entries (IsPermutation-sym entries list same) distinct

pub begins : (sight : Sight) (desk : Desk) (player : ℕ) (memory : List ℕ) → desk ≡ record { sight = sight; book = record { player = player; entries = [] }; memory = memory }
    → player ≡ sight.account.player → memory ≡ sight.account.memory → desk ≡ desk_of sight
begins sight desk player memory made own text = made ∙ (λ i. record { sight = sight; book = record { player = own i; entries = [] }; memory = text i })

module _ (linked : Kept) (sight : Sight) (desk later : Desk) (fuel : ℕ) (outcome : Outcome) (runs : Runs linked answers desk fuel outcome later)
    (begun : desk ≡ desk_of sight) (allowed : fuel ≡ fuel_of sight.account) where
  pub emits : (run : PlayerRun) → run.player ≡ sight.account.player → run.outcome ≡ outcome_of outcome → run.used ≡ used_of outcome
      → IsDistinct same_place later.book.entries → IsCanonical later.book.entries run.intents → run.memory ≡ later.memory → EmitsBy (link_view linked) sight run
  emits run player ended used single intents memory = record {
    outcome = outcome;
    last = runs.0;
    ends = subst (λ (z : ℕ). Ends (link_view linked).program answers (link_view linked).main (link_view linked).whole.start (first_store (link_view linked).whole) (desk_of sight) z outcome runs.0) allowed
        (subst (λ (z : Desk). Ends (link_view linked).program answers (link_view linked).main (link_view linked).whole.start (first_store (link_view linked).whole) z fuel outcome runs.0) begun runs.1);
    player = player;
    ended = ended;
    used = used;
    single = subst (λ (z : Desk). IsDistinct same_place z.book.entries) (sym runs.2) single;
    intents = subst (λ (z : Desk). IsCanonical z.book.entries run.intents) (sym runs.2) intents;
    memory = memory ∙ ap (λ (z : Desk). z.memory) (sym runs.2);
  }

pub uses_within : (linked : Kept) (sight : Sight) (desk later : Desk) (fuel : ℕ) (outcome : Outcome) → Runs linked answers desk fuel outcome later → fuel ≡ fuel_of sight.account
    → used_of outcome ≤ fuel_of sight.account
uses_within linked sight desk later fuel outcome runs allowed = subst (λ (z : ℕ). used_of outcome ≤ z) allowed (ends_within (link_view linked).program answers runs.1)
