-- The code of a call of an action, by its checks and the record's.
use Rattle.std.proofs.Common.{◌≡◌, ◌≢◌, List, ◌++◌, inl, inr, refl, sym, ◌∙◌}
use Rattle.std.proofs.lemmas.Bool.{cases_Bool}
use Rattle.game_tables.specs.declared.action.Action.{Action}
use Rattle.game_tables.specs.declared.code.Code.{Code}
use Rattle.game_tables.specs.declared.code.Code.TheVariants.{Done}
use Rattle.intent_book.specs.declared.intent.Intent.{Intent}
use Rattle.world_rules.specs.Checks.{Check, Scene, all_hold, checks, first_failing}
use Rattle.world_rules.specs.Sites.{Plan, site_checks}
use Rattle.action_checks.proofs.Passing.{HaveCodes, all_hold_where_done, all_where_done, done_where_all, fails_early, fails_late}
use Rattle.game_tables.specs.Codes.{code_number}
use Rattle.wasm_store.specs.Memory.{Memory}
use Rattle.host_calls.specs.Replies.{wanted}
use Rattle.host_calls.specs.Desks.{Desk}
use Rattle.host_calls.specs.inner.Wishes.{recorded}

-- Where none of the action's checks fails, the first is that of the record.
pub code_late : (action : Action) (scene : Scene) (late : List Check) → first_failing (checks action scene) ≡ Done → first_failing (checks action scene ++ late) ≡ first_failing late
code_late action scene late done = (fails_late (checks action scene) late (all_hold_where_done action scene done)).0

-- The same of any checks none of which has the code Done.
pub checks_late : (own late : List Check) → HaveCodes own → first_failing own ≡ Done → first_failing (own ++ late) ≡ first_failing late
checks_late own late have done = (fails_late own late (all_where_done own have done)).0

pub site_codes : (plan : Plan) → HaveCodes (site_checks plan)
site_codes plan = (λ e. cc, (λ e. cc, (λ e. cc, (λ e. cc, (λ e. cc, (λ e. cc, (λ e. cc, tt)))))))

-- Where one of them fails, it is the first of all.
pub code_early : (own late : List Check) (code : Code) → first_failing own ≡ code → code ≢ Done → first_failing (own ++ late) ≡ code
code_early own late code fails other =
    elim (cases_Bool (all_hold own)) [
      | inl holds ↦ absurd (other (sym fails ∙ done_where_all own holds))
      | inr not_so ↦ (fails_early own late not_so).0 ∙ fails
    ]

-- A refusal records nothing.
pub unrecorded : (desk : Desk) (intent : Intent) (code : Code) → code ≢ Done → desk ≡ recorded desk intent code
unrecorded desk intent Done other = absurd (other refl)
unrecorded desk intent _ other = refl

-- The reply to a call that wants something, by its code.
pub wanted_is : (desk : Desk) (memory : Memory) (intent : Intent) (code : Code) → wanted desk memory intent code ≡ record { answer = code_number code; desk = recorded desk intent code; memory = memory }
wanted_is desk memory intent Done = refl
wanted_is desk memory intent _ = refl
