-- Calls for claims: their rule counts no controllers.
use Rattle.std.proofs.Common.{◌≡◌, ℕ, pos, true, List, [], ◌++◌, refl, ap, subst, ◌∙◌}
use Rattle.game_tables.specs.declared.action.Action.TheVariants.{ClaimController}
use Rattle.object_store.specs.declared.account.Account.{Account}
use Rattle.intent_book.specs.declared.intent.Intent.{Intent}
use Rattle.world_rules.specs.Checks.{Check, Scene, all_hold, checks, first_failing}
use Rattle.std.proofs.lemmas.List.{append-nil}
use Rattle.action_checks.proofs.Passing.{HaveCodes, done_where_all, each_holds, hold_each, own_checks}
use Rattle.host_calls.proofs.Agreeing.{calls_agree}
use Rattle.game_tables.specs.declared.code.Code.{Code}
use Rattle.visible_view.specs.Sights.{Sight}
use Rattle.host_calls.specs.Agreement.{IsRecorded}
use Rattle.host_calls.specs.Replies.{claim_code, claim_reply, claim_seen, record_checks, scene_seen, wanted, wish_of}
use Rattle.call_agreement.specs.Agreeing.{ClaimsAgree}
use Rattle.call_agreement.proofs.Standing.{recorded_where_0}

-- Without the count of controllers the other checks hold too.
uncounted : (scene : Scene) (claims level : ℕ) (late : List Check) → all_hold (checks ClaimController (record scene { claims = claims; level = level }) ++ late) ≡ true → all_hold (checks ClaimController (record scene { claims = 0; level = 1 }) ++ late) ≡ true
uncounted scene claims level late holds =
    let e = each_holds (checks ClaimController (record scene { claims = claims; level = level }) ++ late) holds in
    hold_each (checks ClaimController (record scene { claims = 0; level = 1 }) ++ late)
    (e.0, (e.1.0, (e.1.1.0, (e.1.1.1.0, (e.1.1.1.1.0, (e.1.1.1.1.1.0, (e.1.1.1.1.1.1.0, (refl, e.1.1.1.1.1.1.1.1))))))))

pub claims_agree : ClaimsAgree
claims_agree memory id target stored account desk sound sees zero =
    let own : desk.sight.account ≡ account = ap (λ (s : Sight). s.account) sees in
    let wish : Intent = wish_of ClaimController desk.sight.account.player id target (pos 0) in
    let seen : Scene = claim_seen desk id target in
    let claim_codes : HaveCodes (checks ClaimController seen ++ record_checks desk wish) = (λ e. cc, (λ e. cc, (λ e. cc, (λ e. cc, (λ e. cc, (λ e. cc, (λ e. cc, (λ e. cc, (λ e. cc, tt))))))))) in
    let done = recorded_where_0 desk memory wish (claim_code desk id target) zero in
    let holds = own_checks (checks ClaimController seen ++ record_checks desk wish) [] claim_codes (ap first_failing (append-nil (checks ClaimController seen ++ record_checks desk wish)) ∙ done.0) in
    let less = uncounted (scene_seen desk.sight id target (pos 0)) seen.claims seen.level (record_checks desk wish) holds in
    let act = done_where_all (checks ClaimController (scene_seen desk.sight id target (pos 0)) ++ record_checks desk wish) less in
    let agrees = calls_agree stored account desk memory ClaimController id target (pos 0) sound sees (ap (λ (code : Code). (wanted desk memory wish code).answer) act) in
    (subst (λ (a : Account). IsRecorded desk (wish_of ClaimController a.player id target (pos 0)) (claim_reply desk memory id target).desk) own done.1, agrees.1)
