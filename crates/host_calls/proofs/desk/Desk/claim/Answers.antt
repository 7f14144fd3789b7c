use Rattle.std.specs.Option.{unwrap_or}
use Rattle.std.proofs.Common.{◌≡◌, ℕ, ◌+◌, Option, pos, sym, ap, ◌∙◌, w64, FitsSigned, length}
use Rattle.std.proofs.lemmas.Int.{to_z-of_z}
use Rattle.game_tables.specs.declared.action.Action.TheVariants.{ClaimController}
use Rattle.intent_book.specs.declared.intent.Intent.{Intent}
use Rattle.world_rules.specs.Checks.{Scene, checks, first_failing}
use Rattle.object_store.specs.declared.account.Account.{Account}
use Rattle.counted_record.specs.Others.{others_of}
use Rattle.sight_census.specs.Censuses.{Census, census_of}
use Rattle.host_calls.specs.Desks.{Desk, global_level}
use Rattle.host_calls.specs.Replies.{claim_seen, id_of, record_checks, scene_seen, wish_of}
use Rattle.host_calls.proofs.Wanting.{code_early, code_late, unrecorded}
use Rattle.host_calls.proofs.desk.Desk.claim.Goals as goal

pub returns-in-Done-clause-code : goal.returns-in-Done-clause-code
returns-in-Done-clause-code c =
    let desk = c.args.self.now in
    let id : FitsSigned w64 c.args.id = c.ranges.id in
    let target : FitsSigned w64 c.args.target = c.ranges.target in
    let read = simp to_z-of_z at c.scene_seen.ensures in
    let scene = read ∙ ap (λ (d : Desk). scene_seen d.sight c.args.id c.args.target (pos 0)) c.self.view_is in
    let actor = c.unwrap_or.ensures ∙ ap (λ (found : Option ℕ). unwrap_or found 0) (simp to_z-of_z at c.id_of.ensures) in
    let owned = c.from.ensures ∙ c.controllers.ensures ∙ ap (λ (census : Census). census.controllers) c.self.invariant.4 ∙ ap (λ (d : Desk). (census_of d.sight).controllers) c.self.view_is in
    let others = c.from-2.ensures ∙ c.claims_of_others-others.ensures ∙ ap (λ (n : ℕ). length (others_of ClaimController n c.self.inside.book.entries)) actor
    ∙ ap (λ (d : Desk). length (others_of ClaimController (id_of c.args.id) d.book.entries)) c.self.view_is in
    let level = c.self.invariant.1 ∙ ap (λ (d : Desk). global_level d.sight.account.points) c.self.view_is in
    let whole : _ ≡ claim_seen desk c.args.id c.args.target = λ i. record (scene i) { claims = owned i + others i; level = level i } in
    let own = ap (λ (a : Account). a.player) c.account.ensures ∙ ap (λ (d : Desk). d.sight.account.player) c.self.view_is in
    let wants = simp to_z-of_z at c.wish_of.ensures in
    let done = sym (c.first_failing.ensures ∙ ap (λ (s : Scene). first_failing (checks ClaimController s)) whole) ∙ c.in-Done.is in
    c.record.ensures.code
    ∙ ap (λ (i : Intent). first_failing (record_checks desk i)) wants
    ∙ (λ i. first_failing (record_checks desk (wish_of ClaimController (own i) c.args.id c.args.target (pos 0))))
    ∙ sym (code_late ClaimController (claim_seen desk c.args.id c.args.target) (record_checks desk (wish_of ClaimController desk.sight.account.player c.args.id c.args.target (pos 0))) done)

pub returns-in_default : goal.returns-in_default
returns-in_default c =
    let desk = c.args.self.now in
    let id : FitsSigned w64 c.args.id = c.ranges.id in
    let target : FitsSigned w64 c.args.target = c.ranges.target in
    let read = simp to_z-of_z at c.scene_seen.ensures in
    let scene = read ∙ ap (λ (d : Desk). scene_seen d.sight c.args.id c.args.target (pos 0)) c.self.view_is in
    let actor = c.unwrap_or.ensures ∙ ap (λ (found : Option ℕ). unwrap_or found 0) (simp to_z-of_z at c.id_of.ensures) in
    let owned = c.from.ensures ∙ c.controllers.ensures ∙ ap (λ (census : Census). census.controllers) c.self.invariant.4 ∙ ap (λ (d : Desk). (census_of d.sight).controllers) c.self.view_is in
    let others = c.from-2.ensures ∙ c.claims_of_others-others.ensures ∙ ap (λ (n : ℕ). length (others_of ClaimController n c.self.inside.book.entries)) actor
    ∙ ap (λ (d : Desk). length (others_of ClaimController (id_of c.args.id) d.book.entries)) c.self.view_is in
    let level = c.self.invariant.1 ∙ ap (λ (d : Desk). global_level d.sight.account.points) c.self.view_is in
    let whole : _ ≡ claim_seen desk c.args.id c.args.target = λ i. record (scene i) { claims = owned i + others i; level = level i } in
    let wish = wish_of ClaimController desk.sight.account.player c.args.id c.args.target (pos 0) in
    let fails = sym (c.first_failing.ensures ∙ ap (λ (s : Scene). first_failing (checks ClaimController s)) whole) in
    record {
      code = sym (code_early (checks ClaimController (claim_seen desk c.args.id c.args.target)) (record_checks desk wish) c.first_failing.result fails (λ done. c.in_default.not-Done done));
      desk = unrecorded desk wish c.first_failing.result (λ done. c.in_default.not-Done done);
    }
