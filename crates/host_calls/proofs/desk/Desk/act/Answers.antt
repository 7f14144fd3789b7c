use Rattle.std.proofs.Common.{sym, ap, ◌∙◌, w64, FitsSigned}
use Rattle.std.proofs.lemmas.Int.{to_z-of_z}
use Rattle.intent_book.specs.declared.intent.Intent.{Intent}
use Rattle.world_rules.specs.Checks.{Scene, checks, first_failing}
use Rattle.object_store.specs.declared.account.Account.{Account}
use Rattle.host_calls.specs.Desks.{Desk}
use Rattle.host_calls.specs.Replies.{record_checks, scene_seen, wish_of}
use Rattle.host_calls.proofs.Wanting.{code_early, code_late, unrecorded}
use Rattle.host_calls.proofs.desk.Desk.act.Goals as goal

pub returns-in-Done-clause-code : goal.returns-in-Done-clause-code
returns-in-Done-clause-code c =
    let desk = c.args.self.now in
    let action = c.args.action in
    let id : FitsSigned w64 c.args.id = c.ranges.id in
    let target : FitsSigned w64 c.args.target = c.ranges.target in
    let amount : FitsSigned w64 c.args.amount = c.ranges.amount in
    let read = simp to_z-of_z at c.scene_seen.ensures in
    let scene = read ∙ ap (λ (d : Desk). scene_seen d.sight c.args.id c.args.target c.args.amount) c.self.view_is in
    let own = ap (λ (a : Account). a.player) c.account.ensures ∙ ap (λ (d : Desk). d.sight.account.player) c.self.view_is in
    let wants = simp to_z-of_z at c.wish_of.ensures in
    let done = sym (c.first_failing.ensures ∙ ap (λ (s : Scene). first_failing (checks action s)) scene) ∙ c.in-Done.is in
    c.record.ensures.code
    ∙ ap (λ (i : Intent). first_failing (record_checks desk i)) wants
    ∙ (λ i. first_failing (record_checks desk (wish_of action (own i) c.args.id c.args.target c.args.amount)))
    ∙ sym (code_late action (scene_seen desk.sight c.args.id c.args.target c.args.amount) (record_checks desk (wish_of action desk.sight.account.player c.args.id c.args.target c.args.amount)) done)

pub returns-in_default : goal.returns-in_default
returns-in_default c =
    let desk = c.args.self.now in
    let action = c.args.action in
    let id : FitsSigned w64 c.args.id = c.ranges.id in
    let target : FitsSigned w64 c.args.target = c.ranges.target in
    let amount : FitsSigned w64 c.args.amount = c.ranges.amount in
    let read = simp to_z-of_z at c.scene_seen.ensures in
    let scene = read ∙ ap (λ (d : Desk). scene_seen d.sight c.args.id c.args.target c.args.amount) c.self.view_is in
    let wish = wish_of action desk.sight.account.player c.args.id c.args.target c.args.amount in
    let fails = sym (c.first_failing.ensures ∙ ap (λ (s : Scene). first_failing (checks action s)) scene) in
    record {
      code = sym (code_early (checks action (scene_seen desk.sight c.args.id c.args.target c.args.amount)) (record_checks desk wish) c.first_failing.result fails (λ done. c.in_default.not-Done done));
      desk = unrecorded desk wish c.first_failing.result (λ done. c.in_default.not-Done done);
    }
