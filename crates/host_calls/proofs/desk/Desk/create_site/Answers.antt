use Rattle.std.proofs.Common.{refl, sym, ap, subst, ◌∙◌, w64, FitsSigned}
use Rattle.std.proofs.lemmas.Int.{to_z-of_z}
use Rattle.object_store.specs.declared.account.Account.{Account}
use Rattle.intent_book.specs.declared.intent.Intent.{Intent}
use Rattle.world_rules.specs.Checks.{first_failing}
use Rattle.world_rules.specs.Sites.{Plan, site_checks}
use Rattle.host_calls.specs.Desks.{Desk}
use Rattle.host_calls.specs.Replies.{plan_seen, record_checks, seen_room, site_code, site_code_in, site_wish}
use Rattle.host_calls.specs.inner.Wishes.{IsPlanIn}
use Rattle.host_calls.proofs.Planned.{not_planned, planned}
use Rattle.host_calls.proofs.Wanting.{checks_late, code_early, site_codes, unrecorded}
use Rattle.host_calls.proofs.desk.Desk.create_site.Goals as goal

pub returns-in_default-clause-code : goal.returns-in_default-clause-code
returns-in_default-clause-code c =
    let inside : Desk = record { sight = c.self.inside.view.now; book = c.self.inside.book; memory = c.self.inside.memory.items } in
    let room : FitsSigned w64 c.args.room = c.ranges.room in
    let x : FitsSigned w64 c.args.x = c.ranges.x in
    let y : FitsSigned w64 c.args.y = c.ranges.y in
    let kind : FitsSigned w64 c.args.kind = c.ranges.kind in
    let wish = simp to_z-of_z at c.site_wish-wish.ensures in
    let own = wish ∙ ap (λ (a : Account). site_wish a.player c.args.room c.args.x c.args.y c.args.kind) c.account.ensures in
    let read = simp to_z-of_z at c.plan_seen.ensures.plan in
    let seen = seen_room inside c.args.room in
    let is = subst (λ (w : Intent). IsPlanIn inside w c.args.x c.args.y seen c.plan_seen.result) own (read inside refl refl) in
    let wants = site_wish inside.sight.account.player c.args.room c.args.x c.args.y c.args.kind in
    let none = not_planned inside wants c.args.x c.args.y seen c.plan_seen.result is c.in_default.is in
    sym (ap (site_code_in inside wants c.args.x c.args.y) none)
    ∙ ap (λ (d : Desk). site_code d c.args.room c.args.x c.args.y c.args.kind) c.self.view_is

pub site_code-requires : goal.site_code-requires
site_code-requires c =
    let inside : Desk = record { sight = c.self.inside.view.now; book = c.self.inside.book; memory = c.self.inside.memory.items } in
    let room : FitsSigned w64 c.args.room = c.ranges.room in
    let x : FitsSigned w64 c.args.x = c.ranges.x in
    let y : FitsSigned w64 c.args.y = c.ranges.y in
    let kind : FitsSigned w64 c.args.kind = c.ranges.kind in
    let wish = simp to_z-of_z at c.site_wish-wish.ensures in
    let own = wish ∙ ap (λ (a : Account). site_wish a.player c.args.room c.args.x c.args.y c.args.kind) c.account.ensures in
    let read = simp to_z-of_z at c.plan_seen.ensures.plan in
    let seen = seen_room inside c.args.room in
    let is = subst (λ (w : Intent). IsPlanIn inside w c.args.x c.args.y seen c.plan_seen.result) own (read inside refl refl) in
    let wants = site_wish inside.sight.account.player c.args.room c.args.x c.args.y c.args.kind in
    let found = planned inside wants c.args.x c.args.y seen c.plan_seen.result c.in-Some.plan is c.in-Some.is in
    record { counted = found.3 }

pub returns-in-Done-clause-code : goal.returns-in-Done-clause-code
returns-in-Done-clause-code c =
    let inside : Desk = record { sight = c.self.inside.view.now; book = c.self.inside.book; memory = c.self.inside.memory.items } in
    let room : FitsSigned w64 c.args.room = c.ranges.room in
    let x : FitsSigned w64 c.args.x = c.ranges.x in
    let y : FitsSigned w64 c.args.y = c.ranges.y in
    let kind : FitsSigned w64 c.args.kind = c.ranges.kind in
    let wish = simp to_z-of_z at c.site_wish-wish.ensures in
    let own = wish ∙ ap (λ (a : Account). site_wish a.player c.args.room c.args.x c.args.y c.args.kind) c.account.ensures in
    let read = simp to_z-of_z at c.plan_seen.ensures.plan in
    let seen = seen_room inside c.args.room in
    let is = subst (λ (w : Intent). IsPlanIn inside w c.args.x c.args.y seen c.plan_seen.result) own (read inside refl refl) in
    let wants = site_wish inside.sight.account.player c.args.room c.args.x c.args.y c.args.kind in
    let found = planned inside wants c.args.x c.args.y seen c.plan_seen.result c.in-Some.plan is c.in-Some.is in
    let plan = plan_seen inside wants c.args.x c.args.y found.0 in
    let done = sym (c.site_code.ensures ∙ ap (λ (p : Plan). first_failing (site_checks p)) found.2) ∙ c.in-Done.is in
    c.record.ensures.code
    ∙ ap (λ (i : Intent). first_failing (record_checks inside i)) own
    ∙ sym (checks_late (site_checks plan) (record_checks inside wants) (site_codes plan) done)
    ∙ sym (ap (site_code_in inside wants c.args.x c.args.y) found.1)
    ∙ ap (λ (d : Desk). site_code d c.args.room c.args.x c.args.y c.args.kind) c.self.view_is

pub returns-in_default-site_code : goal.returns-in_default-site_code
returns-in_default-site_code c =
    let inside : Desk = record { sight = c.self.inside.view.now; book = c.self.inside.book; memory = c.self.inside.memory.items } in
    let room : FitsSigned w64 c.args.room = c.ranges.room in
    let x : FitsSigned w64 c.args.x = c.ranges.x in
    let y : FitsSigned w64 c.args.y = c.ranges.y in
    let kind : FitsSigned w64 c.args.kind = c.ranges.kind in
    let wish = simp to_z-of_z at c.site_wish-wish.ensures in
    let own = wish ∙ ap (λ (a : Account). site_wish a.player c.args.room c.args.x c.args.y c.args.kind) c.account.ensures in
    let read = simp to_z-of_z at c.plan_seen.ensures.plan in
    let seen = seen_room inside c.args.room in
    let is = subst (λ (w : Intent). IsPlanIn inside w c.args.x c.args.y seen c.plan_seen.result) own (read inside refl refl) in
    let wants = site_wish inside.sight.account.player c.args.room c.args.x c.args.y c.args.kind in
    let found = planned inside wants c.args.x c.args.y seen c.plan_seen.result c.in-Some.plan is c.in-Some.is in
    let plan = plan_seen inside wants c.args.x c.args.y found.0 in
    let fails = sym (c.site_code.ensures ∙ ap (λ (p : Plan). first_failing (site_checks p)) found.2) in
    let desk = c.args.self.now in
    record {
      code = sym (code_early (site_checks plan) (record_checks inside wants) c.site_code.result fails (λ done. c.in_default-site_code.not-Done done))
          ∙ sym (ap (site_code_in inside wants c.args.x c.args.y) found.1)
          ∙ ap (λ (d : Desk). site_code d c.args.room c.args.x c.args.y c.args.kind) c.self.view_is;
      desk = c.self.view_is ∙ unrecorded desk (site_wish desk.sight.account.player c.args.room c.args.x c.args.y c.args.kind) c.site_code.result (λ done. c.in_default-site_code.not-Done done);
    }
