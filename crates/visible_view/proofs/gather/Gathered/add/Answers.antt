-- A room that is seen is kept.
use Rattle.std.proofs.Common.{◌≡◌, ◌+◌, ◌++◌, true, [], ◌∷◌, refl, ap, sym, subst, ◌∙◌}
use Rattle.visible_view.specs.inner.Gathered.{is_seen, KeepsRoomIf}
use Rattle.visible_view.proofs.gather.Gathered.add.Goals as goal

pub returns-in_ok-push-2-clause-added : goal.returns-in_ok-push-2-clause-added
returns-in_ok-push-2-clause-added c =
    let room = c.args.room.now in
    let old = c.args.self.now in
    let found = c.tally-found in
    let seen : is_seen c.args.player room ≡ true = sym found.ensures.seen ∙ c.if-found.true in
    record {
      rooms = subst (λ b. KeepsRoomIf b c.args.index room old.rooms.items c.push-then-found.new.self.items) (sym seen) (record { kept = record { index = c.args.index; room = c.args.room }; last = c.in_ok-push-2.ensures.items; place = refl; stored = refl });
      flags = c.in_ok-push.ensures.items ∙ ap (λ b. old.flags.items ++ b ∷ []) found.ensures.seen;
      sites = ap (λ n. old.sites + n) found.ensures.sites;
      controllers = ap (λ n. old.controllers + n) found.ensures.controllers;
    }
