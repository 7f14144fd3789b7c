use Rattle.std.proofs.Common.{◌∙◌, ap, length, subst, sym}
use Rattle.std.proofs.lemmas.Bool.{and_parts, MatchBool-at_true}
use Rattle.changed_rules.specs.Counts.{HaveFewSites}
use Rattle.object_store.specs.declared.world.Room.{Room}
use Rattle.std.proofs.Common.{List}
use Rattle.world_replay.specs.Replayed.{forms}
use Rattle.world_replay.specs.inner.Ruling.{AreAlikeTo}
use Rattle.world_replay.proofs.Replays.{many_framed, unruled_here}
use Rattle.world_replay.proofs.Untested.{frame_between, keeps_as_ruled}
use Rattle.world_replay.proofs.Listing.{exhausted_shown, serials_shown}
use Rattle.world_replay.proofs.replay.rule_again.Goals as goal

pub returns-in-Some-clause-unruled : goal.returns-in-Some-clause-unruled
returns-in-Some-clause-unruled c = exhausted_shown c.args.own c.in-Some.index c.in-Some.ensures.some

pub compare_rooms-requires-clause-many : goal.compare_rooms-requires-clause-many
compare_rooms-requires-clause-many c =
    ap length c.room_list.ensures.all ∙ (many_framed c.in-Ok.ruled c.args.after.now (frame_between c.args.own c.in-Ok.ruled c.args.after.now c.in-Ok.ensures.frame c.requires.frame) ∙ sym (ap length c.room_list-2.ensures.all))

pub returns-in-Ok-has_few_sites-clause-serials : goal.returns-in-Ok-has_few_sites-clause-serials
returns-in-Ok-has_few_sites-clause-serials c = serials_shown c.args.own c.in_default.ensures.none

pub returns-in-Ok-has_few_sites-clause-frame : goal.returns-in-Ok-has_few_sites-clause-frame
returns-in-Ok-has_few_sites-clause-frame c = frame_between c.args.own c.in-Ok.ruled c.args.after.now c.in-Ok.ensures.frame c.requires.frame

pub returns-in-Ok-has_few_sites-clause-keeps : goal.returns-in-Ok-has_few_sites-clause-keeps
returns-in-Ok-has_few_sites-clause-keeps c = λ both.
    let parts = and_parts c.in-Ok-compare_rooms.alike c.in-Ok-has_few_sites.few both in
    let rooms = subst (λ (rooms : List Room). AreAlikeTo (length rooms) rooms c.in-Ok.ruled.rooms) c.room_list.ensures.all
    (subst (λ (rooms : List Room). AreAlikeTo (length c.room_list.result.now) c.room_list.result.now rooms) c.room_list-2.ensures.all (c.in-Ok-compare_rooms.ensures.alike parts.0)) in
    keeps_as_ruled c.in-Ok.ruled c.args.after.now (frame_between c.args.own c.in-Ok.ruled c.args.after.now c.in-Ok.ensures.frame c.requires.frame) rooms c.in-Ok.ensures.sound c.requires.rising
    (MatchBool-at_true (HaveFewSites c.in-Ok.ruled.rooms) _ parts.1 c.in-Ok-has_few_sites.ensures)

pub returns-in-Err-clause-unruled : goal.returns-in-Err-clause-unruled
returns-in-Err-clause-unruled c =
    unruled_here c.args.own c.args.told.now (forms c.room_list.result.now) (forms c.room_list-2.result.now) (forms c.args.after.now.rooms)
    (ap forms c.room_list.ensures.all) (ap forms c.room_list-2.ensures.all ∙ c.in-Ok.ensures.ruled)
    (serials_shown c.args.own c.in_default.ensures.none) c.in-Err.status c.in-Err.ensures.unlike
