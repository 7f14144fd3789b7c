use Rattle.std.proofs.Common.{◌≡◌, List, length, ap, arith, subst, sym, ◌∙◌}
use Rattle.std.specs.List.{flat_map}
use Rattle.intent_book.specs.declared.intent.Intent.{Intent}
use Rattle.kept_entries.specs.Turns.{AreKept}
use Rattle.ruled_tick.proofs.Few.{kept_few}
use Rattle.tick_journal.specs.declared.entries.RunEntry.{RunEntry}
use Rattle.tick_journal.specs.declared.tick_record.TickRecord.{TickRecord}
use Rattle.world_rules.specs.World.{world_of}
use Rattle.world_replay.specs.Replayed.{wanted}
use Rattle.world_replay.proofs.Replays.{few_wanted, forms_ruled, frame_ruled}
use Rattle.world_replay.proofs.replay.ruled_world.Goals as goal

wanted_is : (list intents : List Intent) (runs : List RunEntry) (entry : TickRecord) → list ≡ intents → intents ≡ flat_map (λ (run : RunEntry). run.intents) runs → runs ≡ entry.runs → list ≡ wanted entry
wanted_is list intents runs entry same is all = same ∙ (is ∙ ap (flat_map (λ (run : RunEntry). run.intents)) all)

pub tick_taken-requires-clause-few : goal.tick_taken-requires-clause-few
tick_taken-requires-clause-few c =
    let same = wanted_is c.deref.result.now c.in_ok-wanted.wanted.items c.as_slice.result.now c.args.entry.now c.deref.ensures.value c.in_ok-wanted.ensures c.as_slice.ensures in
    let most = few_wanted c.args.own c.args.entry.now c.requires.hosted c.requires.form c.requires.fits in
    omega (arith, most, ap length same, ap length c.deref-2.ensures.value, kept_few (world_of c.args.own) c.deref.result.now c.in_ok-entries.entries.items c.in_ok-entries.ensures)

pub tick_taken-requires-clause-kept : goal.tick_taken-requires-clause-kept
tick_taken-requires-clause-kept c = (c.deref.result.now, subst (AreKept (world_of c.args.own) c.deref.result.now) (sym c.deref-2.ensures.value) c.in_ok-entries.ensures)

pub returns-clause-ruled : goal.returns-clause-ruled
returns-clause-ruled c =
    let same = wanted_is c.deref.result.now c.in_ok-wanted.wanted.items c.as_slice.result.now c.args.entry.now c.deref.ensures.value c.in_ok-wanted.ensures c.as_slice.ensures in
    let kept = subst (AreKept (world_of c.args.own) c.deref.result.now) (sym c.deref-2.ensures.value) c.in_ok-entries.ensures in
    forms_ruled c.args.own c.args.entry.now c.requires.hosted c.requires.form c.requires.fits c.in_ok-ruled.ruled c.deref.result.now same (c.in_ok-ruled.ensures.ruled c.deref.result.now kept) c.in_ok-ruled.ensures.sound

pub returns-clause-sound : goal.returns-clause-sound
returns-clause-sound c = c.in_ok-ruled.ensures.sound

pub returns-clause-frame : goal.returns-clause-frame
returns-clause-frame c =
    let kept = subst (AreKept (world_of c.args.own) c.deref.result.now) (sym c.deref-2.ensures.value) c.in_ok-entries.ensures in
    frame_ruled c.args.own c.in_ok-ruled.ruled c.deref.result.now c.requires.hosted.sound c.in_ok-ruled.ensures.sound (c.in_ok-ruled.ensures.ruled c.deref.result.now kept)
