use Rattle.recorded_tick.proofs.Alike.{sound_alike}
use Rattle.recorded_tick.proofs.Catching.{caught, many_framed, players_within, tables_within}
use Rattle.recorded_tick.proofs.recorder.catch_up.Goals as goal

pub record_tick-requires-clause-rooms : goal.record_tick-requires-clause-rooms
record_tick-requires-clause-rooms c = (many_framed c.args.world.now c.args.other.now c.requires.frame).rooms

pub record_tick-requires-clause-accounts : goal.record_tick-requires-clause-accounts
record_tick-requires-clause-accounts c = (many_framed c.args.world.now c.args.other.now c.requires.frame).accounts

pub put-requires-clause-rooms : goal.put-requires-clause-rooms
put-requires-clause-rooms c = tables_within c.args.world.now c.args.other.now c.requires.frame c.requires.sound c.requires.well c.new.result.items c.new-2.result.items c.in_ok-differing.differing c.in_ok-differing.ensures

pub put-requires-clause-accounts : goal.put-requires-clause-accounts
put-requires-clause-accounts c = players_within c.args.world.now c.args.other.now c.requires.frame c.requires.sound c.requires.well c.new.result.items c.new-2.result.items c.in_ok-differing.differing c.in_ok-differing.ensures

pub returns-clause-alike : goal.returns-clause-alike
returns-clause-alike c = caught c.args.world.now c.args.other.now c.requires.frame c.requires.sound c.requires.well c.new.result.items c.new-2.result.items c.in_ok-differing.differing c.in_ok-differing.ensures c.put.new.world c.in_ok-put.ensures

pub returns-clause-sound : goal.returns-clause-sound
returns-clause-sound c = sound_alike c.put.new.world c.args.other.now (caught c.args.world.now c.args.other.now c.requires.frame c.requires.sound c.requires.well c.new.result.items c.new-2.result.items c.in_ok-differing.differing c.in_ok-differing.ensures c.put.new.world c.in_ok-put.ensures) c.requires.well
