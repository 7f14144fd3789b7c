use Rattle.recorded_tick.proofs.Standings.{as_many_from, record_from}
use Rattle.recorded_tick.proofs.recorder.Recorder.record.Goals as goal

pub record_tick-requires-clause-rooms : goal.record_tick-requires-clause-rooms
record_tick-requires-clause-rooms c = (as_many_from c.args.self.now.last c.requires.0 c.requires.1 c.args.after.now c.requires.2).rooms

pub record_tick-requires-clause-accounts : goal.record_tick-requires-clause-accounts
record_tick-requires-clause-accounts c = (as_many_from c.args.self.now.last c.requires.0 c.requires.1 c.args.after.now c.requires.2).accounts

pub returns : goal.returns
returns c = λ before stands. record_from c.args.self.now.last before stands c.args.after.now c.args.uploads.items c.args.runs.items c.in_ok-entry.entry c.in_ok-entry.ensures
