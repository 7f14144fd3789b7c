use Rattle.recorded_tick.proofs.Standings.{accounts_there, led_from, rooms_there}
use Rattle.recorded_tick.proofs.recorder.Recorder.lead.Goals as goal

pub put-requires-clause-rooms : goal.put-requires-clause-rooms
put-requires-clause-rooms c = rooms_there c.args.self.now.last c.requires.0 c.requires.1 c.args.entry.now c.requires.2

pub put-requires-clause-accounts : goal.put-requires-clause-accounts
put-requires-clause-accounts c = accounts_there c.args.self.now.last c.requires.0 c.requires.1 c.args.entry.now c.requires.2

pub returns : goal.returns
returns c = λ before stands. led_from c.args.self.now.last before stands c.args.entry.now c.put.new.world c.in_ok-put.ensures
