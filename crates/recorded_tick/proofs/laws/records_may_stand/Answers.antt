use Rattle.recorded_tick.proofs.Leading.{leads, many}
use Rattle.recorded_tick.proofs.Standing.{stands}
use Rattle.recorded_tick.proofs.laws.records_may_stand.Goals as goal

pub returns-clause-stands : goal.returns-clause-stands
returns-clause-stands c = λ before after uploads judged runs entry hosted few well next recorded.
    stands before after uploads judged runs entry hosted well next recorded few

pub returns-clause-leads : goal.returns-clause-leads
returns-clause-leads c = λ before after uploads judged runs entry hosted few well next recorded.
    leads before.world after.world runs hosted.sound well.sound next.ruled judged entry recorded

pub returns-clause-as_many : goal.returns-clause-as_many
returns-clause-as_many c = λ before after uploads judged runs hosted well next.
    many before.world after.world runs hosted.sound well.sound next.ruled
