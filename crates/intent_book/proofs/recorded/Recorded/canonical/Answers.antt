use Rattle.intent_book.proofs.Moved.{moved_of}
use Rattle.intent_book.proofs.recorded.Recorded.canonical.Goals as goal

pub returns-clause-same : goal.returns-clause-same
returns-clause-same c = (moved_of c.self.inside c.args.self.now c.arranged.result c.self.view_is c.self.invariant c.arranged.ensures.unique c.arranged.ensures.same).same

pub returns-clause-distinct : goal.returns-clause-distinct
returns-clause-distinct c = (moved_of c.self.inside c.args.self.now c.arranged.result c.self.view_is c.self.invariant c.arranged.ensures.unique c.arranged.ensures.same).distinct

pub returns-clause-own : goal.returns-clause-own
returns-clause-own c = (moved_of c.self.inside c.args.self.now c.arranged.result c.self.view_is c.self.invariant c.arranged.ensures.unique c.arranged.ensures.same).own

pub returns-clause-most : goal.returns-clause-most
returns-clause-most c = (moved_of c.self.inside c.args.self.now c.arranged.result c.self.view_is c.self.invariant c.arranged.ensures.unique c.arranged.ensures.same).most
