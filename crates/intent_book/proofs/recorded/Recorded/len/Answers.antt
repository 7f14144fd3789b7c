use Rattle.std.proofs.Common.{ap, sym, ◌∙◌, length, subst}
use Rattle.std.specs.List.{IsDistinct}
use Rattle.intent_book.specs.Records.{AreOf, same_place}
use Rattle.intent_book.proofs.Orders.{length-listed, distinct-listed}
use Rattle.intent_book.proofs.recorded.Recorded.len.Goals as goal

pub returns-clause-len : goal.returns-clause-len
returns-clause-len c = c.len.ensures.len ∙ sym (length-listed c.self.inside.next c.self.inside.entries.entries c.self.invariant.kept.1) ∙ ap (λ r. length r.entries) c.self.view_is

pub returns-clause-distinct : goal.returns-clause-distinct
returns-clause-distinct c =
    subst (λ r. IsDistinct same_place r.entries) c.self.view_is (distinct-listed c.self.inside.next c.self.inside.entries.entries c.self.invariant.kept c.len.ensures.unique)

pub returns-clause-own : goal.returns-clause-own
returns-clause-own c = subst (λ r. AreOf r.player r.entries) c.self.view_is c.self.invariant.own
