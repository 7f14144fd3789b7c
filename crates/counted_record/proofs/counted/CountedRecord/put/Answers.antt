use Rattle.std.proofs.Common.{sym, subst}
use Rattle.intent_book.specs.Records.{Record}
use Rattle.counted_record.specs.inner.Planned.{IsCounting}
use Rattle.counted_record.proofs.Counting.{counting_other}
use Rattle.counted_record.proofs.counted.CountedRecord.put.Goals as goal

pub invariant_of-self : goal.invariant_of-self
invariant_of-self c =
    let counting = counting_other c.self.inside.book.entries c.self.inside.planned.items c.self.inside.claims c.self.invariant.0 c.put.result c.args.intent c.in_default.not-CreateSite c.in_default.not-ClaimController in
    (subst (λ (r : Record). IsCounting r.entries c.self.inside.planned.items c.self.inside.claims) (sym c.put.ensures.record) counting, c.self.invariant.1)
