use Rattle.std.proofs.Common.{◌==◌, ap, sym, subst, length, arith, List}
use Rattle.game_tables.specs.Actions.{action_number}
use Rattle.game_tables.specs.declared.action.Action.TheVariants.{CreateSite}
use Rattle.intent_book.specs.Records.{Record, put_last}
use Rattle.counted_record.specs.declared.counted.Planned.{Planned}
use Rattle.counted_record.specs.inner.Planned.{IsCounting}
use Rattle.counted_record.proofs.Counting.{counting_site, length_apart, others_fit}
use Rattle.counted_record.proofs.counted.CountedRecord.put_site.Goals as goal

pub plan-requires : goal.plan-requires
plan-requires c =
    let entries = c.self.inside.book.entries in
    record {
      room = omega (
        arith,
        length_apart entries c.self.inside.planned.items c.self.inside.claims c.self.invariant.0 c.args.intent.actor,
        others_fit CreateSite c.args.intent entries (ap (λ a. action_number a == action_number CreateSite) c.requires.action),
        ap (λ (r : Record). length r.entries) c.if-not-put.ensures.record,
        c.len-len.ensures.len,
        c.len-len.ensures.most,
        c.self.invariant.1,
      );
    }

pub invariant_of-self-2 : goal.invariant_of-self-2
invariant_of-self-2 c =
    let counting = counting_site c.self.inside.book.entries c.self.inside.planned.items c.self.inside.claims c.self.invariant.0 c.args.intent c.requires.action in (
      subst (λ (r : Record). IsCounting r.entries c.plan.new.planned.items c.self.inside.claims) (sym c.if-not-put.ensures.record)
          (subst (λ (l : List Planned). IsCounting (put_last c.self.inside.book.entries c.args.intent) l c.self.inside.claims) (sym c.plan.ensures.items) counting),
      omega (arith, c.plan.ensures.room, c.self.invariant.1),
    )
