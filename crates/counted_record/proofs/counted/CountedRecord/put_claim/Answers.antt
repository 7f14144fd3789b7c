use Rattle.std.proofs.Common.{◌≡◌, ℕ, ◌+◌, ◌∙◌, cond, ap, sym, subst, arith}
use Rattle.game_tables.specs.declared.action.Action.TheVariants.{ClaimController}
use Rattle.intent_book.specs.Records.{Record}
use Rattle.counted_record.specs.inner.Planned.{IsCounting}
use Rattle.counted_record.proofs.Counting.{claims_fit, counting_claim, stands}
use Rattle.counted_record.proofs.counted.CountedRecord.put_claim.Goals as goal

pub overflow_add-self : goal.overflow_add-self
overflow_add-self c =
    omega (arith, claims_fit c.self.inside.book.entries c.self.inside.planned.items c.self.inside.claims c.self.invariant.0, c.len-len.ensures.len, c.len-len.ensures.most)

pub invariant_of-self-then-not-again : goal.invariant_of-self-then-not-again
invariant_of-self-then-not-again c =
    let entries = c.self.inside.book.entries in
    let claims = c.self.inside.claims in
    let again = ap {B = ℕ} (λ b. cond b 1 0) (sym c.holds-again.ensures ∙ c.if-not-again.true) in
    let more : claims + 1 + cond (stands ClaimController c.args.intent.actor entries) 1 0 ≡ claims + 1 = omega (arith, again) in (
      subst (λ (r : Record). IsCounting r.entries c.self.inside.planned.items (claims + 1)) (sym c.if-not-put.ensures.record)
          (counting_claim entries c.self.inside.planned.items claims c.self.invariant.0 c.args.intent c.requires.action c.len-len.ensures.distinct (claims + 1) more),
      c.self.invariant.1,
    )

pub invariant_of-self-else-not-again : goal.invariant_of-self-else-not-again
invariant_of-self-else-not-again c =
    let entries = c.self.inside.book.entries in
    let claims = c.self.inside.claims in
    let again = ap {B = ℕ} (λ b. cond b 1 0) (sym c.holds-again.ensures ∙ c.if-not-again.false) in
    let more : claims + cond (stands ClaimController c.args.intent.actor entries) 1 0 ≡ claims + 1 = omega (arith, again) in (
      subst (λ (r : Record). IsCounting r.entries c.self.inside.planned.items claims) (sym c.if-not-put.ensures.record)
          (counting_claim entries c.self.inside.planned.items claims c.self.invariant.0 c.args.intent c.requires.action c.len-len.ensures.distinct claims more),
      c.self.invariant.1,
    )
