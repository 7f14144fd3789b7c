use Rattle.std.proofs.Common.{ℕ, List, get_or, subst, sym, arith}
use Rattle.std.proofs.lemmas.Option.{get_or_from_slice_get}
use Rattle.status_session.specs.Session.{IsNamed}
use Rattle.status_session.proofs.Cuts.{false_true}
use Rattle.status_session.proofs.Lines.{one_more}
use Rattle.status_session.proofs.tokens.listed.Goals as goal

pub loop-at-preserved : goal.loop-at-preserved
loop-at-preserved c = let tokens = c.args.tokens.now in let digits = c.args.digits.now in let at = c.loop-at.at in
    one_more (λ k. (d : ℕ × List ℕ) → ¬ IsNamed digits (get_or tokens k d)) at c.loop-at.invariant
    (λ d named. false_true (c.if-is_named.ensures.1 (subst (λ (e : ℕ × List ℕ). IsNamed digits e) (get_or_from_slice_get tokens at c.in-Some.entry.now d (sym c.in-Some.ensures)) named)))

pub returns-clause-none : goal.returns-clause-none
returns-clause-none c = λ k d lt named. c.loop-at.invariant k (omega (arith, lt, c.loop-at-test.false, c.len-at-end.ensures)) d named
