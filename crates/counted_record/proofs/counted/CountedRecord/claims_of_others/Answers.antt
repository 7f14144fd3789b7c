use Rattle.std.proofs.Common.{◌≡◌, ◌-◌, ◌∙◌, ap, length, arith}
use Rattle.game_tables.specs.declared.action.Action.TheVariants.{ClaimController}
use Rattle.counted_record.specs.Others.{others_of}
use Rattle.counted_record.proofs.Counting.{claims_are}
use Rattle.counted_record.proofs.counted.CountedRecord.claims_of_others.Goals as goal

pub overflow_sub-result : goal.overflow_sub-result
overflow_sub-result c =
    let are = claims_are c.self.inside.book.entries c.self.inside.planned.items c.self.inside.claims c.self.invariant.0 c.args.creep c.len-len.ensures.distinct c.holds.result c.holds.ensures in
    omega (arith, are, c.from.ensures)

pub returns : goal.returns
returns c =
    let entries = c.self.inside.book.entries in
    let are = claims_are entries c.self.inside.planned.items c.self.inside.claims c.self.invariant.0 c.args.creep c.len-len.ensures.distinct c.holds.result c.holds.ensures in
    let others : c.self.inside.claims - c.from.result ≡ length (others_of ClaimController c.args.creep entries) = omega (arith, are, c.from.ensures) in
    others ∙ ap (λ r. length (others_of ClaimController c.args.creep r.entries)) c.self.view_is
