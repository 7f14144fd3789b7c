use Rattle.std.proofs.Common.{◌∙◌, ap, length, arith}
use Rattle.std.specs.List.{filter}
use Rattle.game_tables.specs.declared.action.Action.TheVariants.{CreateSite}
use Rattle.counted_record.specs.Others.{others_of, others_in}
use Rattle.counted_record.specs.inner.Planned.{is_apart, is_beside}
use Rattle.counted_record.proofs.Counting.{planned_fit, length_apart, length_beside}
use Rattle.counted_record.proofs.counted.CountedRecord.sites_elsewhere.Goals as goal

pub count_elsewhere-requires : goal.count_elsewhere-requires
count_elsewhere-requires c =
    omega (arith, planned_fit c.self.inside.book.entries c.self.inside.planned.items c.self.inside.claims c.self.invariant.0, ap length c.deref.ensures.value, c.len-len.ensures.len, c.len-len.ensures.most)

pub returns-clause-in_room : goal.returns-clause-in_room
returns-clause-in_room c =
    c.count_elsewhere.ensures.in_room
    ∙ ap (λ l. length (filter (is_beside c.args.tile c.args.number) l)) c.deref.ensures.value
    ∙ length_beside c.self.inside.book.entries c.self.inside.planned.items c.self.inside.claims c.self.invariant.0 c.args.tile c.args.number
    ∙ ap (λ r. length (others_in c.args.tile c.args.number r.entries)) c.self.view_is

pub returns-clause-in_all : goal.returns-clause-in_all
returns-clause-in_all c =
    c.count_elsewhere.ensures.in_all
    ∙ ap (λ l. length (filter (is_apart c.args.tile) l)) c.deref.ensures.value
    ∙ length_apart c.self.inside.book.entries c.self.inside.planned.items c.self.inside.claims c.self.invariant.0 c.args.tile
    ∙ ap (λ r. length (others_of CreateSite c.args.tile r.entries)) c.self.view_is
