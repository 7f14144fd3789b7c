use Rattle.std.proofs.Common.{ℕ, [], is_some, sym, ap, ◌∙◌}
use Rattle.indexmap.specs.IndexMap.{get}
use Rattle.intent_book.specs.declared.intent.Intent.{Intent}
use Rattle.intent_book.specs.Records.{has_place, place_eq}
use Rattle.intent_book.proofs.Orders.{has_place-listed}
use Rattle.intent_book.proofs.recorded.Recorded.holds.Goals as goal

pub returns : goal.returns
returns c =
    let probe : Intent = record { player = 0; action = c.args.action; actor = c.args.actor; target = 0; amount = 0; body = [] } in
    c.is_some.ensures ∙ c.get_index_of.ensures.found
    ∙ ap (λ (n : ℕ). is_some (get place_eq c.self.inside.entries (n, c.args.actor))) c.number.ensures
    ∙ sym (has_place-listed c.self.inside.next c.self.inside.entries.entries probe c.self.invariant.kept)
    ∙ ap (λ r. has_place r.entries probe) c.self.view_is
