use Rattle.std.proofs.Common.{List, subst, sym}
use Rattle.intent_book.specs.declared.intent.Intent.{Intent}
use Rattle.world_rules.specs.Intents.{last_of_each, undropped}
use Rattle.kept_entries.specs.declared.entries.Entry.{Entry}
use Rattle.kept_entries.specs.inner.Choosing.{StandFor, by_actor}
use Rattle.kept_entries.proofs.Arranged.{in_turn_is}
use Rattle.kept_entries.proofs.entries.counting.Goals as goal

pub returns : goal.returns
returns c = λ room intents stand.
    let lasts = last_of_each intents in
    let chosen = c.in_ok-keep_last.ensures.last room intents stand in
    let lent : StandFor room c.deref.result.now (by_actor lasts) = subst (λ (list : List Entry). StandFor room list (by_actor lasts)) (sym c.deref.ensures.value) chosen in
    let kept = c.in_ok-kept.ensures room (by_actor lasts) lent in
    let turned = c.in_ok-put_in_turn.ensures room (undropped (by_actor lasts)) kept in
    subst (λ (list : List Intent). StandFor room c.put_in_turn.new.entries.items list) (in_turn_is lasts) turned
