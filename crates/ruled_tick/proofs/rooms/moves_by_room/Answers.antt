use Rattle.std.proofs.Common.{◌≡◌, ℕ, ◌+◌, List, [], ◌∷◌, ◌++◌, length, take, ap, sym, subst, ◌∙◌, arith}
use Rattle.std.proofs.lemmas.List.{take_more}
use Rattle.intent_book.specs.declared.intent.Intent.{Intent}
use Rattle.kept_entries.specs.declared.entries.Entry.{Entry}
use Rattle.ruled_tick.specs.inner.Ticked.{AreMoves}
use Rattle.ruled_tick.proofs.Places.{written_back}
use Rattle.ruled_tick.proofs.rooms.moves_by_room.Goals as goal

pub loop-entry-preserved : goal.loop-entry-preserved
loop-entry-preserved c =
    let entries = c.args.entries.now in
    let i : ℕ = c.loop-entry.entry-index in
    let entry = c.entry-item.result in
    let items : List (List Intent) = c.loop-entry.moves.items in
    let new : List (List Intent) = c.add_move.new.moves in
    let value = c.deref_mut.ensures.value in
    let long : length new ≡ length c.deref_mut.result.now = c.add_move.auto.moves in
    let full : c.loop-entry.moves.len ≡ length items = omega (arith, c.deref_mut.ensures.len, ap length value) in
    let next = c.in_ok-add_move.ensures c.args.rooms (take i entries) (subst (AreMoves c.args.rooms (take i entries)) (sym value) c.loop-entry.invariant) in
    subst (AreMoves c.args.rooms (take (i + 1) entries)) (sym (written_back items new c.loop-entry.moves.len (long ∙ ap length value) full))
    (subst (λ (done : List Entry). AreMoves c.args.rooms done new) (sym (take_more entries i entry c.loop-entry-test.true ∙ ap (λ (e : Entry). take i entries ++ e ∷ []) (sym c.entry-item.is))) next)
