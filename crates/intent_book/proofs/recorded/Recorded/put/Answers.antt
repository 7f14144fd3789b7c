use Rattle.std.proofs.Common.{◌≡◌, ◌∙◌, arith, ap, sym, subst, refl, ◌+◌, List}
use Rattle.intent_book.specs.declared.intent.Intent.{Intent}
use Rattle.intent_book.specs.inner.Numbered.{listed, IsKept}
use Rattle.intent_book.specs.Records.{AreOf, Record, accepts, put_last}
use Rattle.intent_book.proofs.Orders.{accepts-listed, are_of-put, listed-put, kept-put}
use Rattle.intent_book.proofs.recorded.Recorded.put.Goals as goal

pub returns-then-not-keep-clause-answer : goal.returns-then-not-keep-clause-answer
returns-then-not-keep-clause-answer c =
    c.if-not-keep.ensures.answer
    ∙ sym (accepts-listed c.fresh-order.result c.fresh-order.new.entries.entries c.args.intent c.fresh-order.ensures.kept)
    ∙ ap (λ l. accepts l c.args.intent) (c.fresh-order.ensures.list ∙ ap (λ r. r.entries) c.self.view_is)

pub returns-clause-answer : goal.returns-clause-answer
returns-clause-answer c =
    c.if-not-keep.ensures.answer
    ∙ sym (accepts-listed c.fresh-order.result c.fresh-order.new.entries.entries c.args.intent c.fresh-order.ensures.kept)
    ∙ ap (λ l. accepts l c.args.intent) (c.fresh-order.ensures.list ∙ ap (λ r. r.entries) c.self.view_is)

pub returns-clause-record : goal.returns-clause-record
returns-clause-record c =
    let with : List Intent → Record = λ l. record { player = c.self.inside.player; entries = l } in
    ap (λ l. with (listed (c.fresh-order.result + 1) l)) c.if-not-keep.ensures.entries
    ∙ ap with (listed-put c.args.intent _ c.fresh-order.result c.fresh-order.new.entries.entries refl refl c.fresh-order.ensures.kept c.keep.ensures.unique)
    ∙ ap (λ l. with (put_last l c.args.intent)) c.fresh-order.ensures.list
    ∙ ap (λ (r : Record). record r { entries = put_last r.entries c.args.intent }) c.self.view_is

pub invariant_of-self-2 : goal.invariant_of-self-2
invariant_of-self-2 c =
    let n = c.fresh-order.result in
    let es = c.fresh-order.new.entries.entries in
    let player = c.self.inside.player in
    let listed-now = ap (listed (n + 1)) c.if-not-keep.ensures.entries ∙ listed-put c.args.intent _ n es refl refl c.fresh-order.ensures.kept c.keep.ensures.unique in
    let his : c.args.intent.player ≡ player = c.requires.own ∙ sym (ap (λ r. r.player) c.self.view_is) in
    record {
      kept = subst (IsKept (n + 1)) (sym c.if-not-keep.ensures.entries) (kept-put c.args.intent _ n es refl refl c.fresh-order.ensures.kept c.keep.ensures.unique);
      own = subst (AreOf player) (sym listed-now) (are_of-put player (listed n es) c.args.intent his (subst (AreOf player) (sym c.fresh-order.ensures.list) c.self.invariant.own));
      room = c.keep.ensures.room;
      most = c.keep.ensures.most;
      empty = c.self.invariant.empty;
      list_room = c.self.invariant.list_room;
      below = omega (arith, c.fresh-order.ensures.free);
    }
