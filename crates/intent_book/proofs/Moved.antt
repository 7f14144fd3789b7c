-- What lists of a record's entries have, in whatever order.
use Rattle.std.proofs.Common.{◌≡◌, ◌≤◌, List, length, subst, arith, IsPermutation}
use Rattle.std.proofs.lemmas.List.Sorted.{All-permutation, IsPermutation-sym, IsPermutation-trans, length_permutation}
use Rattle.std.proofs.lemmas.Map.Keys.{IsDistinct-IsPermutation}
use Rattle.std.specs.List.{IsDistinct}
use Rattle.indexmap.specs.IndexMap.{IsUnique}
use Rattle.intent_book.specs.declared.intent.Intent.{Intent}
use Rattle.intent_book.specs.declared.recorded.Recorded.TheInside.{Inside}
use Rattle.intent_book.specs.inner.Held.{IsHeld, record_of}
use Rattle.intent_book.specs.inner.Numbered.{intents, listed}
use Rattle.intent_book.specs.Records.{AreOf, Record, entries_bound, place, place_eq, same_place}
use Rattle.intent_book.proofs.Orders.{distinct_intents, length-intents, listed-permutation, place_symm}

pub record AreMoved (book : Record) (list : List Intent) : Type 0 where
  pub same : IsPermutation book.entries list
  pub distinct : IsDistinct same_place list
  pub own : AreOf book.player list
  pub most : length list ≤ entries_bound

moved_inside : (inside : Inside) (list : List Intent) → IsHeld inside → IsUnique place_eq inside.entries → IsPermutation (intents inside.entries.entries) list → AreMoved (record_of inside) list
moved_inside inside list held unique moved =
    let n = inside.next in
    let rows = inside.entries.entries in
    let turned = IsPermutation-sym (intents rows) (listed n rows) (listed-permutation n rows held.kept.1) in
    record {
      same = IsPermutation-trans (listed n rows) (intents rows) list turned moved;
      distinct = IsDistinct-IsPermutation same_place (λ a b. place_symm (place a) (place b)) (intents rows) list moved (distinct_intents rows held.kept.0 unique);
      own = All-permutation (λ entry. entry.player ≡ inside.player) (intents rows) list moved (All-permutation (λ entry. entry.player ≡ inside.player) (listed n rows) (intents rows) turned held.own);
      most = omega (arith, length_permutation (intents rows) list moved, length-intents rows, held.most);
    }

pub moved_of : (inside : Inside) (book : Record) (list : List Intent) → record_of inside ≡ book → IsHeld inside → IsUnique place_eq inside.entries → IsPermutation (intents inside.entries.entries) list → AreMoved book list
moved_of inside book list is held unique moved = subst (λ (r : Record). AreMoved r list) is (moved_inside inside list held unique moved)
