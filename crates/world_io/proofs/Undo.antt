-- The latest moment of a disk in memory, as undoing its calls finds it.
use Rattle.std.proofs.Common.{◌≡◌, ℕ, ◌+◌, ◌-◌, ◌<◌, ◌≤◌, max, min, List, [], ◌∷◌, ◌++◌, length, get_or, take, reverse, Vec, refl, sym, ◌∙◌, ap, arith, append_assoc}
use Rattle.std.proofs.lemmas.List.{take_all, take_more, reverse-append}
use Rattle.std.specs.declared.alloc.Global.{Global}
use Rattle.world_io.specs.Disk.{written_at}
use Rattle.world_io.specs.Moments.{Moment, settled, torn, shortened, next, IsImage}
use Rattle.world_io.specs.Changes.{moments_before, moments_of, latest}
use Rattle.world_io.specs.declared.change.Change.{Change}
use Rattle.world_io.specs.declared.change.Change.TheVariants.{Wrote, Grew, Cut, Synced}

-- a moment with further ranges and lengths
abbrev pub widened : List (ℕ × ℕ) → ℕ → ℕ → Moment → Moment
widened ranges least greatest moment = record {
  synced = moment.synced;
  written = ranges ++ moment.written;
  least = min moment.least least;
  greatest = max moment.greatest greatest;
}

one_at_least : (bytes : List ℕ) (calls : List Change)
    → (now : Moment) × (past : List Moment) × (moments_before bytes calls ≡ now ∷ past)
one_at_least bytes [] = (settled bytes, [], refl)
one_at_least bytes (Wrote at over ∷ calls) =
    let rest = one_at_least (written_at at over.items bytes) calls in
    (torn at (length over.items) rest.0, rest.0 ∷ rest.1, ap (next (torn at (length over.items))) rest.2)
one_at_least bytes (Grew at n over ∷ calls) =
    let rest = one_at_least (take at bytes ++ over.items) calls in
    (torn at n rest.0, rest.0 ∷ rest.1, ap (next (torn at n)) rest.2)
one_at_least bytes (Cut len tail ∷ calls) =
    let rest = one_at_least (bytes ++ tail.items) calls in
    (shortened len rest.0, rest.0 ∷ rest.1, ap (next (shortened len)) rest.2)
one_at_least bytes (Synced ∷ calls) = (settled bytes, moments_before bytes calls, refl)

latest_next : (step : Moment → Moment) (bytes : List ℕ) (calls : List Change)
    → latest (next step (moments_before bytes calls)) ≡ step (latest (moments_before bytes calls))
latest_next step bytes calls =
    let rest = one_at_least bytes calls in
    ap (λ (l : List Moment). latest (next step l)) rest.2
    ∙ sym (ap (λ (l : List Moment). step (latest l)) rest.2)

-- the last of the calls that are left
last_call : (calls : List Change) (left : ℕ) (call : Change) → 0 < left → left ≤ length calls
    → call ≡ get_or calls (left - 1) call
    → reverse (take left calls) ≡ call ∷ reverse (take (left - 1) calls)
last_call calls left call some within is =
    let one_more : left ≡ left - 1 + 1 = omega arith in
    ap (λ (k : ℕ). reverse (take k calls)) one_more
    ∙ ap reverse (take_more calls (left - 1) call (omega arith))
    ∙ reverse-append (take (left - 1) calls) (get_or calls (left - 1) call ∷ [])
    ∙ ap (λ (l : Change). l ∷ reverse (take (left - 1) calls)) (sym is)

widened_torn : (ranges : List (ℕ × ℕ)) (least greatest at n : ℕ) (moment : Moment)
    → widened ranges least greatest (torn at n moment) ≡ widened (ranges ++ (at, n) ∷ []) least
    (max greatest (at + n)) moment
widened_torn ranges least greatest at n moment =
    let highest : max (max moment.greatest (at + n)) greatest ≡ max moment.greatest (max greatest (at + n)) =
    omega arith in
    λ i. record {
      synced = moment.synced;
      written = sym (append_assoc ranges ((at, n) ∷ []) moment.written) i;
      least = min moment.least least;
      greatest = highest i;
    }

-- The latest moment is that of the calls that are left, up to these bytes, with these ranges and lengths.
pub record IsUndone (moment : Moment) (ranges : List (ℕ × ℕ)) (least greatest : ℕ) (synced : List ℕ)
    (calls : List Change) (left : ℕ) : Type 0 where
  pub is : moment ≡ widened ranges least greatest (latest (moments_before synced (reverse (take left calls))))

-- one call more
module _ {moment : Moment} {ranges : List (ℕ × ℕ)} {least greatest : ℕ} {synced : List ℕ} {calls : List Change}
    {left : ℕ} {call : Change}
    (so_far : IsUndone moment ranges least greatest synced calls left) (some : 0 < left)
    (within : left ≤ length calls) (is : call ≡ get_or calls (left - 1) call) where
  undo : (this : Change) → call ≡ this
      → moment ≡ widened ranges least greatest
      (latest (moments_before synced (this ∷ reverse (take (left - 1) calls))))
  undo this same =
      let calls_left = last_call calls left call some within is
      ∙ ap (λ (l : Change). l ∷ reverse (take (left - 1) calls)) same in
      so_far.is ∙ ap (λ (l : List Change). widened ranges least greatest (latest (moments_before synced l)))
      calls_left

  undo_torn : (at n : ℕ) (before : List ℕ)
      → moment ≡ widened ranges least greatest
      (latest (next (torn at n) (moments_before before (reverse (take (left - 1) calls)))))
      → IsUndone moment (ranges ++ (at, n) ∷ []) least (max greatest (at + n)) before calls (left - 1)
  undo_torn at n before so =
      let past = reverse (take (left - 1) calls) in
      let one_less = ap (widened ranges least greatest) (latest_next (torn at n) before past) in
      record {
        is = so ∙ one_less
            ∙ widened_torn ranges least greatest at n (latest (moments_before before past));
      }

  pub undo_wrote : (at : ℕ) (over : Vec ℕ Global) → call ≡ Wrote at over
      → IsUndone moment (ranges ++ (at, length over.items) ∷ []) least (max greatest (at + length over.items))
      (written_at at over.items synced) calls (left - 1)
  undo_wrote at over same = undo_torn at (length over.items) (written_at at over.items synced)
      (undo (Wrote at over) same)

  pub undo_grew : (at n : ℕ) (over : Vec ℕ Global) → call ≡ Grew at n over
      → IsUndone moment (ranges ++ (at, n) ∷ []) least (max greatest (at + n)) (take at synced ++ over.items)
      calls (left - 1)
  undo_grew at n over same = undo_torn at n (take at synced ++ over.items) (undo (Grew at n over) same)

-- Each write is within the greatest length.
pub within_greatest : {moment : Moment} {ranges : List (ℕ × ℕ)} {least : ℕ} {synced : List ℕ}
    {calls : List Change} {left : ℕ} (greatest end limit : ℕ)
    → IsUndone moment ranges least (max greatest end) synced calls left → moment.greatest < limit → end < limit
within_greatest greatest end limit undone low =
    let highest = ap (λ (m : Moment). m.greatest) undone.is in
    omega (arith, highest)

-- before the first step
pub none_undone : (moment : Moment) (bytes : List ℕ) (calls : List Change)
    → moment ≡ latest (moments_of bytes calls) → IsImage moment bytes
    → IsUndone moment [] (length bytes) (length bytes) bytes calls (length calls)
none_undone moment bytes calls same is =
    let low : moment.least ≡ min moment.least (length bytes) = omega (arith, is.no_shorter) in
    let high : moment.greatest ≡ max moment.greatest (length bytes) = omega (arith, is.no_longer) in
    let here : moment ≡ widened [] (length bytes) (length bytes) moment = λ i. record {
      synced = moment.synced;
      written = moment.written;
      least = low i;
      greatest = high i;
    } in
    let whole : take (length calls) calls ≡ calls = take_all (length calls) calls (omega arith) in
    record {
      is = here ∙ ap (widened [] (length bytes) (length bytes))
          (same ∙ ap (λ (l : List Change). latest (moments_before bytes (reverse l))) (sym whole));
    }
