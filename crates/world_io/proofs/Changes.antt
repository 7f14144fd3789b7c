-- The moments of a disk in memory, one call on.
use Rattle.std.proofs.Common.{◌≡◌, ◌⊎◌, inl, inr, ℕ, ◌+◌, ◌-◌, ◌<◌, ◌≤◌, ◌^◌, List, [], ◌∷◌, ◌++◌, length, get_or, take, drop, reverse, Some, Vec, sym, ◌∙◌, ap, arith, length-drop, append_assoc, take-append-drop, drop-drop}
use Rattle.std.proofs.lemmas.List.{get_or-take, get_or-drop, length-take-le, reverse-append}
use Rattle.std.specs.declared.alloc.Global.{Global}
use Rattle.world_io.specs.Disk.{written_at}
use Rattle.world_io.specs.Moments.{Moment, torn, shortened, next, IsLeftNow}
use Rattle.world_io.specs.Changes.{moments_before, moments_of, latest}
use Rattle.world_io.specs.inner.Propositions.{IsLeft}
use Rattle.world_io.specs.declared.change.Change.{Change}
use Rattle.world_io.specs.declared.change.Change.TheVariants.{Cut}
use Rattle.world_io.proofs.Images.{written_torn}

-- ---- what undoing a write gives

size_over : (at n : ℕ) (bytes over : List ℕ) → at + n ≤ length bytes → over ≡ take n (drop at bytes)
    → length over ≡ n
size_over at n bytes over within is = ap length is
    ∙ length-take-le n (drop at bytes) (omega (arith, length-drop at bytes))

-- a write that was begun, and did nothing yet
written_over : (at n : ℕ) (bytes over : List ℕ) → at + n ≤ length bytes → over ≡ take n (drop at bytes)
    → written_at at over bytes ≡ bytes
written_over at n bytes over within is =
    ap (λ (l : List ℕ). take at bytes ++ l ++ drop (at + length over) bytes) is
    ∙ ap (λ (k : ℕ). take at bytes ++ take n (drop at bytes) ++ drop (at + k) bytes)
    (size_over at n bytes over within is)
    ∙ ap (λ (l : List ℕ). take at bytes ++ take n (drop at bytes) ++ l) (sym (drop-drop n at bytes))
    ∙ append_assoc (take at bytes) (take n (drop at bytes)) (drop n (drop at bytes))
    ∙ ap (λ (l : List ℕ). take at bytes ++ l) (take-append-drop n (drop at bytes))
    ∙ take-append-drop at bytes

-- or was done
written_back : (at : ℕ) (piece over bytes : List ℕ) → at ≤ length bytes → length over ≡ length piece
    → written_at at over (written_at at piece bytes) ≡ written_at at over bytes
written_back at piece over bytes within same =
    let torn = written_torn at piece bytes within in
    ap (λ (l : List ℕ). l ++ over ++ drop (at + length over) (written_at at piece bytes)) torn.before
    ∙ ap (λ (k : ℕ). take at bytes ++ over ++ drop (at + k) (written_at at piece bytes)) same
    ∙ ap (λ (l : List ℕ). take at bytes ++ over ++ l) torn.behind
    ∙ ap (λ (k : ℕ). take at bytes ++ over ++ drop (at + k) bytes) (sym same)

pub wrote_begun : (at n : ℕ) (bytes over : List ℕ) (calls : List Change) → at + n ≤ length bytes
    → over ≡ take n (drop at bytes)
    → next (torn at (length over)) (moments_before (written_at at over bytes) calls)
    ≡ next (torn at n) (moments_before bytes calls)
wrote_begun at n bytes over calls within is =
    ap (λ (k : ℕ). next (torn at k) (moments_before (written_at at over bytes) calls))
    (size_over at n bytes over within is)
    ∙ ap (λ (l : List ℕ). next (torn at n) (moments_before l calls)) (written_over at n bytes over within is)

pub wrote_done : (at n : ℕ) (bytes over piece : List ℕ) (calls : List Change) → at + n ≤ length bytes
    → over ≡ take n (drop at bytes) → length piece ≡ n
    → next (torn at (length over)) (moments_before (written_at at over (written_at at piece bytes)) calls)
    ≡ next (torn at n) (moments_before bytes calls)
wrote_done at n bytes over piece calls within is same =
    ap (λ (l : List ℕ). next (torn at (length over)) (moments_before l calls))
    (written_back at piece over bytes (omega arith) (size_over at n bytes over within is ∙ sym same))
    ∙ wrote_begun at n bytes over calls within is

-- ---- What is read is left, after each.

left_begun : (at n : ℕ) (bytes : List ℕ) (moments : List Moment) → IsLeftNow (Some bytes) moments
    → IsLeftNow (Some bytes) (next (torn at n) moments)
left_begun at n bytes [] left = absurd left
left_begun at n bytes (now ∷ past) left = record {
  no_shorter = left.no_shorter;
  no_longer = omega (arith, left.no_longer);
  stays = λ place lt within outside. left.stays place lt within outside.1;
}

left_written : (at : ℕ) (piece bytes : List ℕ) (moments : List Moment) → at ≤ length bytes
    → IsLeftNow (Some bytes) moments
    → IsLeftNow (Some (written_at at piece bytes)) (next (torn at (length piece)) moments)
left_written at piece bytes [] within left = absurd left
left_written at piece bytes (now ∷ past) within left =
    let torn = written_torn at piece bytes within in
    record {
      no_shorter = omega (arith, left.no_shorter, torn.no_shorter);
      no_longer = omega (arith, left.no_longer, torn.no_longer);
      stays = λ place lt inside outside. same place lt outside.0
          ∙ left.stays place (here place lt outside.0) inside outside.1;
    }
  where
    here : (place : ℕ) → place < length (written_at at piece bytes) → (place < at) ⊎ (at + length piece ≤ place)
        → place < length bytes
    here place lt outside =
        let torn = written_torn at piece bytes within in
        omega (arith, torn.no_longer, outside)

    same : (place : ℕ) → place < length (written_at at piece bytes) → (place < at) ⊎ (at + length piece ≤ place)
        → get_or (written_at at piece bytes) place 0 ≡ get_or bytes place 0
    same place lt (inl front) = sym (get_or-take at (written_at at piece bytes) place 0 front)
        ∙ ap (λ (l : List ℕ). get_or l place 0) (written_torn at piece bytes within).before
        ∙ get_or-take at bytes place 0 front
    same place lt (inr back) =
        let k = place - (at + length piece) in
        let sum : place ≡ at + length piece + k = omega arith in
        ap (λ i. get_or (written_at at piece bytes) i 0) sum
        ∙ sym (get_or-drop (at + length piece) (written_at at piece bytes) k 0)
        ∙ ap (λ (l : List ℕ). get_or l k 0) (written_torn at piece bytes within).behind
        ∙ get_or-drop (at + length piece) bytes k 0
        ∙ ap (λ i. get_or bytes i 0) (sym sum)

left_cut : (len : ℕ) (bytes : List ℕ) (moments : List Moment) → len ≤ length bytes
    → IsLeftNow (Some bytes) moments → IsLeftNow (Some (take len bytes)) (next (shortened len) moments)
left_cut len bytes [] within left = absurd left
left_cut len bytes (now ∷ past) within left =
    let size = length-take-le len bytes within in
    record {
      no_shorter = omega (arith, size);
      no_longer = omega (arith, size, left.no_longer);
      stays = λ place lt inside outside. get_or-take len bytes place 0 (omega (arith, size))
          ∙ left.stays place (omega (arith, size)) inside outside;
    }

-- ---- The greatest length stays within the limit.

bounded_torn : (at n : ℕ) (bytes : List ℕ) (moments : List Moment) → IsLeftNow (Some bytes) moments
    → (latest moments).greatest < 2 ^ 62 → at + n < 2 ^ 62
    → (latest (next (torn at n) moments)).greatest < 2 ^ 62
bounded_torn at n bytes [] left low limit = absurd left
bounded_torn at n bytes (now ∷ past) left low limit = omega arith

bounded_shortened : (len : ℕ) (bytes : List ℕ) (moments : List Moment) → IsLeftNow (Some bytes) moments
    → (latest moments).greatest < 2 ^ 62 → (latest (next (shortened len) moments)).greatest < 2 ^ 62
bounded_shortened len bytes [] left low = absurd left
bounded_shortened len bytes (now ∷ past) left low = low

-- ---- A disk in memory after one call more.

-- what it keeps of its bytes and calls
pub record IsKept (bytes : List ℕ) (calls : List Change) : Type 0 where
  pub left : IsLeft bytes calls
  pub bounded : (latest (moments_of bytes calls)).greatest < 2 ^ 62

module _ {bytes : List ℕ} {calls later : List Change} (call : Change) (kept : IsKept bytes calls)
    (noted : later ≡ calls ++ call ∷ []) (now : List ℕ) where
  stepped : (step : Moment → Moment)
      → ((past : List Change) → moments_before now (call ∷ past) ≡ next step (moments_before bytes past))
      → moments_of now later ≡ next step (moments_of bytes calls)
  stepped step undo =
      ap (λ (l : List Change). moments_before now (reverse l)) noted
      ∙ ap (moments_before now) (reverse-append calls (call ∷ []))
      ∙ undo (reverse calls)

  -- a write that was begun
  pub kept_begun : (at n : ℕ) → at + n < 2 ^ 62 → now ≡ bytes
      → ((past : List Change)
      → moments_before bytes (call ∷ past) ≡ next (torn at n) (moments_before bytes past))
      → IsKept now later
  kept_begun at n limit same undo =
      let so = stepped (torn at n) (λ past. rw same (undo past)) in
      record {
        left = rw (so, same) (left_begun at n bytes (moments_of bytes calls) kept.left);
        bounded = rw so (bounded_torn at n bytes (moments_of bytes calls) kept.left kept.bounded limit);
      }

  -- a write that was done
  pub kept_done : (at : ℕ) (piece : List ℕ) → at ≤ length bytes → at + length piece < 2 ^ 62
      → now ≡ written_at at piece bytes
      → ((past : List Change)
      → moments_before (written_at at piece bytes) (call ∷ past) ≡ next (torn at (length piece))
      (moments_before bytes past)) → IsKept now later
  kept_done at piece within limit is undo =
      let so = stepped (torn at (length piece)) (λ past. rw is (undo past)) in
      record {
        left = rw (so, is) (left_written at piece bytes (moments_of bytes calls) within kept.left);
        bounded = rw so (bounded_torn at (length piece) bytes (moments_of bytes calls) kept.left kept.bounded
            limit);
      }

  -- a cut
  pub kept_cut : (len : ℕ) (tail : Vec ℕ Global) → len ≤ length bytes → call ≡ Cut len tail
      → tail.items ≡ drop len bytes → now ≡ take len bytes → IsKept now later
  kept_cut len tail within cut tail_is is =
      let whole : now ++ tail.items ≡ bytes = rw (is, tail_is) (take-append-drop len bytes) in
      let so = stepped (shortened len)
      (λ past. rw cut (ap (λ (l : List ℕ). next (shortened len) (moments_before l past)) whole)) in
      record {
        left = rw (so, is) (left_cut len bytes (moments_of bytes calls) within kept.left);
        bounded = rw so (bounded_shortened len bytes (moments_of bytes calls) kept.left kept.bounded);
      }
