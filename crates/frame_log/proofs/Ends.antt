-- What the images of a repair and of a clearing stand for.
use Rattle.std.proofs.Common.{◌≡◌, inl, inr, ℕ, ◌+◌, ◌-◌, ◌<◌, ◌≤◌, List, [], ◌∷◌, ◌++◌, length, take, refl, sym, ◌∙◌, ap, subst, arith, length-append, append_assoc, Option, Some, None}
use Rattle.std.proofs.Math.Seq.{take-append-add}
use Rattle.world_io.specs.Moments.{Moment, Rests, Torn, Shortened}
use Rattle.frame_log.specs.Frames.{Spells, no_content, Stands, IsEmpty, IsEmptyDisk, IsEmptyOrFirst, IsBeforeOrAfter, HasClosed, HasContents, IsClosedAt, IsLog}
use Rattle.world_io.specs.Disk.{LengthIs, TellsAlike, Within}

-- a log and what follows it, cut past its gate
past_gate : (front rest : List ℕ) (len : ℕ) → length front + 1 ≤ len → take len (front ++ 0 ∷ rest) ≡ front ++ 0 ∷ take (len - (length front + 1)) rest
past_gate front rest len le =
    let n = len - (length front + 1) in
    let size : len ≡ length (front ++ 0 ∷ []) + n = omega (arith, length-append front (0 ∷ [])) in
    ap (λ (k : ℕ). take k (front ++ 0 ∷ rest)) size
    ∙ ap (take (length (front ++ 0 ∷ []) + n)) (sym (append_assoc front (0 ∷ []) rest))
    ∙ take-append-add (front ++ 0 ∷ []) rest n
    ∙ append_assoc front (0 ∷ []) (take n rest)

module _ (front rest : List ℕ) (gate : ℕ) (place : gate ≡ length front) where
  pub stands_cut : (contents : List (List ℕ)) → Spells front contents → (image : List ℕ) → Shortened (gate + 1) (front ++ 0 ∷ rest) image → Stands contents image
  stands_cut contents spelled image cut = record {
    front = front;
    spelled = spelled;
    rest = take (length image - (length front + 1)) rest;
    split = cut.front ∙ past_gate front rest (length image) (omega (arith, cut.no_shorter, length-append front (0 ∷ rest), place));
  }

  pub whole_cut : take (gate + 1) (front ++ 0 ∷ rest) ≡ front ++ 0 ∷ []
  whole_cut =
      let none : gate + 1 - (length front + 1) ≡ 0 = omega arith in
      past_gate front rest (gate + 1) (omega arith) ∙ ap (λ (n : ℕ). front ++ 0 ∷ take n rest) none

-- a clearing by a write
pub empty_written : (bytes : List ℕ) → length bytes ≤ 1 → (image : List ℕ) → Torn 0 1 bytes image → IsEmpty image
empty_written bytes short image torn = inl (omega (arith, torn.no_longer))

-- and by a cut
pub empty_cut : (rest : List ℕ) (image : List ℕ) → Shortened 1 (0 ∷ rest) image → IsEmpty image
empty_cut rest [] cut = inl (omega arith)
empty_cut rest (b ∷ image) cut = inr (take (length image) rest, cut.front)

pub empty_cut_at : (bytes : List ℕ) → IsEmpty bytes → 1 < length bytes → (image : List ℕ) → Shortened 1 bytes image → IsEmpty image
empty_cut_at bytes (inl short) long image cut = absurd (omega arith)
empty_cut_at bytes (inr zero_first) long image cut = empty_cut zero_first.0 image (subst (λ (l : List ℕ). Shortened 1 l image) zero_first.1 cut)

-- a log of nothing, on a disk that was cleared
pub cleared : (seen : Option (List ℕ)) (moments : List Moment) → Rests (0 ∷ []) seen moments → HasContents [] 0 seen moments
cleared seen moments rests = record { front = []; spelled = no_content; place = refl; rests = rests }

pub is_log_cleared : (seen now : Option (List ℕ)) (before after : List Moment) → IsEmptyDisk seen before → TellsAlike seen now
    → ((bytes : List ℕ) → IsEmpty bytes → Rests bytes seen before → Rests (0 ∷ []) now after) → IsLog 0 now after
is_log_cleared seen None before after empty alike done = tt
is_log_cleared None (Some new) before after empty alike done = absurd alike
is_log_cleared (Some old) (Some new) before after empty alike done = ([], cleared (Some new) after (done old empty.0 empty.1))

pub empty_or_first : (base : List ℕ) (image : List ℕ) → IsBeforeOrAfter [] base image → IsEmptyOrFirst base image
empty_or_first base image (inl none) = inl (empty_stands image none.front none.spelled none.rest none.split)
  where
    empty_stands : (image front : List ℕ) → Spells front [] → (rest : List ℕ) → image ≡ front ++ 0 ∷ rest → IsEmpty image
    empty_stands image [] spelled rest split = inr (rest, split)
    empty_stands image (gate ∷ front) spelled rest split = elim spelled [ ]
empty_or_first base image (inr one) = inr one

-- a log that ends in its closed gate: nothing is to be cut
pub ends_there : (contents : List (List ℕ)) (gate len : ℕ) (rest : List ℕ) (seen : Option (List ℕ)) (moments : List Moment) → LengthIs seen len → len ≤ gate + 1 → HasClosed contents gate rest seen moments → HasContents contents gate seen moments
ends_there contents gate len [] seen moments is short has = has
ends_there contents gate len (b ∷ rest) seen moments is short has =
    let size = rw has.rests.read at is in
    absurd (omega (arith, size, length-append has.front (0 ∷ b ∷ rest), has.place))

pub is_log_there : (gate len : ℕ) (seen : Option (List ℕ)) (moments : List Moment) → LengthIs seen len → len ≤ gate + 1 → IsClosedAt gate seen moments → IsLog gate seen moments
is_log_there gate len None moments is short closed = tt
is_log_there gate len (Some bytes) moments is short closed = (closed.0, ends_there closed.0 gate len closed.1 (Some bytes) moments is short closed.2)

pub is_log_cut : (gate : ℕ) (seen after : Option (List ℕ)) (moments later : List Moment) → IsClosedAt gate seen moments → TellsAlike seen after
    → ((contents : List (List ℕ)) (rest : List ℕ) → HasClosed contents gate rest seen moments → HasContents contents gate after later) → IsLog gate after later
is_log_cut gate seen None moments later closed alike done = tt
is_log_cut gate None (Some new) moments later closed alike done = absurd alike
is_log_cut gate (Some old) (Some new) moments later closed alike done = (closed.0, done closed.0 closed.1 closed.2)

-- the gate has a place on the disk, and what follows it
pub cut_within : (gate len : ℕ) (seen : Option (List ℕ)) → LengthIs seen len → gate + 1 < len → Within seen (gate + 1)
cut_within gate len None is long = tt
cut_within gate len (Some bytes) is long = omega (arith, is)
