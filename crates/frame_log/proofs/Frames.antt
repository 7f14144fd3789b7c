-- The bytes of frames, and what of them stands behind a gate.
use Rattle.std.proofs.Common.{◌≡◌, inl, inr, ℕ, ◌+◌, ◌<◌, ◌^◌, List, [], ◌∷◌, ◌++◌, length, get_or, drop, sym, ◌∙◌, ap, subst, arith, length-append, append_assoc, take-append-drop, Option, Some, None}
use Rattle.std.proofs.lemmas.Bool.{cases_eq}
use Rattle.std.proofs.lemmas.List.{append-nil, take_at, take_all, drop_at, drop_all, drop_more}
use Rattle.byteorder.specs.Endian.{little_bytes}
use Rattle.byteorder.specs.Numbers.{length-bytes_low_first}
use Rattle.world_io.specs.Disk.{Within, written_at, TellsAlike}
use Rattle.world_io.specs.Moments.{Moment, LeavesSince, Rests, Torn}
use Rattle.world_io.proofs.Moments.{since_weaken}
use Rattle.frame_log.specs.Frames.{frame, Spells, no_content, one_more, Stands, IsBeforeOrAfter, HasContents, IsLog}

pub frame_size : (content : List ℕ) → length (frame content) ≡ 8 + length content
unfolding frame
frame_size content = omega (arith, length-append (little_bytes 8 (length content)) content, length-bytes_low_first 0 8 (length content))

-- what an addition writes
pub piece_size : (content piece : List ℕ) → piece ≡ frame content ++ 0 ∷ [] → length piece ≡ 9 + length content
piece_size content piece is = omega (arith, ap length is, length-append (frame content) (0 ∷ []), frame_size content)

-- one content more, behind an open gate
pub spells_more : {front : List ℕ} {contents : List (List ℕ)} (gate : ℕ) (content : List ℕ) → 0 < gate → length content < 2 ^ 64 → Spells front contents → Spells (front ++ gate ∷ frame content) (contents ++ content ∷ [])
spells_more gate content is_open fits no_content = subst (λ (tail : List ℕ). Spells (gate ∷ tail) (content ∷ [])) (append-nil (frame content)) (one_more is_open fits no_content)
spells_more gate content is_open fits (one_more {gate = g} {content = c} {bytes = bytes} {contents = contents} before short more) =
    subst (λ (tail : List ℕ). Spells (g ∷ tail) (c ∷ (contents ++ content ∷ []))) (sym (append_assoc (frame c) bytes (gate ∷ frame content))) (one_more before short (spells_more gate content is_open fits more))

-- ---- the two steps of an addition, at a closed gate that ends the bytes

module _ (front : List ℕ) (gate : ℕ) (place : gate ≡ length front) where
  size : length (front ++ 0 ∷ []) ≡ gate + 1
  size = omega (arith, length-append front (0 ∷ []), place)

  -- the frame behind the closed gate
  staged : (piece : List ℕ) → written_at (gate + 1) piece (front ++ 0 ∷ []) ≡ front ++ 0 ∷ piece
  staged piece =
      ap (λ (l : List ℕ). l ++ piece ++ drop (gate + 1 + length piece) (front ++ 0 ∷ [])) (take_all (gate + 1) (front ++ 0 ∷ []) (omega (arith, size)))
      ∙ ap (λ (l : List ℕ). (front ++ 0 ∷ []) ++ piece ++ l) (drop_all (gate + 1 + length piece) (front ++ 0 ∷ []) (omega (arith, size)))
      ∙ append-nil ((front ++ 0 ∷ []) ++ piece)
      ∙ append_assoc front (0 ∷ []) piece

  behind : (old : ℕ) (piece : List ℕ) → drop (gate + 1) (front ++ old ∷ piece) ≡ piece
  behind old piece = ap (drop (gate + 1)) (sym (append_assoc front (old ∷ []) piece)) ∙ drop_at (front ++ old ∷ []) piece (gate + 1) (omega (arith, length-append front (old ∷ []), place))

  -- the gate opened
  opened : (content : List ℕ) → written_at gate (1 ∷ []) (front ++ 0 ∷ (frame content ++ 0 ∷ [])) ≡ (front ++ 1 ∷ frame content) ++ 0 ∷ []
  opened content =
      let piece = frame content ++ 0 ∷ [] in
      ap (λ (l : List ℕ). l ++ (1 ∷ []) ++ drop (gate + 1) (front ++ 0 ∷ piece)) (take_at front (0 ∷ piece) gate (sym place))
      ∙ ap (λ (l : List ℕ). front ++ (1 ∷ []) ++ l) (behind 0 piece)
      ∙ append_assoc front (1 ∷ []) piece
      ∙ sym (append_assoc front (1 ∷ frame content) (0 ∷ []))

  -- the disk after the first step, and after the second
  pub rests_staged : {seen after : Option (List ℕ)} {moments later : List Moment} (piece : List ℕ) → ((bytes : List ℕ) → Rests bytes seen moments → Rests (written_at (gate + 1) piece bytes) after later) → Rests (front ++ 0 ∷ []) seen moments
      → Rests (front ++ 0 ∷ piece) after later
  rests_staged {after = after} {later = later} piece done rests = subst (λ (l : List ℕ). Rests l after later) (staged piece) (done (front ++ 0 ∷ []) rests)

  pub rests_opened : {seen after : Option (List ℕ)} {moments later : List Moment} (content piece : List ℕ) → piece ≡ frame content ++ 0 ∷ [] → ((bytes : List ℕ) → Rests bytes seen moments → Rests (written_at gate (1 ∷ []) bytes) after later)
      → Rests (front ++ 0 ∷ piece) seen moments → Rests ((front ++ 1 ∷ frame content) ++ 0 ∷ []) after later
  rests_opened {after = after} {later = later} content piece is done rests =
      subst (λ (l : List ℕ). Rests l after later) (ap (λ (p : List ℕ). written_at gate (1 ∷ []) (front ++ 0 ∷ p)) is ∙ opened content) (done (front ++ 0 ∷ piece) rests)

  module _ (contents : List (List ℕ)) (spelled : Spells front contents) where
    -- the closed gate stands in each image of the first step
    torn_behind : (n : ℕ) (image : List ℕ) → Torn (gate + 1) n (front ++ 0 ∷ []) image → Stands contents image
    torn_behind n image torn = record {
      front = front;
      spelled = spelled;
      rest = drop (gate + 1) image;
      split =
          sym (take-append-drop (gate + 1) image)
          ∙ ap (λ (l : List ℕ). l ++ drop (gate + 1) image) (torn.before ∙ take_all (gate + 1) (front ++ 0 ∷ []) (omega (arith, size)))
          ∙ append_assoc front (0 ∷ []) (drop (gate + 1) image);
    }

    -- the frame stands whole in each image of the second step
    torn_gate : (content : List ℕ) → length content < 2 ^ 64 → (image : List ℕ) → Torn gate 1 (front ++ 0 ∷ (frame content ++ 0 ∷ [])) image → IsBeforeOrAfter contents content image
    torn_gate content fits image torn =
        let piece = frame content ++ 0 ∷ [] in
        let long : gate < length image = omega (arith, torn.no_shorter, length-append front (0 ∷ piece), place) in
        let now = get_or image gate 0 in
        let whole : image ≡ front ++ now ∷ piece =
        sym (take-append-drop gate image)
        ∙ ap (λ (l : List ℕ). l ++ drop gate image) (torn.before ∙ take_at front (0 ∷ piece) gate (sym place))
        ∙ ap (λ (l : List ℕ). front ++ l) (drop_more image gate 0 long ∙ ap (λ (l : List ℕ). now ∷ l) (torn.behind ∙ behind 0 piece)) in
        elim (cases_eq now 0) [
          | inl shut ↦ inl (record { front = front; spelled = spelled; rest = piece; split = whole ∙ ap (λ (g : ℕ). front ++ g ∷ piece) shut })
          | inr is_open ↦ inr (record {
            front = front ++ now ∷ frame content;
            spelled = spells_more now content (omega arith) fits spelled;
            rest = [];
            split = whole ∙ sym (append_assoc front (now ∷ frame content) (0 ∷ []));
          })
        ]

    -- the moments of the first step, and those of the second
    pub first_moments : {seen : Option (List ℕ)} {before after : List Moment} (content : List ℕ) (n : ℕ) → ((bytes : List ℕ) → Rests bytes seen before → LeavesSince (Torn (gate + 1) n bytes) before after) → Rests (front ++ 0 ∷ []) seen before
        → LeavesSince (IsBeforeOrAfter contents content) before after
    first_moments content n each rests = since_weaken (λ image torn. inl (torn_behind n image torn)) (each (front ++ 0 ∷ []) rests)

    pub second_moments : {seen : Option (List ℕ)} {before after : List Moment} (content piece : List ℕ) → length content < 2 ^ 64 → piece ≡ frame content ++ 0 ∷ [] → ((bytes : List ℕ) → Rests bytes seen before → LeavesSince (Torn gate 1 bytes) before after)
        → Rests (front ++ 0 ∷ piece) seen before → LeavesSince (IsBeforeOrAfter contents content) before after
    second_moments content piece fits is each rests =
        since_weaken (λ image torn. torn_gate content fits image (subst (λ (p : List ℕ). Torn gate 1 (front ++ 0 ∷ p) image) is torn)) (each (front ++ 0 ∷ piece) rests)

-- the gate has a place on the disk after the first step
pub gate_within : (seen after : Option (List ℕ)) (moments later : List Moment) (gate : ℕ) (piece : List ℕ) → IsLog gate seen moments → TellsAlike seen after
    → ((bytes : List ℕ) → Rests bytes seen moments → Rests (written_at (gate + 1) piece bytes) after later) → Within after gate
gate_within None None moments later gate piece rests alike done = tt
gate_within None (Some new) moments later gate piece rests alike done = absurd alike
gate_within (Some old) after moments later gate piece rests alike done =
    let has = rests.1 in
    let read = (rests_staged has.front gate has.place piece done has.rests).read in
    rw read (omega (arith, length-append has.front (0 ∷ piece), has.place))

-- ---- the disk after an addition

pub has_more : {contents : List (List ℕ)} {gate : ℕ} {seen after : Option (List ℕ)} {moments later : List Moment} (content : List ℕ) (to : ℕ) → length content < 2 ^ 64 → to ≡ gate + 9 + length content
    → ((front : List ℕ) → gate ≡ length front → Rests (front ++ 0 ∷ []) seen moments → Rests ((front ++ 1 ∷ frame content) ++ 0 ∷ []) after later) → HasContents contents gate seen moments → HasContents (contents ++ content ∷ []) to after later
has_more content to fits is written has = record {
  front = has.front ++ 1 ∷ frame content;
  spelled = spells_more 1 content (omega arith) fits has.spelled;
  place = omega (arith, is, has.place, length-append has.front (1 ∷ frame content), frame_size content);
  rests = written has.front has.place has.rests;
}

pub is_log_more : (gate to : ℕ) (seen after : Option (List ℕ)) (old later : List Moment) (content : List ℕ) → IsLog gate seen old → TellsAlike seen after
    → ((contents : List (List ℕ)) → HasContents contents gate seen old → HasContents (contents ++ content ∷ []) to after later) → IsLog to after later
is_log_more gate to seen None old later content is alike done = tt
is_log_more gate to None (Some bytes) old later content is alike done = absurd alike
is_log_more gate to (Some b) (Some bytes) old later content is alike done = (is.0 ++ content ∷ [], done is.0 is.1)
