-- Fronts of journals: where a reading stands, and where it fails.
use Rattle.std.proofs.Common.{◌≡◌, ℕ, inl, inr, ◌+◌, ◌<◌, List, [], ◌∷◌, ◌++◌, length, drop, refl, sym, ◌∙◌, ap, subst, arith}
use Rattle.std.proofs.lemmas.List.{drop_at}
use Rattle.frame_log.specs.Frames.{BeginsClosed, BeginsFrame, IsEmpty, Spells, no_content}
use Rattle.frame_log.specs.Reading.{Finds}
use Rattle.frame_log.specs.declared.read.Behind.TheVariants.{Broken}
use Rattle.frame_log.proofs.Fronts.{begins_once, closed_or_open, front_more, front_some, place_more, split_more}
use Rattle.object_store.specs.Stored.{Stored}
use Rattle.record_follows.specs.Courses.{world_after}
use Rattle.record_follows.specs.Follows.{Follows}
use Rattle.tick_journal.specs.BaseForms.{SpellsBase}
use Rattle.tick_journal.specs.TickForms.{SpellsTick}
use Rattle.tick_journal.specs.declared.tick_record.TickRecord.{TickRecord}
use Rattle.world_journal.specs.Faults.{BeginJournal, FailsAt}
use Rattle.world_journal.specs.Journals.{IsJournal, KeepsRules}
use Rattle.world_journal.specs.Walking.{IsFront}
use Rattle.world_journal.proofs.Contents.{contents_first, contents_last, contents_more}

-- ---- at the front of the bytes

module _ (bytes content behind : List ℕ) (begins : BeginsFrame bytes content behind) where
  pub first_front : (base : Stored) → SpellsBase content base → KeepsRules base → IsFront base [] (9 + length content) bytes
  first_front base spells keeps = record {
    front = begins.gate ∷ _;
    contents = content ∷ [];
    rest = behind;
    spelled = front_more [] bytes content behind begins [] no_content;
    place = place_more [] bytes content behind begins 0 refl;
    split = split_more [] bytes content behind begins bytes refl;
    are = contents_first base content spells keeps;
  }

  not_empty : IsEmpty bytes → ⊥
  not_empty empty = front_some behind (front_more [] bytes content behind begins [] no_content) (subst IsEmpty (split_more [] bytes content behind begins bytes refl) empty)

  pub first_fails : ((base : Stored) → SpellsBase content base → KeepsRules base → ⊥) → FailsAt 0 bytes
  first_fails none = record {
    some = not_empty;
    front = [];
    contents = [];
    spelled = no_content;
    begun = inl refl;
    rest = bytes;
    split = refl;
    place = refl;
    goes_on = λ shut. closed_or_open bytes content behind shut begins;
    fails = λ other more also begun.
        let same = (begins_once bytes content other behind more begins also).0 in
        no_base other same begun;
  }
    where
      no_base : (other : List ℕ) → content ≡ other → BeginJournal (other ∷ []) → ⊥
      no_base other same (inl nothing) = absurd cc
      no_base other same (inr (base, entries, are)) =
          let heads : are.first ∷ are.later ≡ other ∷ [] = sym are.split in
          let first : are.first ≡ content = cc in
          none base (subst (λ (c : List ℕ). SpellsBase c base) first are.base_spelled) are.course.rules

pub first_broken : (bytes : List ℕ) → 1 < length bytes → Finds bytes Broken → FailsAt 0 bytes
first_broken bytes long broken = record {
  some = some;
  front = [];
  contents = [];
  spelled = no_content;
  begun = inl refl;
  rest = bytes;
  split = refl;
  place = refl;
  goes_on = broken.0;
  fails = λ content behind begins begun. broken.1 content behind begins;
}
  where
    some : IsEmpty bytes → ⊥
    some (inl short) = omega arith
    some (inr shut) = broken.0 shut

-- ---- behind records

module _ {base : Stored} {entries : List TickRecord} {gate : ℕ} {bytes : List ℕ} (is : IsFront base entries gate bytes) where
  rest_is : drop gate bytes ≡ is.rest
  rest_is = ap (drop gate) is.split ∙ drop_at is.front is.rest gate (sym is.place)

  pub front_not_empty : IsEmpty bytes → ⊥
  front_not_empty empty = front_some is.rest (subst (λ (contents : List (List ℕ)). Spells is.front contents) is.are.split is.spelled) (subst IsEmpty is.split empty)

  pub next_front : (content behind : List ℕ) (entry : TickRecord) → BeginsFrame (drop gate bytes) content behind → SpellsTick content entry → Follows (world_after base entries) entry → IsFront base (entries ++ entry ∷ []) (gate + 9 + length content) bytes
  next_front content behind entry begins spells follows =
      let there = subst (λ (l : List ℕ). BeginsFrame l content behind) rest_is begins in
      record {
        front = _;
        contents = is.contents ++ content ∷ [];
        rest = behind;
        spelled = front_more is.front is.rest content behind there is.contents is.spelled;
        place = place_more is.front is.rest content behind there gate is.place;
        split = split_more is.front is.rest content behind there bytes is.split;
        are = contents_more content entry is.are spells follows;
      }

  fails_front : (BeginsClosed is.rest → ⊥) → ((content behind : List ℕ) → BeginsFrame is.rest content behind → BeginJournal (is.contents ++ content ∷ []) → ⊥) → FailsAt gate bytes
  fails_front goes_on fails = record {
    some = front_not_empty;
    front = is.front;
    contents = is.contents;
    spelled = is.spelled;
    begun = inr (base, entries, is.are);
    rest = is.rest;
    split = is.split;
    place = is.place;
    goes_on = goes_on;
    fails = fails;
  }

  pub next_broken : Finds (drop gate bytes) Broken → FailsAt gate bytes
  next_broken broken =
      let there = subst (λ (l : List ℕ). Finds l Broken) rest_is broken in
      fails_front there.0 (λ content behind begins begun. there.1 content behind begins)

  pub next_fails : (content behind : List ℕ) → BeginsFrame (drop gate bytes) content behind → ((entry : TickRecord) → SpellsTick content entry → Follows (world_after base entries) entry → ⊥) → FailsAt gate bytes
  next_fails content behind begins none =
      let there = subst (λ (l : List ℕ). BeginsFrame l content behind) rest_is begins in
      fails_front (λ shut. closed_or_open is.rest content behind shut there) (λ other more also begun.
      let same = (begins_once is.rest content other behind more there also).0 in
      no_record other same begun)
    where
      nothing_begins : (contents : List (List ℕ)) (content : List ℕ) → contents ++ content ∷ [] ≡ [] → ⊥
      nothing_begins [] content e = absurd cc
      nothing_begins (c ∷ contents) content e = absurd cc

      no_record : (other : List ℕ) → content ≡ other → BeginJournal (is.contents ++ other ∷ []) → ⊥
      no_record other same (inl nothing) = nothing_begins is.contents other nothing
      no_record other same (inr (b, es, are)) =
          let last = contents_last is.contents other is.are are in
          none last.entry (subst (λ (c : List ℕ). SpellsTick c last.entry) (sym same) last.spells) last.follows

  -- ---- at the closed gate

  pub closed_rest : BeginsClosed (drop gate bytes) → (rest : List ℕ) × (bytes ≡ is.front ++ 0 ∷ rest)
  closed_rest shut = (shut.0, is.split ∙ ap (λ (l : List ℕ). is.front ++ l) (sym rest_is ∙ shut.1))

  pub journal_there : BeginsClosed (drop gate bytes) → IsJournal base entries bytes
  journal_there shut = record {
    contents = is.contents;
    stand = record { front = is.front; spelled = is.spelled; rest = (closed_rest shut).0; split = (closed_rest shut).1 };
    are = is.are;
  }
