-- The contents of a journal's frames.
use Rattle.std.proofs.Common.{◌≡◌, ℕ, inr, List, [], ◌∷◌, ◌++◌, refl, sym, ◌∙◌, ap, subst}
use Rattle.object_store.specs.Stored.{Stored}
use Rattle.record_follows.specs.Courses.{world_after}
use Rattle.record_follows.specs.Follows.{Follows}
use Rattle.tick_journal.specs.BaseForms.{SpellsBase}
use Rattle.tick_journal.specs.TickForms.{SpellsTick}
use Rattle.tick_journal.specs.declared.tick_record.TickRecord.{TickRecord}
use Rattle.tick_journal.proofs.BaseContents.{base_one}
use Rattle.tick_journal.proofs.Ticks.{spelled_one}
use Rattle.world_journal.specs.Faults.{BeginJournal}
use Rattle.world_journal.specs.Journals.{AreContents, AreSpelled, IsCourse, IsRead, KeepsRules}
use Rattle.world_journal.proofs.Courses.{course_front, course_more, follows_at}

-- ---- contents of records

spelled_more : (contents : List (List ℕ)) (entries : List TickRecord) (content : List ℕ) (entry : TickRecord) → AreSpelled contents entries → SpellsTick content entry → AreSpelled (contents ++ content ∷ []) (entries ++ entry ∷ [])
spelled_more [] [] content entry spelled spells = (spells, tt)
spelled_more [] (e ∷ entries) content entry spelled spells = absurd spelled
spelled_more (c ∷ contents) [] content entry spelled spells = absurd spelled
spelled_more (c ∷ contents) (e ∷ entries) content entry spelled spells = (spelled.0, spelled_more contents entries content entry spelled.1 spells)

spelled_once : (contents : List (List ℕ)) (entries others : List TickRecord) → AreSpelled contents entries → AreSpelled contents others → entries ≡ others
spelled_once [] [] [] spelled also = refl
spelled_once [] (e ∷ entries) others spelled also = absurd spelled
spelled_once [] [] (o ∷ others) spelled also = absurd also
spelled_once (c ∷ contents) [] others spelled also = absurd spelled
spelled_once (c ∷ contents) (e ∷ entries) [] spelled also = absurd also
spelled_once (c ∷ contents) (e ∷ entries) (o ∷ others) spelled also =
    let one = spelled_one c e o spelled.0 also.0 in
    let rest = spelled_once contents entries others spelled.1 also.1 in
    cc

-- The records up to a content, and the record of the content.
record SpelledAt (contents : List (List ℕ)) (content : List ℕ) (entries : List TickRecord) : Type 0 where
  front : List TickRecord
  entry : TickRecord
  more : List TickRecord
  split : entries ≡ front ++ entry ∷ more
  before : AreSpelled contents front
  spells : SpellsTick content entry

spelled_at : (contents : List (List ℕ)) (content : List ℕ) (later : List (List ℕ)) (entries : List TickRecord) → AreSpelled (contents ++ content ∷ later) entries → SpelledAt contents content entries
spelled_at [] content later [] spelled = absurd spelled
spelled_at [] content later (e ∷ entries) spelled = record { front = []; entry = e; more = entries; split = refl; before = tt; spells = spelled.0 }
spelled_at (c ∷ contents) content later [] spelled = absurd spelled
spelled_at (c ∷ contents) content later (e ∷ entries) spelled =
    let rest = spelled_at contents content later entries spelled.1 in
    record { front = e ∷ rest.front; entry = rest.entry; more = rest.more; split = ap (λ (l : List TickRecord). e ∷ l) rest.split; before = (spelled.0, rest.before); spells = rest.spells }

-- ---- contents of journals

pub contents_first : (base : Stored) (content : List ℕ) → SpellsBase content base → KeepsRules base → AreContents base [] (content ∷ [])
contents_first base content spells keeps = record {
  first = content;
  later = [];
  split = refl;
  base_spelled = spells;
  spelled = tt;
  course = record { form = spells.0; rules = keeps; forms = tt; follow = tt };
}

pub read_of : {content : List ℕ} {entry : TickRecord} → SpellsTick content entry → IsRead entry
read_of spells = record { form = spells.0; full = spells.1 }

pub contents_more : {base : Stored} {entries : List TickRecord} {contents : List (List ℕ)} (content : List ℕ) (entry : TickRecord) → AreContents base entries contents → SpellsTick content entry → Follows (world_after base entries) entry
    → AreContents base (entries ++ entry ∷ []) (contents ++ content ∷ [])
contents_more {base = base} {entries = entries} content entry are spells follows = record {
  first = are.first;
  later = are.later ++ content ∷ [];
  split = ap (λ (l : List (List ℕ)). l ++ content ∷ []) are.split;
  base_spelled = are.base_spelled;
  spelled = spelled_more are.later entries content entry are.spelled spells;
  course = course_more base entries entry are.course (read_of spells) follows;
}

pub contents_once : {base other : Stored} {entries others : List TickRecord} {contents : List (List ℕ)} → AreContents base entries contents → AreContents other others contents → (base ≡ other) × (entries ≡ others)
contents_once {base = base} {other = other} {entries = entries} {others = others} are also =
    let heads : are.first ∷ are.later ≡ also.first ∷ also.later = sym are.split ∙ also.split in
    let first : also.first ≡ are.first = cc in
    let later : also.later ≡ are.later = cc in (
      base_one are.first base other are.base_spelled (subst (λ (content : List ℕ). SpellsBase content other) first also.base_spelled),
      spelled_once are.later entries others are.spelled (subst (λ (contents : List (List ℕ)). AreSpelled contents others) later also.spelled),
    )

front_begins : (base : Stored) (entries : List TickRecord) (first : List ℕ) (contents : List (List ℕ)) (content : List ℕ) → SpellsBase first base → IsCourse base entries → SpelledAt contents content entries → BeginJournal (first ∷ (contents ++ content ∷ []))
front_begins base entries first contents content spells course at =
    let split = subst (λ (l : List TickRecord). IsCourse base l) at.split course in
    inr (
      base,
      at.front ++ at.entry ∷ [],
      contents_more content at.entry (record {
        first = first;
        later = contents;
        split = refl;
        base_spelled = spells;
        spelled = at.before;
        course = course_front base at.front (at.entry ∷ at.more) split;
      }) at.spells (follows_at base at.front at.entry at.more split),
    )

-- a journal's contents, up to any of them, begin a journal
pub contents_begin : {base : Stored} {entries : List TickRecord} (contents : List (List ℕ)) (content : List ℕ) (later : List (List ℕ)) → AreContents base entries (contents ++ content ∷ later) → BeginJournal (contents ++ content ∷ [])
contents_begin {base = base} {entries = entries} [] content later are =
    let heads : are.first ∷ are.later ≡ content ∷ later = sym are.split in
    let first : are.first ≡ content = cc in
    inr (base, [], contents_first base content (subst (λ (c : List ℕ). SpellsBase c base) first are.base_spelled) are.course.rules)
contents_begin {base = base} {entries = entries} (c ∷ contents) content later are =
    let heads : c ∷ (contents ++ content ∷ later) ≡ are.first ∷ are.later = are.split in
    let first : are.first ≡ c = cc in
    let rest : are.later ≡ contents ++ content ∷ later = cc in
    front_begins base entries c contents content (subst (λ (l : List ℕ). SpellsBase l base) first are.base_spelled) are.course (spelled_at contents content later entries (subst (λ (l : List (List ℕ)). AreSpelled l entries) rest are.spelled))

-- What goes on with a journal's contents spells a record that follows.
pub record GoesOnWith (base : Stored) (entries : List TickRecord) (content : List ℕ) : Type 0 where
  pub entry : TickRecord
  pub spells : SpellsTick content entry
  pub follows : Follows (world_after base entries) entry

front_goes_on : (base : Stored) (entries others : List TickRecord) (later : List (List ℕ)) (content : List ℕ) → AreSpelled later entries → IsCourse base others → SpelledAt later content others → GoesOnWith base entries content
front_goes_on base entries others later content spelled course at =
    let split = subst (λ (l : List TickRecord). IsCourse base l) at.split course in
    let front : at.front ≡ entries = spelled_once later at.front entries at.before spelled in
    record {
      entry = at.entry;
      spells = at.spells;
      follows = subst (λ (l : List TickRecord). Follows (world_after base l) at.entry) front (follows_at base at.front at.entry at.more split);
    }

pub contents_last : {base other : Stored} {entries others : List TickRecord} (contents : List (List ℕ)) (content : List ℕ) → AreContents base entries contents → AreContents other others (contents ++ content ∷ []) → GoesOnWith base entries content
contents_last {base = base} {other = other} {entries = entries} {others = others} contents content are also =
    let whole : are.first ∷ (are.later ++ content ∷ []) ≡ also.first ∷ also.later = sym (ap (λ (l : List (List ℕ)). l ++ content ∷ []) are.split) ∙ also.split in
    let first : also.first ≡ are.first = cc in
    let rest : also.later ≡ are.later ++ content ∷ [] = cc in
    let same : other ≡ base = base_one are.first other base (subst (λ (c : List ℕ). SpellsBase c other) first also.base_spelled) are.base_spelled in
    front_goes_on base entries others are.later content are.spelled (subst (λ (w : Stored). IsCourse w others) same also.course) (spelled_at are.later content [] others (subst (λ (l : List (List ℕ)). AreSpelled l others) rest also.spelled))
