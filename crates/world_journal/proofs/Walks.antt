-- The steps of a reading.
use Rattle.std.proofs.Common.{◌≡◌, ℕ, ◌+◌, ◌<◌, ◌≤◌, List, [], ◌∷◌, ◌++◌, length, refl, sym, ◌∙◌, ap, subst, arith, length-append, Option, Some, None, IfSome, Vec, Global}
use Rattle.world_io.specs.Disk.{LengthIs}
use Rattle.frame_log.specs.Reading.{FindsAt}
use Rattle.frame_log.specs.declared.read.Behind.{Behind}
use Rattle.frame_log.specs.declared.read.Behind.TheVariants.{Broken, Closed, Frame}
use Rattle.object_store.specs.Stored.{Stored}
use Rattle.record_follows.specs.Courses.{world_after}
use Rattle.record_follows.specs.Follows.{Fits, Follows, after}
use Rattle.record_follows.proofs.Steps.{world_after_one}
use Rattle.rule_check.specs.Kept.{KeepsObjectRules}
use Rattle.tick_journal.specs.BaseForms.{SpellsBase}
use Rattle.tick_journal.specs.TickForms.{SpellsTick}
use Rattle.tick_journal.specs.declared.tick_record.TickRecord.{TickRecord}
use Rattle.tick_journal.proofs.Ticks.{spelled_one}
use Rattle.world_journal.specs.Counted.{IsCounted}
use Rattle.world_journal.specs.Faults.{FailsAt}
use Rattle.world_journal.specs.Journals.{IsCourse, KeepsRules}
use Rattle.world_journal.specs.declared.untested.UntestedWalk.{UntestedWalk}
use Rattle.world_journal.specs.declared.walk.Walk.{Walk}
use Rattle.world_journal.specs.Walking.{HasPassed, HasPassedAll, HasPut, HasWalked, IsFront}
use Rattle.world_journal.proofs.Contents.{read_of}
use Rattle.world_journal.proofs.Courses.{course_more}
use Rattle.world_journal.proofs.Fronts.{first_broken, first_fails, first_front, next_broken, next_fails, next_front}

-- ---- the first frame

module _ (seen now : Option (List ℕ)) (same : now ≡ seen) where
  pub begin_broken : (len : ℕ) → LengthIs seen len → 1 < len → (behind : Behind) → behind ≡ Broken → FindsAt 0 behind now → IfSome seen (FailsAt 0)
  begin_broken len is long behind broken finds = at seen is (rw (same, broken) at finds)
    where
      at : (seen : Option (List ℕ)) → LengthIs seen len → FindsAt 0 Broken seen → IfSome seen (FailsAt 0)
      at None is finds = tt
      at (Some bytes) is finds = first_broken bytes (omega (arith, is)) finds

  module _ (behind : Behind) (content : Vec ℕ Global) (frame : behind ≡ Frame content) (finds : FindsAt 0 behind now) (text : List ℕ) (whole : text ≡ content.items) where
    found : FindsAt 0 (Frame content) seen
    found = rw (same, frame) at finds

    pub begin_fails : ((base : Stored) → SpellsBase text base → KeepsRules base → ⊥) → IfSome seen (FailsAt 0)
    begin_fails none = at seen found
      where
        at : (seen : Option (List ℕ)) → FindsAt 0 (Frame content) seen → IfSome seen (FailsAt 0)
        at None finds = tt
        at (Some bytes) finds = first_fails bytes content.items _ finds (λ base spells keeps. none base (subst (λ (l : List ℕ). SpellsBase l base) (sym whole) spells) keeps)

    pub begin_walked : (walk : Walk) → SpellsBase text walk.world → KeepsRules walk.world → IsCounted walk.world walk.census → walk.gate ≡ 9 + length content.items → HasWalked walk.world [] walk seen
    begin_walked walk spells keeps counted gate = record {
      counted = counted;
      course = record { form = spells.0; rules = keeps; forms = tt; follow = tt };
      world = refl;
      count = omega arith;
      front = rw gate (at seen found);
    }
      where
        at : (seen : Option (List ℕ)) → FindsAt 0 (Frame content) seen → IfSome seen (IsFront walk.world [] (9 + length content.items))
        at None finds = tt
        at (Some bytes) finds = first_front bytes content.items _ finds walk.world (subst (λ (l : List ℕ). SpellsBase l walk.world) whole spells) keeps

-- ---- the frames of records

module _ (base : Stored) (entries : List TickRecord) (world : Stored) (gate : ℕ) (seen : Option (List ℕ)) (course : IsCourse base entries) (led : world ≡ world_after base entries) (front : IfSome seen (IsFront base entries gate)) where
  pub step_broken : (behind : Behind) → behind ≡ Broken → FindsAt gate behind seen → IfSome seen (FailsAt gate)
  step_broken behind broken finds = at seen front (rw broken at finds)
    where
      at : (seen : Option (List ℕ)) → IfSome seen (IsFront base entries gate) → FindsAt gate Broken seen → IfSome seen (FailsAt gate)
      at None is finds = tt
      at (Some bytes) is finds = next_broken is finds

  module _ (behind : Behind) (content : Vec ℕ Global) (frame : behind ≡ Frame content) (finds : FindsAt gate behind seen) (text : List ℕ) (whole : text ≡ content.items) where
    there : FindsAt gate (Frame content) seen
    there = rw frame at finds

    pub step_fails : ((entry : TickRecord) → SpellsTick text entry → Follows world entry → ⊥) → IfSome seen (FailsAt gate)
    step_fails none = at seen front there
      where
        at : (seen : Option (List ℕ)) → IfSome seen (IsFront base entries gate) → FindsAt gate (Frame content) seen → IfSome seen (FailsAt gate)
        at None is finds = tt
        at (Some bytes) is finds = next_fails is content.items _ finds (λ entry spells follows.
            none entry (subst (λ (l : List ℕ). SpellsTick l entry) (sym whole) spells) (subst (λ (w : Stored). Follows w entry) (sym led) follows))

    module _ (entry : TickRecord) (spells : SpellsTick text entry) (follows : Follows world entry) where
      there_follows : Follows (world_after base entries) entry
      there_follows = subst (λ (w : Stored). Follows w entry) led follows

      step_course : IsCourse base (entries ++ entry ∷ [])
      step_course = course_more base entries entry course (read_of spells) there_follows

      step_led : (next : Stored) → next ≡ after world entry → next ≡ world_after base (entries ++ entry ∷ [])
      step_led next leads = leads ∙ ap (λ (w : Stored). after w entry) led ∙ sym (world_after_one base entries entry)

      step_count : (next : ℕ) → next ≡ gate + 9 + length content.items → length entries ≤ gate → length (entries ++ entry ∷ []) ≤ next
      step_count next is count = omega (arith, is, count, length-append entries (entry ∷ []))

      step_front : (next : ℕ) → next ≡ gate + 9 + length content.items → IfSome seen (IsFront base (entries ++ entry ∷ []) next)
      step_front next is = rw is (at seen front there)
        where
          at : (seen : Option (List ℕ)) → IfSome seen (IsFront base entries gate) → FindsAt gate (Frame content) seen → IfSome seen (IsFront base (entries ++ entry ∷ []) (gate + 9 + length content.items))
          at None is finds = tt
          at (Some bytes) is finds = next_front is content.items _ entry finds (subst (λ (l : List ℕ). SpellsTick l entry) whole spells) there_follows

      pub step_walked : (next : Walk) → length entries ≤ gate → next.world ≡ after world entry → IsCounted next.world next.census → next.gate ≡ gate + 9 + length content.items → HasWalked base (entries ++ entry ∷ []) next seen
      step_walked next count leads counted is = record {
        counted = counted;
        course = step_course;
        world = step_led next.world leads;
        count = step_count next.gate is count;
        front = step_front next.gate is;
      }

      pub step_passed : (next : UntestedWalk) → length entries ≤ gate → next.world ≡ after world entry → next.gate ≡ gate + 9 + length content.items → HasPassed base (entries ++ entry ∷ []) next seen
      step_passed next count leads is = record {
        course = step_course;
        world = step_led next.world leads;
        count = step_count next.gate is count;
        front = step_front next.gate is;
      }

-- ---- records that fit

follows_fitting : (before : Stored) (entry : TickRecord) → Fits before entry → KeepsObjectRules (after before entry) → Follows before entry
follows_fitting before entry fits keeps = record { tick = fits.tick; rooms = fits.rooms; runs = fits.runs; accounts = fits.accounts; rules = keeps; uploads = fits.uploads }

fitting_follows : (before : Stored) (entry : TickRecord) → Follows before entry → Fits before entry
fitting_follows before entry follows = record { tick = follows.tick; rooms = follows.rooms; runs = follows.runs; accounts = follows.accounts; uploads = follows.uploads }

module _ (base : Stored) (entries : List TickRecord) (walk : UntestedWalk) (seen : Option (List ℕ)) (has : HasPassed base entries walk seen) where
  pub pass_broken : (behind : Behind) → behind ≡ Broken → FindsAt walk.gate behind seen → IfSome seen (FailsAt walk.gate)
  pass_broken = step_broken base entries walk.world walk.gate seen has.course has.world has.front

  pub pass_closed : (behind : Behind) → behind ≡ Closed → FindsAt walk.gate behind seen → HasPassedAll base entries walk seen
  pass_closed behind closed finds = record { passed = has; closed = rw closed at finds }

  module _ (behind : Behind) (content : Vec ℕ Global) (frame : behind ≡ Frame content) (finds : FindsAt walk.gate behind seen) (text : List ℕ) (whole : text ≡ content.items) where
    pub pass_fails : ((entry : TickRecord) → SpellsTick text entry → Fits walk.world entry → ⊥) → IfSome seen (FailsAt walk.gate)
    pass_fails none =
        step_fails base entries walk.world walk.gate seen has.course has.world has.front behind content frame finds text whole
        (λ entry spells follows. none entry spells (fitting_follows walk.world entry follows))

    -- the record that is spelled is the only one
    not_kept : (entry : TickRecord) → SpellsTick text entry → (KeepsObjectRules (after walk.world entry) → ⊥) → (other : TickRecord) → SpellsTick text other → Follows walk.world other → ⊥
    not_kept entry spells broken other also follows = broken (subst (λ (e : TickRecord). KeepsObjectRules (after walk.world e)) (spelled_one text other entry also spells) follows.rules)

    pub pass_put : (entry told : TickRecord) (next : UntestedWalk) → told ≡ record entry { rooms = [] } → SpellsTick text entry → Fits walk.world entry → next.world ≡ after walk.world entry → next.from ≡ walk.gate → next.gate ≡ walk.gate + 9 + length content.items
        → HasPut base entries walk next seen told
    pass_put entry told next rest spells fits leads from gate = record {
      entry = entry;
      rest = rest;
      read = read_of spells;
      fits = fits;
      world = leads;
      passes = λ keeps. step_passed base entries walk.world walk.gate seen has.course has.world has.front behind content frame finds text whole entry spells
          (follows_fitting walk.world entry fits (subst KeepsObjectRules leads keeps)) next has.count leads gate;
      fails = λ broken. rw from (step_fails base entries walk.world walk.gate seen has.course has.world has.front behind content frame finds text whole
          (not_kept entry spells (λ keeps. broken (subst KeepsObjectRules (sym leads) keeps))));
    }
