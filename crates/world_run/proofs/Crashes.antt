-- What a crash leaves of the opening of a journal, and of ticks.
use Rattle.std.proofs.Common.{◌≡◌, ℕ, ◌+◌, ◌≤◌, List, [], ◌∷◌, ◌++◌, length, take, Option, Some, None, IfSome, inl, inr, ap, sym, subst, ◌∙◌, append_assoc, arith}
use Rattle.std.proofs.lemmas.List.{append-nil, length_push, length-map, map-append, take_all}
use Rattle.std.proofs.Math.Seq.{take-append-add}
use Rattle.std.specs.Io.KnownBytes.{Appends}
use Rattle.frame_log.specs.Frames.{IsEmpty}
use Rattle.object_store.specs.Stored.{Stored}
use Rattle.tick_journal.specs.BaseForms.{world_as_read}
use Rattle.tick_journal.specs.declared.tick_record.TickRecord.{TickRecord}
use Rattle.world_io.specs.Disk.{TellsAlike}
use Rattle.world_io.specs.Moments.{LeavesNow, LeavesSince, Moment, Rests}
use Rattle.world_io.specs.Told.{AppendsPrefix}
use Rattle.world_io.proofs.Images.{image_settled}
use Rattle.world_io.proofs.Known.{appends_more}
use Rattle.world_io.proofs.Moments.{left_now, since_trans, since_weaken}
use Rattle.world_journal.specs.Journals.{HasJournal, IsBeforeOrAfter, IsEmptyOrBase, IsJournal, IsKeptOrCut}
use Rattle.world_journal.proofs.Journals.{journal_once, journal_some}
use Rattle.world_run.specs.Runs.{Stood}
use Rattle.world_run.specs.inner.Held.{Step, recorded_of}
use Rattle.world_run.specs.Images.{HasAtLeast, IsOpening}
use Rattle.world_run.specs.inner.Crashes.{StoodAs}

-- ---- known bytes

pub prefix_whole : (a b : Option (List ℕ)) (xs : List ℕ) → Appends a b xs → AppendsPrefix a b xs
prefix_whole a b xs h = (length xs, subst (λ (l : List ℕ). Appends a b l) (sym (take_all (length xs) xs (omega arith))) h)

pub prefix_more : (a b c : Option (List ℕ)) (xs ys : List ℕ) → Appends a b xs → AppendsPrefix b c ys → AppendsPrefix a c (xs ++ ys)
prefix_more a b c xs ys h k = (length xs + k.0, subst (λ (l : List ℕ). Appends a c l) (sym (take-append-add xs ys k.0)) (appends_more a b c xs (take k.0 ys) h k.1))

-- ---- images

pub now_weaken : (P Q : List ℕ → Type 0) (moments : List Moment) → ((image : List ℕ) → P image → Q image) → LeavesNow P moments → LeavesNow Q moments
now_weaken P Q [] weaker h = tt
now_weaken P Q (now ∷ past) weaker h = λ image is. weaker image (h image is)

pub now_has : (base : Stored) (entries : List TickRecord) (gate : ℕ) (seen : Option (List ℕ)) (moments : List Moment) → HasJournal base entries gate seen moments → LeavesNow (IsJournal base entries) moments
now_has base entries gate seen moments h =
    rw h.has.rests.settled_now (λ image is. record {
      contents = h.contents;
      stand = record { front = h.has.front; spelled = h.has.spelled; rest = []; split = image_settled (h.has.front ++ 0 ∷ []) image is };
      are = h.are;
    })

module _ (least : ℕ) (base : Stored) (entries further : List TickRecord) (image : List ℕ) where
  pub has_all : least ≤ length further → IsJournal base (entries ++ further) image → HasAtLeast least base entries further image
  has_all le is = record { first = further; rest = []; split = sym (append-nil further); enough = le; stands = is }

  pub has_longer : (entry : TickRecord) → HasAtLeast least base entries further image → HasAtLeast least base entries (further ++ entry ∷ []) image
  has_longer entry h = record {
    first = h.first;
    rest = h.rest ++ entry ∷ [];
    split = ap (λ (l : List TickRecord). l ++ entry ∷ []) h.split ∙ append_assoc h.first h.rest (entry ∷ []);
    enough = h.enough;
    stands = h.stands;
  }

  pub has_more : (entry : TickRecord) → least ≤ length further → IsBeforeOrAfter base (entries ++ further) entry image → HasAtLeast least base entries (further ++ entry ∷ []) image
  has_more entry le (inl old) = has_longer entry (has_all le old)
  has_more entry le (inr new) = record {
    first = further ++ entry ∷ [];
    rest = [];
    split = sym (append-nil (further ++ entry ∷ []));
    enough = let more = length_push further entry in omega (arith, more, le);
    stands = subst (λ (l : List TickRecord). IsJournal base l image) (append_assoc entries further (entry ∷ [])) new;
  }

-- ---- one step more

module _ (base : Stored) (entries : List TickRecord) (steps : List Step) (step : Step) where
  recorded_more : recorded_of steps ++ step.recorded ∷ [] ≡ recorded_of (steps ++ step ∷ [])
  recorded_more = sym (map-append (λ (s : Step). s.recorded) steps (step ∷ []))

  recorded_many : length (recorded_of steps) ≡ length steps
  recorded_many = let f : Step → TickRecord = λ s. s.recorded in length-map steps f

  pub since_one : (least : ℕ) (mid new : List Moment) → least ≤ length steps → LeavesSince (IsBeforeOrAfter base (entries ++ recorded_of steps) step.recorded) mid new
      → LeavesSince (HasAtLeast least base entries (recorded_of (steps ++ step ∷ []))) mid new
  since_one least mid new le next =
      let many = recorded_many in
      let le_too : least ≤ length (recorded_of steps) = omega (arith, many, le) in
      subst (λ (l : List TickRecord). LeavesSince (HasAtLeast least base entries l) mid new) recorded_more
      (since_weaken (λ image is. has_more least base entries (recorded_of steps) image step.recorded le_too is) next)

  pub since_more : (old mid new : List Moment) → LeavesSince (HasAtLeast 0 base entries (recorded_of steps)) old mid → LeavesSince (IsBeforeOrAfter base (entries ++ recorded_of steps) step.recorded) mid new
      → LeavesSince (HasAtLeast 0 base entries (recorded_of (steps ++ step ∷ []))) old new
  since_more old mid new so_far next =
      let longer = subst (λ (l : List TickRecord). LeavesSince (HasAtLeast 0 base entries l) old mid) recorded_more
      (since_weaken (λ image is. has_longer 0 base entries (recorded_of steps) image step.recorded is) so_far) in
      since_trans longer (since_one 0 mid new (omega arith) next)

  -- what a crash leaves where the record may not be there
  pub now_before : (gate : ℕ) (seen : Option (List ℕ)) (mid new : List Moment) → HasJournal base (entries ++ recorded_of steps) gate seen mid → LeavesSince (IsBeforeOrAfter base (entries ++ recorded_of steps) step.recorded) mid new
      → LeavesNow (HasAtLeast (length steps) base entries (recorded_of (steps ++ step ∷ []))) new
  now_before gate seen mid new has next =
      let many = recorded_many in
      let le : length steps ≤ length (recorded_of steps) = omega (arith, many) in
      let first = now_weaken (IsJournal base (entries ++ recorded_of steps)) (HasAtLeast (length steps) base entries (recorded_of (steps ++ step ∷ []))) mid
      (λ image is. subst (λ (l : List TickRecord). HasAtLeast (length steps) base entries l image) recorded_more (has_more (length steps) base entries (recorded_of steps) image step.recorded le (inl is)))
      (now_has base (entries ++ recorded_of steps) gate seen mid has) in
      left_now first (since_one (length steps) mid new (omega arith) next)

-- what a crash leaves where all records are there
pub now_all : (base : Stored) (entries : List TickRecord) (steps : List Step) (moments : List Moment) → LeavesNow (IsJournal base (entries ++ recorded_of steps)) moments → LeavesNow (HasAtLeast (length steps) base entries (recorded_of steps)) moments
now_all base entries steps moments now =
    let f : Step → TickRecord = λ s. s.recorded in
    let many = length-map steps f in
    let le : length steps ≤ length (recorded_of steps) = omega (arith, many) in
    now_weaken (IsJournal base (entries ++ recorded_of steps)) (HasAtLeast (length steps) base entries (recorded_of steps)) moments (λ image is. has_all (length steps) base entries (recorded_of steps) image le is) now

-- ---- the opening

module _ (world : Stored) (bytes : List ℕ) (base : Stored) (entries : List TickRecord) where
  pub kept_opening : StoodAs world bytes base entries → (image : List ℕ) → IsKeptOrCut bytes image → IsOpening bytes base entries image
  kept_opening (inl none) image (inl same) = inl (none.0, subst IsEmpty (sym same) none.0)
  kept_opening (inl none) image (inr other) = absurd (journal_some bytes other.0 other.1 other.2 none.0)
  kept_opening (inr is) image (inl same) = inr (subst (λ (l : List ℕ). IsJournal base entries l) (sym same) is)
  kept_opening (inr is) image (inr other) =
      let once = journal_once bytes other.0 base other.1 entries other.2 is in
      inr (subst (λ (l : List TickRecord). IsJournal base l image) once.1 (subst (λ (w : Stored). IsJournal w other.1 image) once.0 other.3))

  pub base_opening : StoodAs world bytes base entries → IsEmpty bytes → (image : List ℕ) → IsEmptyOrBase (world_as_read world) image → IsOpening bytes base entries image
  base_opening (inl none) empty image (inl nothing) = inl (none.0, nothing)
  base_opening (inl none) empty image (inr is) =
      inr (subst (λ (l : List TickRecord). IsJournal base l image) (sym none.2) (subst (λ (w : Stored). IsJournal w [] image) (sym none.1) is))
  base_opening (inr is) empty image leaves = absurd (journal_some bytes base entries is empty)

  -- it is the journal that was opened
  pub same_stood : (others : List TickRecord) (seen : Option (List ℕ)) → seen ≡ Some bytes → StoodAs world bytes base entries → Stood seen (world_as_read world) others → (world_as_read world ≡ base) × (others ≡ entries)
  same_stood others seen told began stood = go began (subst (λ (s : Option (List ℕ)). Stood s (world_as_read world) others) told stood)
    where
      go : StoodAs world bytes base entries → Stood (Some bytes) (world_as_read world) others → (world_as_read world ≡ base) × (others ≡ entries)
      go (inl none) (inl nothing) = (sym none.1, nothing.1 ∙ sym none.2)
      go (inl none) (inr is) = absurd (journal_some bytes (world_as_read world) others is none.0)
      go (inr is) (inl nothing) = absurd (journal_some bytes base entries is nothing.0)
      go (inr is) (inr also) = journal_once bytes (world_as_read world) base others entries also is

pub rests_there : (bytes : List ℕ) (seen after : Option (List ℕ)) (moments later : List Moment) → after ≡ seen → later ≡ moments → Rests bytes seen moments → Rests bytes after later
rests_there bytes seen after moments later same crash rests =
    subst (λ (s : Option (List ℕ)). Rests bytes s later) (sym same) (subst (λ (m : List Moment). Rests bytes seen m) (sym crash) rests)

pub told_still : (Has : Type 0) (bytes : List ℕ) (seen after : Option (List ℕ)) → seen ≡ Some bytes → TellsAlike seen after → IfSome after (λ b. Has) → Has
told_still Has bytes seen after told alike has = go after (subst (λ (s : Option (List ℕ)). TellsAlike s after) told alike) has
  where
    go : (after : Option (List ℕ)) → TellsAlike (Some bytes) after → IfSome after (λ b. Has) → Has
    go None alike has = absurd alike
    go (Some new) alike has = has
