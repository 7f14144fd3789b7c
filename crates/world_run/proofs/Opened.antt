-- The opening of a journal.
use Rattle.std.proofs.Common.{◌≡◌, ℕ, cond, true, false, List, [], ◌∷◌, map, Option, Some, None, IfSome, inl, inr, refl, sym, ap, subst}
use Rattle.std.specs.List.{AllByRecursion, find}
use Rattle.std.specs.Prelude.{slice_get, unwrap_or, ◌==◌}
use Rattle.frame_log.specs.Frames.{IsEmpty, IsEmptyDisk}
use Rattle.object_store.specs.Stored.{Stored}
use Rattle.room_table.specs.Tables.{Table, without_spare}
use Rattle.object_store.specs.declared.world.Room.{Room}
use Rattle.tick_journal.specs.BaseForms.{HasBaseRoomForm, room_as_read, world_as_read}
use Rattle.tick_journal.specs.Contents.{base_content}
use Rattle.tick_journal.specs.declared.tick_record.TickRecord.{TickRecord}
use Rattle.world_io.specs.Disk.{TellsAlike}
use Rattle.world_io.specs.Moments.{Moment, Rests}
use Rattle.world_journal.specs.Faults.{FailsAt}
use Rattle.world_journal.specs.Journals.{HasJournal, IsCourse, IsJournal, IsQuiet, IsRead}
use Rattle.record_follows.specs.Courses.{world_after}
use Rattle.record_follows.specs.Follows.{after, room_after}
use Rattle.world_replay.specs.Differing.{DifferAt}
use Rattle.world_run.specs.Runs.{IsKept, Stood}
use Rattle.world_run.proofs.RunsLists.{journal_of}

-- Where nothing was committed, a crash leaves what a read gives.
pub empty_disk : (seen after : Option (List ℕ)) (moments later : List Moment) → IsQuiet seen moments → IfSome seen IsEmpty → after ≡ seen → later ≡ moments → IsEmptyDisk after later
empty_disk None after moments later quiet none same crash = subst (λ (s : Option (List ℕ)). IsEmptyDisk s later) (sym same) tt
empty_disk (Some bytes) after moments later quiet none same crash =
    subst (λ (s : Option (List ℕ)). IsEmptyDisk s later) (sym same)
    (none, subst (λ (m : List Moment). Rests bytes (Some bytes) m) (sym crash) quiet)

-- A journal that was begun is on the disk, where it tells.
pub begun_journal : (base : Stored) (gate : ℕ) (seen after : Option (List ℕ)) (moments later : List Moment) → IsEmptyDisk seen moments → TellsAlike seen after
    → ((bytes : List ℕ) → IsEmpty bytes → Rests bytes seen moments → HasJournal base [] gate after later)
    → IfSome after (λ bytes. HasJournal base [] gate after later)
begun_journal base gate seen None moments later none alike done = tt
begun_journal base gate None (Some new) moments later none alike done = absurd alike
begun_journal base gate (Some bytes) (Some new) moments later none alike done = done bytes none.0 none.1

-- A journal that was read is on the disk, where it tells.
pub read_journal : (base : Stored) (entries : List TickRecord) (gate : ℕ) (seen after : Option (List ℕ)) (later : List Moment) → TellsAlike seen after
    → IfSome seen (λ bytes. HasJournal base entries gate after later)
    → IfSome after (λ bytes. HasJournal base entries gate after later)
read_journal base entries gate seen None later alike has = tt
read_journal base entries gate None (Some new) later alike has = absurd alike
read_journal base entries gate (Some bytes) (Some new) later alike has = has

-- What stood on the disk.
pub stood_there : (seen : Option (List ℕ)) (base : Stored) (entries : List TickRecord) → IfSome seen (IsJournal base entries) → Stood seen base entries
stood_there None base entries is = tt
stood_there (Some bytes) base entries is = inr is

pub stood_empty : (seen : Option (List ℕ)) (base : Stored) → IfSome seen IsEmpty → Stood seen base []
stood_empty None base none = tt
stood_empty (Some bytes) base none = inl (none, refl)

some_same : (one other : List ℕ) → Some one ≡ Some other → one ≡ other
some_same one other same = cc

-- contents that differ are those of two worlds
pub differ_as : (at place : ℕ) (kept given : Option ℕ) (x y one other : List ℕ) → DifferAt place (slice_get x place) (slice_get y place) x y → x ≡ one → y ≡ other → at ≡ place → kept ≡ slice_get one place → given ≡ slice_get other place
    → DifferAt at kept given one other
differ_as at place kept given x y one other d first second here is_kept is_given =
    let a : DifferAt place (slice_get one place) (slice_get y place) one y = subst (λ (l : List ℕ). DifferAt place (slice_get l place) (slice_get y place) l y) first d in
    let b : DifferAt place (slice_get one place) (slice_get other place) one other = subst (λ (l : List ℕ). DifferAt place (slice_get one place) (slice_get l place) one l) second a in
    let e : DifferAt place kept (slice_get other place) one other = subst (λ (o : Option ℕ). DifferAt place o (slice_get other place) one other) (sym is_kept) b in
    let f : DifferAt place kept given one other = subst (λ (o : Option ℕ). DifferAt place kept o one other) (sym is_given) e in
    subst (λ (n : ℕ). DifferAt n kept given one other) (sym here) f

-- ---- tables of a course have no room for more objects

abbrev AreFull : List Room → Type 0
AreFull rooms = AllByRecursion (λ room. room.table ≡ without_spare room.table) rooms

pub full_as_read : (rooms : List Room) → AreFull rooms → map room_as_read rooms ≡ rooms
full_as_read [] all = refl
full_as_read (room ∷ rooms) all =
    let rest = full_as_read rooms all.1 in
    λ i. record { name = room.name; terrain = room.terrain; table = sym all.0 i } ∷ rest i

tables_full : (tables others : List Table) → tables ≡ map without_spare others → AllByRecursion (λ (t : Table). t ≡ without_spare t) tables
tables_full tables others same = subst (AllByRecursion (λ (t : Table). t ≡ without_spare t)) (sym same) (all_full others)
  where
    all_full : (xs : List Table) → AllByRecursion (λ (t : Table). t ≡ without_spare t) (map without_spare xs)
    all_full [] = tt
    all_full (x ∷ xs) = (refl, all_full xs)

found_full : (tables : List Table) (index : ℕ) (other : Table) → AllByRecursion (λ (t : Table). t ≡ without_spare t) tables → other ≡ without_spare other
    → unwrap_or (find (λ (t : Table). t.index == index) tables) other ≡ without_spare (unwrap_or (find (λ (t : Table). t.index == index) tables) other)
found_full [] index other all here = here
found_full (table ∷ tables) index other all here =
    let rest = found_full tables index other all.1 here in
    elim (table.index == index) as (λ b. unwrap_or (cond b (Some table) (find (λ (t : Table). t.index == index) tables)) other ≡ without_spare (unwrap_or (cond b (Some table) (find (λ (t : Table). t.index == index) tables)) other)) [ true ↦ all.0 | false ↦ rest ]

rooms_full : (tables : List Table) (rooms : List Room) → AllByRecursion (λ (t : Table). t ≡ without_spare t) tables → AreFull rooms → AreFull (map (room_after tables) rooms)
rooms_full tables [] all full = tt
rooms_full tables (room ∷ rooms) all full = (found_full tables room.table.index room.table all full.0, rooms_full tables rooms all full.1)

course_full : (base : Stored) (entries : List TickRecord) → AreFull base.rooms → AllByRecursion IsRead entries → AreFull (world_after base entries).rooms
course_full base [] full read = full
course_full base (entry ∷ later) full read =
    let tables = tables_full entry.rooms entry.rooms (ap (λ (e : TickRecord). e.rooms) read.0.full) in
    course_full (after base entry) later (rooms_full entry.rooms base.rooms tables full) read.1

base_full : (rooms : List Room) → AllByRecursion HasBaseRoomForm rooms → AreFull rooms
base_full [] forms = tt
base_full (room ∷ rooms) forms = (forms.0.full, base_full rooms forms.1)

-- So the last world is as it is read.
pub course_as_read : (base : Stored) (entries : List TickRecord) → IsCourse base entries → world_as_read (world_after base entries) ≡ world_after base entries
course_as_read base entries course =
    let world = world_after base entries in
    let rooms = full_as_read world.rooms (course_full base entries (base_full base.rooms course.form.rooms.forms) course.forms) in
    λ i. record { tick = world.tick; rooms = rooms i; accounts = world.accounts }

-- ---- why nothing was opened

-- A journal of the world, or nothing, is no other journal.
pub not_failing : (seen : Option (List ℕ)) (bytes : List ℕ) (base : Stored) (entries : List TickRecord) (at : ℕ) → seen ≡ Some bytes → Stood seen base entries → IfSome seen (FailsAt at)
    → (IsJournal base entries bytes → FailsAt at bytes → ⊥) → ⊥
not_failing seen bytes base entries at told stood fails law = go (subst (λ (s : Option (List ℕ)). Stood s base entries) told stood) (subst (λ (s : Option (List ℕ)). IfSome s (FailsAt at)) told fails)
  where
    go : Stood (Some bytes) base entries → FailsAt at bytes → ⊥
    go (inl none) f = f.some none.0
    go (inr is) f = law is f

pub other_world : (seen : Option (List ℕ)) (bytes : List ℕ) (base other : Stored) (entries others : List TickRecord) → seen ≡ Some bytes → Stood seen base entries → IfSome seen (IsJournal other others)
    → (IsJournal other others bytes → IsEmpty bytes → ⊥) → (IsJournal base entries bytes → IsJournal other others bytes → base ≡ other) → base ≡ other
other_world seen bytes base other entries others told stood is some one = go (subst (λ (s : Option (List ℕ)). Stood s base entries) told stood) (subst (λ (s : Option (List ℕ)). IfSome s (IsJournal other others)) told is)
  where
    go : Stood (Some bytes) base entries → IsJournal other others bytes → base ≡ other
    go (inl none) j = absurd (some j none.0)
    go (inr stands) j = one stands j

pub kept_there : (seen after : Option (List ℕ)) (later : List Moment) (base : Stored) (entries : List TickRecord) (gate : ℕ) → TellsAlike seen after → IfSome seen (IsJournal base entries) → IfSome seen (λ bytes. HasJournal base entries gate after later)
    → IsKept seen after
kept_there seen after later base entries gate alike is has =
    inr (base, entries, is, journal_of base entries gate after later (read_journal base entries gate seen after later alike has))

-- what stood there, and how it differs
pub some_other : (seen : Option (List ℕ)) (base : Stored) (entries : List TickRecord) (at : ℕ) (kept given : Option ℕ) (world : Stored) → IfSome seen (IsJournal base entries) → DifferAt at kept given (base_content base) (base_content world)
    → IfSome seen (λ bytes. (other : Stored) × (others : List TickRecord) × IsJournal other others bytes × DifferAt at kept given (base_content other) (base_content world))
some_other None base entries at kept given world is differ = tt
some_other (Some bytes) base entries at kept given world is differ = (base, entries, is, differ)
