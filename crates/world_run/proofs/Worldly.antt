-- Runs of stored worlds are runs of the worlds that they store: the same journal, the same lines, the same ticks.
use Rattle.std.proofs.Common.{◌≡◌, ℕ, suc, List, [], ◌∷◌, ◌++◌, length, map, take, Option, Some, inl, inr, refl, sym, ap, subst, ◌∙◌}
use Rattle.std.specs.List.{AllByRecursion, flat_map}
use Rattle.std.specs.FinMap.{get, values}
use Rattle.std.proofs.lemmas.List.{length-map, map-append}
use Rattle.std.specs.Io.KnownBytes.{Appends}
use Rattle.world_io.specs.Told.{AppendsPrefix, GaveAll}
use Rattle.object_store.specs.declared.world.Room.{Room}
use Rattle.object_store.specs.Stored.{Stored}
use Rattle.room_table.specs.Tables.{Table}
use Rattle.intent_book.specs.declared.player_run.PlayerRun.{PlayerRun}
use Rattle.world_rules.specs.World.{World, Frame, Listing, framed_from, listing_of, world_of}
use Rattle.world_rules.specs.World as worlds
use Rattle.world_rules.specs.Sound.{IsSound, bare_room, bare}
use Rattle.world_form.specs.Facts.{Filed, filed_listing}
use Rattle.world_form.specs.Files.{WorldForm}
use Rattle.world_form.proofs.OneThing.{one_world}
use Rattle.upload_stream.specs.Streams.{Upload}
use Rattle.tick_journal.specs.BaseForms.{world_as_read}
use Rattle.tick_journal.specs.declared.entries.UploadEntry.{UploadEntry}
use Rattle.tick_journal.specs.declared.tick_record.TickRecord.{TickRecord}
use Rattle.record_follows.specs.Courses.{world_after}
use Rattle.recorded_tick.specs.Recording.{AreChangedRooms, IsRecordOf}
use Rattle.hosted_tick.specs.Hosting.{Held, IsHosted, state_of}
use Rattle.world_run.proofs.Gave.{gave_whole}
use Rattle.run_lines.specs.Lines.{object_count, total_energy, start_line, tick_line, tick_lines}
use Rattle.world_replay.specs.Listed.{listed}
use Rattle.world_replay.proofs.Listing.{file_listed, listed_is, serials_shown}
use Rattle.world_run.specs.Runs.{Step, IsStep, Follow, last_of, output, recorded_of, resumed, step_lines, AppendsPart}
use Rattle.world_run.specs.inner.Held as held
use Rattle.world_run.specs.Ends.{CutsLast}

-- ---- that room is in no line

mapped_same : {A B : Type 0} (f : A → B) (g : A → A) → ((x : A) → f (g x) ≡ f x) → (xs : List A) → map f (map g xs) ≡ map f xs
mapped_same f g same [] = refl
mapped_same f g same (x ∷ xs) = let rest = mapped_same f g same xs in λ i. same x i ∷ rest i

pub many_rooms : (rooms : List Room) → length (map bare_room rooms) ≡ length rooms
many_rooms [] = refl
many_rooms (room ∷ rooms) = ap suc (many_rooms rooms)

listing_same : (stored : Stored) → listing_of (bare stored) ≡ listing_of stored
listing_same stored =
    let rooms = mapped_same worlds.listed_room bare_room (λ room. refl) stored.rooms in
    λ i. record { rules = 1; tick = stored.tick; rooms = rooms i; accounts = stored.accounts }

pub count_same : (stored : Stored) → object_count (bare stored) ≡ object_count stored
count_same stored = ap (λ (listing : Listing). length (worlds.placed listing)) (listing_same stored)

pub energy_same : (stored : Stored) → total_energy (bare stored) ≡ total_energy stored
energy_same stored = ap (λ (listing : Listing). Rattle.std.specs.List.sum_by (λ entry. entry.1.object.energy) (worlds.placed listing)) (listing_same stored)

start_same : (stored : Stored) → start_line (bare stored) ≡ start_line stored
unfolding start_line
start_same stored =
    let many = many_rooms stored.rooms in
    let count = count_same stored in
    rw (many, count)

line_same : (stored : Stored) (n : ℕ) → tick_line (bare stored) n ≡ tick_line stored n
unfolding tick_line
line_same stored n =
    let count = count_same stored in
    let energy = energy_same stored in
    rw (count, energy)

-- ---- steps

-- a step as it is held, told of its state
abbrev pub shown : held.Step → Step
shown step = record { uploads = step.uploads; runs = step.runs; after = state_of step.after; recorded = step.recorded }

abbrev pub AreSound : List held.Step → Type 0
AreSound steps = AllByRecursion (λ step. IsSound step.after.world) steps

start_shown : (first : Stored) → IsSound first → start_line (listed (world_of first)) ≡ start_line first
start_shown first s = ap start_line (listed_is first s) ∙ start_same first

lines_shown : (step : held.Step) → IsSound step.after.world → step_lines (shown step) ≡ held.step_lines step
lines_shown step s =
    ap (tick_lines step.uploads step.runs) (listed_is step.after.world s)
    ∙ ap (λ (line : List ℕ). flat_map Rattle.run_lines.specs.Lines.upload_line step.uploads ++ flat_map Rattle.run_lines.specs.Lines.run_line step.runs ++ line) (line_same step.after.world (length (Rattle.world_rules.specs.Tick.intents_of step.runs)))

all_shown : (f : Step → List ℕ) (h : held.Step → List ℕ) → ((step : held.Step) → IsSound step.after.world → f (shown step) ≡ h step) → (steps : List held.Step) → AreSound steps → flat_map f (map shown steps) ≡ flat_map h steps
all_shown f h same [] sound = refl
all_shown f h same (step ∷ steps) sound =
    let first = same step sound.0 in
    let rest = all_shown f h same steps sound.1 in
    λ i. first i ++ rest i

output_shown : (first : Stored) (steps : List held.Step) → IsSound first → AreSound steps → output (world_of first) (map shown steps) ≡ held.output first steps
output_shown first steps s sound =
    let start = start_shown first s in
    let later = all_shown step_lines held.step_lines lines_shown steps sound in
    λ i. start i ++ later i

-- ---- what follows what

hosted_first : (stream : List Upload) (before : Held) (steps : List held.Step) → held.Follow stream before steps → IsHosted before.world
hosted_first stream before [] f = f
hosted_first stream before (step ∷ later) f = f.0

pub sound_steps : (stream : List Upload) (before : Held) (steps : List held.Step) → held.Follow stream before steps → AreSound steps
sound_steps stream before [] f = tt
sound_steps stream before (step ∷ later) f = ((hosted_first stream step.after later f.3).sound, sound_steps stream step.after later f.3)

-- What changed of stored worlds changed of what is listed of them.
rooms_bare : (before after : List Room) (tables : List Table) → AreChangedRooms before after tables → AreChangedRooms (map bare_room before) (map bare_room after) tables
rooms_bare [] after tables is = is
rooms_bare (one ∷ before) [] tables is = is
rooms_bare (one ∷ before) (other ∷ after) tables (inl same) = inl (same.0, rooms_bare before after tables same.1)
rooms_bare (one ∷ before) (other ∷ after) tables (inr changed) = inr (changed.0, changed.1, changed.2, changed.3, changed.4, rooms_bare before after changed.2 changed.5)

recorded_listed : (before after : Stored) (uploads : List UploadEntry) (runs : List PlayerRun) (entry : TickRecord) → IsSound before → IsSound after → IsRecordOf before after uploads runs entry → IsRecordOf (listed (world_of before)) (listed (world_of after)) uploads runs entry
recorded_listed before after uploads runs entry s e is =
    let bared : IsRecordOf (bare before) (bare after) uploads runs entry = record {
      tick = is.tick;
      uploads_are = is.uploads_are;
      runs_are = is.runs_are;
      accounts = is.accounts;
      rooms = rooms_bare before.rooms after.rooms entry.rooms is.rooms;
    } in
    subst (λ (w : Stored). IsRecordOf w (listed (world_of after)) uploads runs entry) (sym (listed_is before s))
    (subst (λ (w : Stored). IsRecordOf (bare before) w uploads runs entry) (sym (listed_is after e)) bared)

pub follow_shown : (stream : List Upload) (before : Held) (steps : List held.Step) → held.Follow stream before steps → Follow stream (state_of before) (map shown steps)
follow_shown stream before [] f = tt
follow_shown stream before (step ∷ later) f =
    let is : IsStep stream (state_of before) (shown step) = record {
      made = f.2.made;
      recorded = recorded_listed before.world step.after.world step.uploads step.runs step.recorded f.0.sound (hosted_first stream step.after later f.3).sound f.2.recorded;
    } in
    (serials_shown before.world f.1, is, follow_shown stream step.after later f.3)

pub records_shown : (steps : List held.Step) → recorded_of (map shown steps) ≡ held.recorded_of steps
records_shown [] = refl
records_shown (step ∷ later) = ap (λ (l : List TickRecord). step.recorded ∷ l) (records_shown later)

pub last_shown : (before : Held) (steps : List held.Step) → last_of (state_of before) (map shown steps) ≡ state_of (held.last_of before steps)
last_shown before [] = refl
last_shown before (step ∷ later) = last_shown step.after later

pub many_shown : (steps : List held.Step) → length (map shown steps) ≡ length steps
many_shown steps = length-map steps shown

-- ---- where a run starts

-- A file's bytes say one world,
pub world_once : (bytes : List ℕ) (one other : World) → WorldForm bytes one → WorldForm bytes other → one ≡ other
world_once bytes one other form also =
    let filed : form.0 ≡ also.0 = one_world bytes form.0 also.0 form.1.0 also.1.0 in
    form.2 ∙ (ap (λ (f : Filed). worlds.world_listed (filed_listing f)) filed ∙ sym also.2)

-- which the journal has.
pub file_read : (new : Option (List ℕ)) (bytes given : List ℕ) (found : World) (world : Stored) → IsSound world → GaveAll (Some bytes) new given → WorldForm bytes found → WorldForm given (world_of world) → listed found ≡ world_as_read world
file_read new bytes given found world s gave form other =
    let there : WorldForm bytes (world_of world) = subst (λ (b : List ℕ). WorldForm b (world_of world)) (gave_whole new bytes given gave) other in
    ap listed (world_once bytes found (world_of world) form there) ∙ file_listed world s

pub read_world_of : (world : Stored) → world_of (world_as_read world) ≡ world_of world
read_world_of world = ap worlds.world_listed (listing_same world)

pub start_is : (base : Stored) (entries : List TickRecord) (first : Held) → held.IsAt base entries first → state_of first ≡ resumed base entries
start_is base entries first at =
    let world : world_of first.world ≡ world_of (world_after base entries) = sym (read_world_of first.world) ∙ ap world_of at.world in
    λ i. record { world = world i; modules = at.modules i }

-- ---- what is left

module _ (stream : List Upload) (first : Held) (steps : List held.Step) (f : held.Follow stream first steps) where
  first_sound : IsSound first.world
  first_sound = (hosted_first stream first steps f).sound

  steps_sound : AreSound steps
  steps_sound = sound_steps stream first steps f

  pub output_same : output (world_of first.world) (map shown steps) ≡ held.output first.world steps
  output_same = output_shown first.world steps first_sound steps_sound

  pub output_left : (old new : Option (List ℕ)) → Appends old new (held.output first.world steps) → Appends old new (output (world_of first.world) (map shown steps))
  output_left old new given = subst (Appends old new) (sym (output_shown first.world steps first_sound steps_sound)) given

  front_sound : (earlier : List held.Step) (last : held.Step) → AreSound (earlier ++ last ∷ []) → AreSound earlier × IsSound last.after.world
  front_sound [] last all = (tt, all.0)
  front_sound (x ∷ earlier) last all = let rest = front_sound earlier last all.1 in ((all.0, rest.0), rest.1)

  cut_at : (old new : Option (List ℕ)) (earlier : List held.Step) (last : held.Step) → steps ≡ earlier ++ last ∷ [] → AppendsPart old new (held.output first.world earlier) (held.step_lines last)
      → (map shown steps ≡ map shown earlier ++ shown last ∷ []) × AppendsPart old new (output (world_of first.world) (map shown earlier)) (step_lines (shown last))
  cut_at old new earlier last is part =
      let both = front_sound earlier last (subst AreSound is steps_sound) in
      let lines = output_shown first.world earlier first_sound both.0 in
      let ending = lines_shown last both.1 in (
        ap (map shown) is ∙ map-append shown earlier (last ∷ []),
        (part.0, subst (Appends old new) (λ i. sym lines i ++ take part.0 (sym ending i)) part.1),
      )

  cuts_as : (old new : Option (List ℕ)) (all : List held.Step) → steps ≡ all → held.CutsLast old new first.world all → CutsLast old new (world_of first.world) (map shown all)
  cuts_as old new [] is cut = subst (AppendsPrefix old new) (sym (start_shown first.world first_sound)) cut
  cuts_as old new (x ∷ later) is cut =
      let found = cut_at old new cut.0 cut.1 (is ∙ cut.2) cut.3 in
      (map shown cut.0, shown cut.1, sym (ap (map shown) is) ∙ found.0, found.1)

  pub cuts_left : (old new : Option (List ℕ)) → held.CutsLast old new first.world steps → CutsLast old new (world_of first.world) (map shown steps)
  cuts_left old new cut = cuts_as old new steps refl cut
