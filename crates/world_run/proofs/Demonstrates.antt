-- What a run in memory on a generated world shows.
use Rattle.std.proofs.Common.{◌≡◌, ◌≢◌, ◌⊎◌, ◌∙◌, ◌+◌, ◌-◌, ◌<◌, ◌≤◌, ℕ, List, [], ◌∷◌, ◌++◌, length, take, drop, map, get_or, Option, Some, inl, inr, arith, sym, ap, subst}
use Rattle.std.specs.Prelude.{codes, decimal, slice_get}
use Rattle.std.specs.FinMap.{empty}
use Rattle.std.specs.Io.KnownBytes.{Appends}
use Rattle.std.proofs.lemmas.Bool.Decides.{eqb_tells}
use Rattle.std.proofs.lemmas.List.{get_or-drop, length-drop, take-append-drop, take_more}
use Rattle.std.proofs.lemmas.Option.{get_or_from_slice_get, slice_get_within}
use Rattle.hosted_tick.specs.Hosting.{Held, state_of}
use Rattle.hosted_tick.specs.Next.{State}
use Rattle.object_store.specs.Stored.{Stored}
use Rattle.tick_journal.specs.BaseForms.{world_as_read}
use Rattle.tick_journal.specs.declared.tick_record.TickRecord.{TickRecord}
use Rattle.upload_stream.specs.Streams.{Upload}
use Rattle.world_form.specs.Files.{WorldForm}
use Rattle.world_gen.specs.Uploads.{uploads}
use Rattle.world_io.specs.Told.{GaveAll}
use Rattle.world_journal.specs.Journals.{IsWholeJournal}
use Rattle.world_journal.proofs.Journals.{journal_some}
use Rattle.world_rules.specs.Sound.{IsSound}
use Rattle.world_rules.specs.World.{World, world_of}
use Rattle.world_run.specs.Demo.{AreMadeTicks, IsDemonstrated, IsLastLine, IsPlayerText, UsesUp, made_state, made_world}
use Rattle.world_replay.specs.Listed.{listed}
use Rattle.world_replay.specs.Serials.{HasRunOut, IsExhausted}
use Rattle.world_run.specs.Runs.{Follow, Stood, last_of, output, recorded_of, resumed}
use Rattle.world_run.specs.inner.Held as held
use Rattle.world_run.proofs.Gave.{gave_whole}
use Rattle.world_replay.proofs.Listing.{exhausted_shown, file_listed}
use Rattle.world_run.proofs.Worldly.{follow_shown, last_shown, many_shown, output_left, read_world_of, records_shown, shown, start_is, world_once}

-- ---- the last line of a text

-- From the place on no byte but maybe the last is a line feed.
abbrev pub IsOneLine : List ℕ → ℕ → Type 0
IsOneLine text start = (place : ℕ) → start ≤ place → place + 1 < length text → get_or text place 0 ≢ 10

module _ (text : List ℕ) (start : ℕ) (within : start ≤ length text) (line : IsOneLine text start) where
  only_at_end : (place : ℕ) → slice_get (drop start text) place ≡ Some 10 → place + 1 ≡ length (drop start text)
  only_at_end place at =
      let inside = slice_get_within (drop start text) place 10 at in
      let many = length-drop start text in
      let here : get_or text (start + place) 0 ≡ 10 = sym (get_or-drop start text place 0) ∙ get_or_from_slice_get (drop start text) place 10 0 at in
      elim (eqb_tells (place + 1) (length (drop start text))) [
        | inl end ↦ end.1
        | inr more ↦ absurd (line (start + place) (omega arith) (omega (arith, inside, many, within, more.1)) here)
      ]

  pub last_line : (start ≡ 0) ⊎ ((0 < start) × (get_or text (start - 1) 0 ≡ 10)) → IsLastLine (drop start text) text
  last_line begins = record {
    earlier = take start text;
    split = sym (take-append-drop start text);
    begins = elim begins [
      | inl none ↦ inl (ap (λ n. take n text) none)
      | inr (some, feed) ↦ inr (take (start - 1) text, behind some feed)
    ];
    one = only_at_end;
  }
    where
      behind : 0 < start → get_or text (start - 1) 0 ≡ 10 → take start text ≡ take (start - 1) text ++ 10 ∷ []
      behind some feed =
          let before : start - 1 < length text = omega (arith, some, within) in
          let next : start ≡ (start - 1) + 1 = omega (arith, some) in
          ap (λ n. take n text) next ∙ (take_more text (start - 1) 0 before ∙ ap (λ b. take (start - 1) text ++ b ∷ []) feed)

-- ---- the world that is made

-- What is read of a text that is a file of a world is this world.
pub made_same : (new : Option (List ℕ)) (text given : List ℕ) (one : World) (other : World) → WorldForm text one → GaveAll (Some text) new given → WorldForm given other → other ≡ one
made_same new text given one other form gave also =
    world_once text other one (subst (λ (b : List ℕ). WorldForm b other) (gave_whole new text given gave) also) form

-- ---- the run

-- What a disk and a sink without bytes are left with.
pub from_nothing : (disk sink : List ℕ) (disk_new sink_new : Option (List ℕ)) (stream : List Upload) (world : Stored) (steps : List held.Step) → disk ≡ [] → sink ≡ [] → held.Leaves (Some disk) disk_new (Some sink) sink_new stream world steps
    → held.Leaves (Some []) disk_new (Some []) sink_new stream world steps
from_nothing disk sink disk_new sink_new stream world steps no_disk no_sink leaves =
    subst (λ (d : List ℕ). held.Leaves (Some d) disk_new (Some []) sink_new stream world steps) no_disk
    (subst (λ (s : List ℕ). held.Leaves (Some disk) disk_new (Some s) sink_new stream world steps) no_sink leaves)

-- Of a world that is read of the file of a generated one, and of the uploads that its players make:
module _ (seed rooms : ℕ) (world : Stored) (same : world_of world ≡ made_world seed rooms) (sound : IsSound world) (text : List ℕ) (is_text : IsPlayerText text) (stream : List Upload) (made : stream ≡ uploads text rooms) where
  none_stood : (entries : List TickRecord) → Stood (Some []) (world_as_read world) entries → entries ≡ []
  none_stood entries (inl stood) = stood.1
  none_stood entries (inr is) = absurd (journal_some [] (world_as_read world) entries is (inl (omega arith)))

  start : (entries : List TickRecord) (first : Held) → Stood (Some []) (world_as_read world) entries → held.IsAt (world_as_read world) entries first → state_of first ≡ made_state seed rooms
  start entries first stood at =
      let none = none_stood entries stood in
      let here : world_of (world_as_read world) ≡ made_world seed rooms = read_world_of world ∙ same in
      start_is (world_as_read world) entries first at ∙ (ap (resumed (world_as_read world)) none ∙ (λ i. record { world = here i; modules = empty }))

  base : world_as_read world ≡ listed (made_world seed rooms)
  base = sym (file_listed world sound) ∙ ap listed same

  module _ (steps : List held.Step) (entries : List TickRecord) (first : Held) (stood : Stood (Some []) (world_as_read world) entries) (at_end : held.IsAt (world_as_read world) entries first) (follow : held.Follow stream first steps) where
    pub made_ticks : AreMadeTicks seed rooms (map shown steps)
    made_ticks = record {
      text = text;
      is_text = is_text;
      follow = subst (λ (s : State). Follow (uploads text rooms) s (map shown steps)) (start entries first stood at_end)
          (subst (λ (l : List Upload). Follow l (state_of first) (map shown steps)) made (follow_shown stream first steps follow));
    }

    pub lines_are : (out : List ℕ) → Appends (Some []) (Some out) (held.output first.world steps) → out ≡ output (made_world seed rooms) (map shown steps)
    lines_are out given =
        output_left stream first steps follow (Some []) (Some out) given ∙ ap (λ (s : State). output s.world (map shown steps)) (start entries first stood at_end)

    pub whole_is : (journal : List ℕ) → IsWholeJournal (world_as_read world) (entries ++ held.recorded_of steps) journal → IsWholeJournal (listed (made_world seed rooms)) (recorded_of (map shown steps)) journal
    whole_is journal whole =
        let none = none_stood entries stood in
        let entries_are : entries ++ held.recorded_of steps ≡ recorded_of (map shown steps) = ap (λ (l : List TickRecord). l ++ held.recorded_of steps) none ∙ sym (records_shown steps) in
        subst (λ (b : Stored). IsWholeJournal b (recorded_of (map shown steps)) journal) base (subst (λ (l : List TickRecord). IsWholeJournal (world_as_read world) l journal) entries_are whole)

    pub used_up : (ticks index : ℕ) → length steps < ticks → HasRunOut (held.last_of first steps).world index → UsesUp seed rooms ticks index
    used_up ticks index fewer is =
        let last = sym (ap (λ (s : State). s.world) (last_shown first steps)) in
        let here = subst (λ (w : World). IsExhausted w index) last (exhausted_shown (held.last_of first steps).world index is) in
        record {
          steps = map shown steps;
          made = made_ticks;
          fewer = subst (λ (n : ℕ). n < ticks) (sym (many_shown steps)) fewer;
          exhausted = subst (λ (s : State). IsExhausted (last_of s (map shown steps)).world index) (start entries first stood at_end) here;
        }

  pub demonstrated : (ticks : ℕ) (steps : List held.Step) (lines journal line shown_text : List ℕ) → length steps ≡ ticks → held.Leaves (Some []) (Some journal) (Some []) (Some lines) stream world steps
      → IsLastLine line lines → shown_text ≡ line ++ codes "journal " ++ decimal (length journal) ++ codes "\n" → IsDemonstrated seed rooms ticks shown_text
  demonstrated ticks steps lines journal line shown_text count leaves last text_is =
      let p = leaves.prints in
      record {
        steps = map shown steps;
        made = made_ticks steps p.entries p.first p.stood p.at_end p.follow;
        count = many_shown steps ∙ count;
        line = line;
        last = subst (IsLastLine line) (lines_are steps p.entries p.first p.stood p.at_end p.follow lines p.output_is) last;
        journal = journal;
        whole = whole_is steps p.entries p.first p.stood p.at_end p.follow journal leaves.journal_is;
        text_is = text_is;
      }

  pub exhausted : (ticks index : ℕ) (steps : List held.Step) (disk sink : List ℕ) (disk_new sink_new : Option (List ℕ)) → disk ≡ [] → sink ≡ [] → length steps < ticks
      → (leaves : held.Leaves (Some disk) disk_new (Some sink) sink_new stream world steps) → HasRunOut (held.last_of leaves.prints.first steps).world index → UsesUp seed rooms ticks index
  exhausted ticks index steps disk sink disk_new sink_new no_disk no_sink fewer leaves is =
      let p = leaves.prints in
      used_up steps p.entries p.first (subst (λ (d : List ℕ). Stood (Some d) (world_as_read world) p.entries) no_disk p.stood) p.at_end p.follow ticks index fewer is
