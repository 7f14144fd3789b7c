-- The uploads that ticks took: of which tick they are, and what is recorded of them.
use Rattle.std.proofs.Common.{◌≡◌, ◌==◌, inl, inr, ℕ, ◌+◌, ◌<◌, ◌≤◌, eqb, true, false, List, [], ◌∷◌, ◌++◌, length, map, nat_le, refl, sym, ap, subst, ◌∙◌, append_assoc, eq-eqb, arith}
use Rattle.std.specs.List.{AllByRecursion, flat_map}
use Rattle.std.proofs.lemmas.Bool.{ne_eqb}
use Rattle.std.proofs.lemmas.List.{append-nil, map-append}
use Rattle.std.proofs.lemmas.List.Concat.{flat_map-append}
use Rattle.hosted_tick.specs.Next.{AreJudged, Modules}
use Rattle.tick_journal.specs.declared.entries.UploadEntry.{UploadEntry}
use Rattle.tick_journal.specs.declared.tick_record.TickRecord.{TickRecord}
use Rattle.upload_stream.specs.Streams.{Upload, UploadList, uploads_at}
use Rattle.world_hub.specs.Hub.{ticker_sight}
use Rattle.world_hub.specs.declared.hub.Ticker.{Ticker}
use Rattle.world_hub.specs.declared.queue.Hand.{Hand}
use Rattle.world_hub.specs.declared.queue.Marked.{Marked}
use Rattle.world_hub.specs.declared.queue.Upload.{Upload as Sent}
use Rattle.world_hub.specs.Queue.{TookUpTo, upload_of}
use Rattle.world_rules.specs.World.{World}
use Rattle.served_ticks.specs.Given.{kept_sender, recorded_sender, sender, sent_at, told_sender}
use Rattle.served_ticks.specs.inner.OneTick.{AreOf, IsTaken}
use Rattle.world_run.specs.declared.kept.Kept.{Kept}

-- ---- what was taken

pub are_of : (tick : ℕ) (uploads : List Sent) → AreOf tick (sent_at tick uploads)
are_of tick [] = tt
are_of tick (upload ∷ uploads) = (refl, are_of tick uploads)

senders : (tick : ℕ) (marked : List Marked) → map (λ (m : Marked). sender m.upload) marked ≡ map told_sender (sent_at tick (map upload_of marked))
senders tick [] = refl
senders tick (m ∷ marked) = ap (λ (l : List (ℕ × List ℕ)). sender m.upload ∷ l) (senders tick marked)

senders_of : (tick : ℕ) (marked : List Marked) (uploads : List Sent) → map upload_of marked ≡ uploads → map (λ (m : Marked). sender m.upload) marked ≡ map told_sender (sent_at tick uploads)
senders_of tick marked uploads same = senders tick marked ∙ ap (λ (l : List Sent). map told_sender (sent_at tick l)) same

at_most : (n : ℕ) → n ≤ 64 → Rattle.std.proofs.Common.◌⊎◌ (n ≡ 64) (n < 64)
at_most n few = grind arith

took : (v w : Hand) (uploads : List Sent) (up_to : TookUpTo v uploads w) → w.taken ≡ v.taken ++ up_to.0
took v w uploads up_to = elim (at_most (length uploads) up_to.2) [
  | inl all ↦ ap (λ (h : Hand). h.taken) (up_to.3 all)
  | inr fewer ↦ ap (λ (h : Hand). h.taken) (up_to.4 fewer)
]

pub taken_at : (kept : Kept) (v w : Hand) (uploads : List Sent) → TookUpTo v uploads w → IsTaken kept (sent_at kept.hosted.world.tick uploads) v w
taken_at kept v w uploads up_to = record {
  are = are_of kept.hosted.world.tick uploads;
  marked = up_to.0;
  taken = took v w uploads up_to;
  same = senders_of kept.hosted.world.tick up_to.0 uploads up_to.1;
}

-- A ticker's writer alone tells what was published.
pub sight_same : (a b : Ticker) → a.writer ≡ b.writer → ticker_sight a ≡ ticker_sight b
sight_same a b same = ap (λ w. ticker_sight (record { seat = a.seat; writer = w })) same

-- What is read of the stream that was built is what was taken.
pub read_back : ((bytes : List ℕ) (one other : List Upload) → UploadList bytes one → UploadList bytes other → one ≡ other)
    → (bytes stream : List ℕ) (read : List Upload) (tick now : ℕ) (taken items : List Sent) → UploadList bytes read → bytes ≡ stream → UploadList stream (sent_at tick taken) → taken ≡ items → tick ≡ now → read ≡ sent_at now items
read_back once bytes stream read tick now taken items is same built whole there =
    once bytes read (sent_at tick taken) is (subst (λ (b : List ℕ). UploadList b (sent_at tick taken)) (sym same) built)
    ∙ (ap (sent_at tick) whole ∙ ap (λ (n : ℕ). sent_at n items) there)

-- ---- the uploads of a tick

-- Earlier ones are not of it.
none_early : (tick : ℕ) (early : List Upload) → AllByRecursion (λ (u : Upload). u.tick < tick) early → uploads_at tick early ≡ []
none_early tick [] all = refl
none_early tick (u ∷ early) all =
    let here = all.0 in
    let other : eqb u.tick tick ≡ false = ne_eqb u.tick tick (λ same. omega arith) in
    rw other (none_early tick early all.1)

all_at : (tick : ℕ) (given : List Upload) → AreOf tick given → uploads_at tick given ≡ given
all_at tick [] all = refl
all_at tick (u ∷ given) all =
    let it : eqb u.tick tick ≡ true = eq-eqb u.tick tick all.0 in
    rw it (ap (λ (l : List Upload). u ∷ l) (all_at tick given all.1))

none_later : (tick other : ℕ) (given : List Upload) → other < tick → AreOf tick given → uploads_at other given ≡ []
none_later tick other [] before all = refl
none_later tick other (u ∷ given) before all =
    let here = all.0 in
    let it : eqb u.tick other ≡ false = ne_eqb u.tick other (λ same. omega arith) in
    rw it (none_later tick other given before all.1)

at_append : (tick : ℕ) (one other : List Upload) → uploads_at tick (one ++ other) ≡ uploads_at tick one ++ uploads_at tick other
at_append tick [] other = refl
at_append tick (u ∷ one) other =
    elim (eqb u.tick tick) as (λ b. Rattle.std.proofs.Common.cond b (u ∷ uploads_at tick (one ++ other)) (uploads_at tick (one ++ other)) ≡ Rattle.std.proofs.Common.cond b (u ∷ uploads_at tick one) (uploads_at tick one) ++ uploads_at tick other) [
      | true ↦ ap (λ (l : List Upload). u ∷ l) (at_append tick one other)
      | false ↦ at_append tick one other
    ]

pub given_at : (tick : ℕ) (early given : List Upload) → AllByRecursion (λ (u : Upload). u.tick < tick) early → AreOf tick given → given ≡ uploads_at tick (early ++ given)
given_at tick early given before are = sym (at_append tick early given ∙ (ap (λ (l : List Upload). l ++ uploads_at tick given) (none_early tick early before) ∙ all_at tick given are))

pub still_at : (tick other : ℕ) (stream given : List Upload) → other < tick → AreOf tick given → uploads_at other stream ≡ uploads_at other (stream ++ given)
still_at tick other stream given before are =
    sym (at_append other stream given ∙ (ap (λ (l : List Upload). uploads_at other stream ++ l) (none_later tick other given before are) ∙ append-nil (uploads_at other stream)))

pub early_more : (tick next : ℕ) (early given : List Upload) → tick < next → AllByRecursion (λ (u : Upload). u.tick < tick) early → AreOf tick given → AllByRecursion (λ (u : Upload). u.tick < next) (early ++ given)
early_more tick next [] [] later all are = tt
early_more tick next [] (u ∷ given) later all are = let here = are.0 in (omega arith, early_more tick next [] given later tt are.1)
early_more tick next (u ∷ early) given later all are = let here = all.0 in (omega arith, early_more tick next early given later all.1 are)

-- ---- what is recorded of them

pub judged_senders : (world : World) (modules : Modules) (uploads : List Upload) (after : Modules) (records : List UploadEntry) → AreJudged world modules uploads after records → map recorded_sender records ≡ map kept_sender uploads
judged_senders world modules [] after records judged = ap (map recorded_sender) judged.1
judged_senders world modules (upload ∷ later) after records judged =
    ap (map recorded_sender) judged.3 ∙ ap (λ (l : List (ℕ × List ℕ)). kept_sender upload ∷ l) (judged_senders world (Rattle.hosted_tick.specs.Next.modules_after modules upload judged.0) later after judged.1 judged.4)

abbrev pub uploads_in : List TickRecord → List UploadEntry
uploads_in entries = flat_map (λ (entry : TickRecord). entry.uploads) entries

pub uploads_more : (entries : List TickRecord) (entry : TickRecord) → uploads_in (entries ++ entry ∷ []) ≡ uploads_in entries ++ entry.uploads
uploads_more entries entry = flat_map-append (λ (e : TickRecord). e.uploads) entries (entry ∷ []) ∙ ap (λ (l : List UploadEntry). uploads_in entries ++ l) (append-nil entry.uploads)

pub given_more : (entries : List TickRecord) (entry : TickRecord) (stream given : List Upload) → map recorded_sender (uploads_in entries) ≡ map kept_sender stream → map recorded_sender entry.uploads ≡ map kept_sender given
    → map recorded_sender (uploads_in (entries ++ entry ∷ [])) ≡ map kept_sender (stream ++ given)
given_more entries entry stream given so_far here =
    ap (map recorded_sender) (uploads_more entries entry) ∙ (map-append recorded_sender (uploads_in entries) entry.uploads
    ∙ (ap (λ (l : List (ℕ × List ℕ)). l ++ map recorded_sender entry.uploads) so_far ∙ (ap (λ (l : List (ℕ × List ℕ)). map kept_sender stream ++ l) here ∙ sym (map-append kept_sender stream given))))
