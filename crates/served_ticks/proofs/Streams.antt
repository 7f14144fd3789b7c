-- Streams of uploads for one tick.
use Rattle.std.proofs.Common.{◌≡◌, ℕ, ◌+◌, ◌<◌, ◌≤◌, List, [], ◌∷◌, ◌++◌, length, get_or, take, sym, ap, ◌∙◌, append_assoc, arith}
use Rattle.std.specs.Prelude.{Result, Ok, Err, OnOk, if◌then◌else◌}
use Rattle.std.specs.Result.{is_ok}
use Rattle.std.specs.List.{AllByRecursion}
use Rattle.std.proofs.lemmas.List.{append-nil, take_more}
use Rattle.byteorder.specs.Endian.{little_bytes}
use Rattle.upload_stream.specs.Streams.{HasEntryForm, NeverFall, Upload, UploadList, entry_bytes, stream_bytes}
use Rattle.world_hub.specs.declared.queue.Upload.{Upload as Sent}
use Rattle.served_ticks.specs.Given.{sent, sent_at}

pub bytes_more : (tick : ℕ) (uploads : List Sent) (upload : Sent) → stream_bytes (sent_at tick uploads) ++ entry_bytes (sent tick upload) ≡ stream_bytes (sent_at tick (uploads ++ upload ∷ []))
bytes_more tick [] upload = sym (append-nil (entry_bytes (sent tick upload)))
bytes_more tick (first ∷ uploads) upload =
    append_assoc (entry_bytes (sent tick first)) (stream_bytes (sent_at tick uploads)) (entry_bytes (sent tick upload))
    ∙ ap (λ (l : List ℕ). entry_bytes (sent tick first) ++ l) (bytes_more tick uploads upload)

pub forms_more : (tick : ℕ) (uploads : List Sent) (upload : Sent) → AllByRecursion HasEntryForm (sent_at tick uploads) → HasEntryForm (sent tick upload) → AllByRecursion HasEntryForm (sent_at tick (uploads ++ upload ∷ []))
forms_more tick [] upload all form = (form, tt)
forms_more tick (first ∷ uploads) upload all form = (all.0, forms_more tick uploads upload all.1 form)

none_before : (tick : ℕ) (uploads : List Sent) → AllByRecursion (λ (other : Upload). tick ≤ other.tick) (sent_at tick uploads)
none_before tick [] = tt
none_before tick (upload ∷ uploads) = (omega arith, none_before tick uploads)

never_fall : (tick : ℕ) (uploads : List Sent) → NeverFall (sent_at tick uploads)
never_fall tick [] = tt
never_fall tick (upload ∷ uploads) = (none_before tick uploads, never_fall tick uploads)

pub stream_is : (tick : ℕ) (uploads : List Sent) (bytes : List ℕ) → bytes ≡ stream_bytes (sent_at tick uploads) → AllByRecursion HasEntryForm (sent_at tick uploads) → UploadList bytes (sent_at tick uploads)
stream_is tick uploads bytes spells forms = record { entries = record { forms = forms; order = never_fall tick uploads }; spells = spells }

pub taken_more : (uploads : List Sent) (i : ℕ) (upload : Sent) → i < length uploads → upload ≡ get_or uploads i upload → take i uploads ++ upload ∷ [] ≡ take (i + 1) uploads
taken_more uploads i upload inside is = ap (λ (u : Sent). take i uploads ++ u ∷ []) is ∙ sym (take_more uploads i upload inside)

-- ---- one entry

regroup : (o x y z w : List ℕ) → (((o ++ x) ++ y) ++ z) ++ w ≡ o ++ (((x ++ y) ++ z) ++ w)
regroup o x y z w = simp append_assoc

pub entry_written : (upload : Upload) (old a b c d : List ℕ) → a ≡ old ++ little_bytes 8 upload.tick → b ≡ a ++ little_bytes 4 upload.player → c ≡ b ++ little_bytes 4 (length upload.bytes) → d ≡ c ++ upload.bytes → d ≡ old ++ entry_bytes upload
unfolding entry_bytes
entry_written upload old a b c d p q r s =
    s ∙ (ap (λ (l : List ℕ). l ++ upload.bytes) (r ∙ ap (λ (l : List ℕ). l ++ little_bytes 4 (length upload.bytes)) (q ∙ ap (λ (l : List ℕ). l ++ little_bytes 4 upload.player) p))
    ∙ regroup old (little_bytes 8 upload.tick) (little_bytes 4 upload.player) (little_bytes 4 (length upload.bytes)) upload.bytes)

pub if_ok : {T E : Type 0} (r : Result T E) (now whole part : List ℕ) → now ≡ (if is_ok r then whole else part) → OnOk r (now ≡ whole)
if_ok (Ok x) now whole part same = same
if_ok (Err e) now whole part same = tt
