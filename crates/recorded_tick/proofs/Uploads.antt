-- The uploads of a tick have the form of what is recorded, and those that are accepted are rightly so.
use Rattle.std.proofs.Common.{◌≡◌, ℕ, ◌≤◌, Bool, nat_le, List, [], ◌∷◌, length, Option, Some, None, inl, inr, sym, ap, subst, ◌∙◌, arith}
use Rattle.std.specs.Prelude.{if◌then◌else◌}
use Rattle.std.specs.List.{AllByRecursion}
use Rattle.std.proofs.lemmas.Bool.{cases_Bool, leb-true, le-leb}
use Rattle.intent_book.specs.declared.refusal.Refusal.{Refusal}
use Rattle.intent_book.specs.declared.refusal.Refusal.TheVariants.{UnknownPlayer, WrongToken, TooLarge, Malformed, FloatRefused, Invalid, UnknownImport, ImportKind, NoLoop, Segment, Memory}
use Rattle.object_store.specs.Stored.{Stored}
use Rattle.player_run.specs.Admission.{IsAccepted}
use Rattle.world_rules.specs.World.{World, world_of}
use Rattle.upload_stream.specs.Streams.{Upload, module_bytes_bound}
use Rattle.hosted_tick.specs.Next.{AreJudged, IsResult, Modules, entry_of, modules_after, result_number}
use Rattle.hosted_tick.proofs.Accounts.{get_account}
use Rattle.record_follows.specs.Follows.{IsAdmitted}
use Rattle.tick_journal.specs.BaseForms.{world_as_read}
use Rattle.tick_journal.specs.Numbers.{UploadFits}
use Rattle.tick_journal.specs.TickForms.{HasUploadForm, IsLasting, most_kept}
use Rattle.tick_journal.specs.declared.entries.UploadEntry.{UploadEntry}

-- ---- all uploads

-- What holds of the record of each result holds of all records.
pub uploads_each : (world : World) (P : UploadEntry → Type 0) → ((upload : Upload) (result : Option Refusal) → IsResult world upload result → P (entry_of upload result))
    → (uploads : List Upload) (modules after : Modules) (records : List UploadEntry) → AreJudged world modules uploads after records → AllByRecursion P records
uploads_each world P holds [] modules after records so = subst (AllByRecursion P) (sym so.1) tt
uploads_each world P holds (upload ∷ later) modules after records so =
    subst (AllByRecursion P) (sym so.3) (holds upload so.0 so.2, uploads_each world P holds later (modules_after modules upload so.0) after so.1 so.4)

-- ---- their form

lasting : (world : World) (upload : Upload) (result : Option Refusal) → IsResult world upload result → IsLasting (result_number result)
lasting world upload None is = record { most = omega arith; token = λ same. omega arith }
lasting world upload (Some UnknownPlayer) is = record { most = omega arith; token = λ same. omega arith }
lasting world upload (Some WrongToken) is = absurd is.1
lasting world upload (Some TooLarge) is = record { most = omega arith; token = λ same. omega arith }
lasting world upload (Some Malformed) is = record { most = omega arith; token = λ same. omega arith }
lasting world upload (Some FloatRefused) is = record { most = omega arith; token = λ same. omega arith }
lasting world upload (Some Invalid) is = record { most = omega arith; token = λ same. omega arith }
lasting world upload (Some UnknownImport) is = record { most = omega arith; token = λ same. omega arith }
lasting world upload (Some ImportKind) is = record { most = omega arith; token = λ same. omega arith }
lasting world upload (Some NoLoop) is = record { most = omega arith; token = λ same. omega arith }
lasting world upload (Some Segment) is = record { most = omega arith; token = λ same. omega arith }
lasting world upload (Some Memory) is = absurd is.1

abbrev kept_bytes : List ℕ → Bool → List ℕ
kept_bytes bytes small = if small then bytes else []

kept_few : (bytes : List ℕ) → length (kept_bytes bytes (nat_le (length bytes) module_bytes_bound)) ≤ most_kept
kept_few bytes = elim (cases_Bool (nat_le (length bytes) module_bytes_bound)) [
  | inl small ↦ subst (λ (b : Bool). length (kept_bytes bytes b) ≤ most_kept) (sym small) (let few = leb-true (length bytes) module_bytes_bound small in omega (arith, few))
  | inr large ↦ subst (λ (b : Bool). length (kept_bytes bytes b) ≤ most_kept) (sym large) (omega arith)
]

-- What is recorded of an upload, but for its numbers.
pub record IsJudged (entry : UploadEntry) : Type 0 where
  pub result : IsLasting entry.result_number
  pub most : length entry.bytes ≤ most_kept

pub entries_judged : (world : World) (uploads : List Upload) (modules after : Modules) (records : List UploadEntry) → AreJudged world modules uploads after records → AllByRecursion IsJudged records
entries_judged world = uploads_each world IsJudged (λ upload result is. record { result = lasting world upload result is; most = kept_few upload.bytes })

pub upload_form : (entry : UploadEntry) → IsJudged entry → UploadFits entry → HasUploadForm entry
upload_form entry is fit = record { result = is.result; most = is.most; bytes = fit.bytes; player = fit.player }

-- ---- those that are accepted

refused : (refusal : Refusal) → result_number (Some refusal) ≡ 0 → ⊥
refused UnknownPlayer is = omega arith
refused WrongToken is = omega arith
refused TooLarge is = omega arith
refused Malformed is = omega arith
refused FloatRefused is = omega arith
refused Invalid is = omega arith
refused UnknownImport is = omega arith
refused ImportKind is = omega arith
refused NoLoop is = omega arith
refused Segment is = omega arith
refused Memory is = omega arith

kept_whole : (bytes : List ℕ) → IsAccepted bytes → kept_bytes bytes (nat_le (length bytes) module_bytes_bound) ≡ bytes
kept_whole bytes accepted =
    let few = accepted.1.spells.0.1 in
    ap (kept_bytes bytes) (le-leb (length bytes) module_bytes_bound (omega (arith, few)))

admitted : (stored : Stored) (upload : Upload) (result : Option Refusal) → IsResult (world_of stored) upload result → IsAdmitted (world_as_read stored) (entry_of upload result)
admitted stored upload None is = λ zero. (
  (is.0.0, sym (get_account stored upload.player) ∙ is.0.1),
  subst IsAccepted (sym (kept_whole upload.bytes is.1)) is.1,
)
admitted stored upload (Some refusal) is = λ zero. absurd (refused refusal zero)

pub entries_admitted : (stored : Stored) (uploads : List Upload) (modules after : Modules) (records : List UploadEntry) → AreJudged (world_of stored) modules uploads after records
    → AllByRecursion (IsAdmitted (world_as_read stored)) records
entries_admitted stored = uploads_each (world_of stored) (IsAdmitted (world_as_read stored)) (admitted stored)
