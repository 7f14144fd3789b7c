-- The judgement of uploads, one after the other.
use Rattle.std.proofs.Common.{◌≡◌, ℕ, ◌+◌, List, [], ◌∷◌, ◌++◌, length, Option, Some, refl, sym, ap, subst, ◌∙◌, arith, append_assoc, length-append}
use Rattle.std.proofs.lemmas.List.{append-nil}
use Rattle.intent_book.specs.declared.refusal.Refusal.{Refusal}
use Rattle.intent_book.specs.declared.refusal.Refusal.TheVariants.{UnknownPlayer, WrongToken, TooLarge, Malformed, FloatRefused, Invalid, UnknownImport, ImportKind, NoLoop, Segment, Memory}
use Rattle.world_rules.specs.Rules.{IsPlayer}
use Rattle.world_rules.specs.World.{World}
use Rattle.upload_stream.specs.Streams.{Upload}
use Rattle.judged_uploads.specs.Judging.{judged, judged_entry}
use Rattle.player_run.specs.Admission.{IsRefused}
use Rattle.tick_journal.specs.declared.entries.UploadEntry.{UploadEntry}
use Rattle.hosted_tick.specs.Next.{AreJudged, IsResult, Modules, entry_of, modules_after, result_number}

-- a refusal of the bytes of a player's upload
pub refused : (world : World) (upload : Upload) (refusal : Refusal) → IsPlayer world upload.player → IsRefused upload.bytes refusal → IsResult world upload (Some refusal)
refused world upload UnknownPlayer is why = absurd why
refused world upload WrongToken is why = absurd why
refused world upload TooLarge is why = (is, why)
refused world upload Malformed is why = (is, why)
refused world upload FloatRefused is why = (is, why)
refused world upload Invalid is why = (is, why)
refused world upload UnknownImport is why = (is, why)
refused world upload ImportKind is why = (is, why)
refused world upload NoLoop is why = (is, why)
refused world upload Segment is why = (is, why)
refused world upload Memory is why = (is, why)

judged_push : (world : World) (modules : Modules) (uploads : List Upload) (after : Modules) (records : List UploadEntry) (upload : Upload) (judgement : Option Refusal)
    → AreJudged world modules uploads after records → IsResult world upload judgement
    → AreJudged world modules (uploads ++ upload ∷ []) (modules_after after upload judgement) (records ++ entry_of upload judgement ∷ [])
judged_push world modules [] after records upload judgement so is =
    (judgement, [], is, ap (λ (r : List UploadEntry). r ++ entry_of upload judgement ∷ []) so.1, (ap (λ (m : Modules). modules_after m upload judgement) so.0, refl))
judged_push world modules (first ∷ later) after records upload judgement so is = (
  so.0,
  so.1 ++ entry_of upload judgement ∷ [],
  so.2,
  ap (λ (r : List UploadEntry). r ++ entry_of upload judgement ∷ []) so.3,
  judged_push world (modules_after modules first so.0) later after so.1 upload judgement so.4 is,
)

-- ---- a walk over uploads

-- The uploads before those that are left are judged so, with as many results.
pub record HasJudged (world : World) (modules : Modules) (uploads left : List Upload) (after : Modules) (results : List ℕ) : Type 0 where
  pub done : List Upload
  pub parts : uploads ≡ done ++ left
  pub counted : length results ≡ length done
  pub judged : AreJudged world modules done after (judged done results)

pub none_judged : (world : World) (modules : Modules) (uploads : List Upload) → HasJudged world modules uploads uploads modules []
none_judged world modules uploads = record { done = []; parts = refl; counted = refl; judged = (refl, refl) }

judged_end : (uploads : List Upload) (results : List ℕ) (upload : Upload) (number : ℕ) → length results ≡ length uploads → judged (uploads ++ upload ∷ []) (results ++ number ∷ []) ≡ judged uploads results ++ judged_entry upload number ∷ []
judged_end [] [] upload number same = refl
judged_end [] (n ∷ results) upload number same = absurd (omega arith)
judged_end (u ∷ uploads) [] upload number same = absurd (omega arith)
judged_end (u ∷ uploads) (n ∷ results) upload number same = ap (λ (r : List UploadEntry). judged_entry u n ∷ r) (judged_end uploads results upload number (omega arith))

-- one more is judged
pub judged_more : (world : World) (modules : Modules) (uploads left : List Upload) (after next : Modules) (results : List ℕ) (upload : Upload) (later : List Upload) (number : ℕ)
    → HasJudged world modules uploads left after results → left ≡ upload ∷ later
    → (judgement : Option Refusal) × IsResult world upload judgement × (number ≡ result_number judgement) × (next ≡ modules_after after upload judgement)
    → HasJudged world modules uploads later next (results ++ number ∷ [])
judged_more world modules uploads left after next results upload later number so first one =
    let push = judged_push world modules so.done after (judged so.done results) upload one.0 so.judged one.1 in
    let entries : judged (so.done ++ upload ∷ []) (results ++ number ∷ []) ≡ judged so.done results ++ entry_of upload one.0 ∷ [] =
    judged_end so.done results upload number so.counted ∙ ap (λ (n : ℕ). judged so.done results ++ judged_entry upload n ∷ []) one.2 in
    record {
      done = so.done ++ upload ∷ [];
      parts = so.parts ∙ (ap (λ (z : List Upload). so.done ++ z) first ∙ sym (append_assoc so.done (upload ∷ []) later));
      counted = length-append results (number ∷ []) ∙ (ap (λ (n : ℕ). n + 1) so.counted ∙ sym (length-append so.done (upload ∷ [])));
      judged = rw (entries, one.3) push;
    }

-- all are judged
pub judged_all : (world : World) (modules : Modules) (uploads left : List Upload) (after : Modules) (results : List ℕ) → HasJudged world modules uploads left after results → left ≡ [] → (length results ≡ length uploads) × AreJudged world modules uploads after (judged uploads results)
judged_all world modules uploads left after results so none =
    let all : so.done ≡ uploads = sym (append-nil so.done) ∙ (ap (λ (z : List Upload). so.done ++ z) (sym none) ∙ sym so.parts) in
    subst (λ (z : List Upload). (length results ≡ length z) × AreJudged world modules z after (judged z results)) all (so.counted, so.judged)
