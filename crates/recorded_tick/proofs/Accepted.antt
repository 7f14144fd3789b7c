-- The modules of a journal were accepted.
use Rattle.std.proofs.Common.{◌≡◌, ℕ, ◌==◌, if◌then◌else◌, Bool, true, false, cond, List, [], ◌∷◌, Option, Some, None, refl, sym, ap, subst, ◌∙◌}
use Rattle.std.specs.List.{AllByRecursion}
use Rattle.std.specs.Ordering.{nat_cmp, eq_by_cmp}
use Rattle.std.specs.Cmp.{nat_cmp_total}
use Rattle.std.specs.FinMap.{empty, get, get-empty, get-insert, insert}
use Rattle.std.proofs.lemmas.Bool.{eqb-true}
use Rattle.object_store.specs.Stored.{Stored}
use Rattle.player_run.specs.Admission.{IsAccepted}
use Rattle.hosted_tick.specs.Hosting.{AreAccepted}
use Rattle.record_follows.specs.Courses.{AreFollowing, Modules, modules_after, modules_with}
use Rattle.record_follows.specs.Follows.{IsAdmitted, after}
use Rattle.tick_journal.specs.declared.entries.UploadEntry.{UploadEntry}
use Rattle.tick_journal.specs.declared.tick_record.TickRecord.{TickRecord}

-- with one more
put_accepted : (modules : Modules) (player : ℕ) (bytes : List ℕ) → AreAccepted modules → IsAccepted bytes → AreAccepted (insert modules player bytes)
put_accepted modules player bytes are own other found is =
    elim (eq_by_cmp nat_cmp other player) as (λ b. cond b (Some bytes) (get modules other) ≡ Some found → IsAccepted found) [
      | true ↦ λ got. let same : bytes ≡ found = cc in subst IsAccepted same own
      | false ↦ λ got. are other found got
    ] (sym (get-insert nat_cmp_total modules player bytes other) ∙ is)

with_accepted : (before : Stored) (uploads : List UploadEntry) (modules : Modules) → AllByRecursion (IsAdmitted before) uploads → AreAccepted modules → AreAccepted (modules_with modules uploads)
with_accepted before [] modules admitted are = are
with_accepted before (entry ∷ later) modules admitted are =
    with_accepted before later (if entry.result_number == 0 then insert modules entry.player entry.bytes else modules) admitted.1
    (elim (entry.result_number == 0) as (λ b. (entry.result_number == 0) ≡ b → AreAccepted (if b then insert modules entry.player entry.bytes else modules)) [
      | true ↦ λ zero. put_accepted modules entry.player entry.bytes are (admitted.0 (eqb-true entry.result_number 0 zero)).1
      | false ↦ λ other. are
    ] refl)

after_accepted : (before : Stored) (entries : List TickRecord) (modules : Modules) → AreFollowing before entries → AreAccepted modules → AreAccepted (modules_after modules entries)
after_accepted before [] modules following are = are
after_accepted before (entry ∷ later) modules following are = after_accepted (after before entry) later (modules_with modules entry.uploads) following.1 (with_accepted before entry.uploads modules following.0.uploads are)

none_accepted : AreAccepted empty
none_accepted player bytes found = (let none : get (empty {K = ℕ} {X = List ℕ} {R = nat_cmp}) player ≡ None = get-empty {X = List ℕ} nat_cmp player in absurd (cc))

pub modules_accepted : (base : Stored) (entries : List TickRecord) → AreFollowing base entries → AreAccepted (modules_after empty entries)
modules_accepted base entries following = after_accepted base entries empty following none_accepted
