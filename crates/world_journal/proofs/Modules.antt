-- The modules of players.
use Rattle.std.proofs.Common.{◌≡◌, ◌≢◌, ℕ, cond, eqb, List, [], ◌∷◌, ◌++◌, Some, refl, sym, ◌∙◌, ap, eq-eqb, append-nil, append_assoc}
use Rattle.std.specs.BTreeMap.{is_at}
use Rattle.std.specs.Cmp.{nat_cmp_total, eq_by_cmp_equiv}
use Rattle.std.proofs.lemmas.Bool.{ne_eqb}
use Rattle.std.specs.FinMap.{empty, find, from_entries, insert, get-insert, get-from_entries, same_map, nat_cmp-IsAntisymmetric}
use Rattle.std.specs.Map.{lookup}
use Rattle.std.specs.Ordering.{eq_by_cmp, nat_cmp}
use Rattle.record_follows.specs.Courses.{Modules, modules_after, modules_with}
use Rattle.tick_journal.specs.declared.entries.UploadEntry.{UploadEntry}
use Rattle.tick_journal.specs.declared.tick_record.TickRecord.{TickRecord}
use Rattle.world_journal.specs.inner.Uploads.{uploads_in}

find_kept : (player : ℕ) (kept : List (ℕ × List ℕ)) → find nat_cmp player kept ≡ lookup (is_at (nat_cmp player)) kept
find_kept player [] = refl
find_kept player (e ∷ kept) = ap (cond (eq_by_cmp nat_cmp player e.0) (Some e.1)) (find_kept player kept)

-- where a module was put in at a player's key
pub modules_put : (kept after : List (ℕ × List ℕ)) (player : ℕ) (bytes : List ℕ) → ((q : ℕ) → lookup (is_at (nat_cmp q)) after ≡ cond (is_at (nat_cmp player) q) (Some bytes) (lookup (is_at (nat_cmp q)) kept))
    → from_entries {R = nat_cmp} after ≡ insert (from_entries kept) player bytes
modules_put kept after player bytes put =
    same_map nat_cmp_total nat_cmp-IsAntisymmetric (from_entries after) (insert (from_entries kept) player bytes) (λ q.
    get-from_entries nat_cmp_total after q ∙ find_kept q after ∙ put q
    ∙ ap (λ b. cond b (Some bytes) (lookup (is_at (nat_cmp q)) kept)) ((eq_by_cmp_equiv nat_cmp_total).symm player q)
    ∙ sym (get-insert nat_cmp_total (from_entries kept) player bytes q ∙ ap (cond (eq_by_cmp nat_cmp q player) (Some bytes)) (get-from_entries nat_cmp_total kept q ∙ find_kept q kept)))

-- ---- uploads in turn

pub modules_push : (modules : Modules) (uploads : List UploadEntry) (upload : UploadEntry) → modules_with modules (uploads ++ upload ∷ []) ≡ cond (eqb upload.result_number 0) (insert (modules_with modules uploads) upload.player upload.bytes) (modules_with modules uploads)
modules_push modules [] upload = refl
modules_push modules (u ∷ uploads) upload = modules_push (cond (eqb u.result_number 0) (insert modules u.player u.bytes) modules) uploads upload

pub modules_kept : (kept after : List (ℕ × List ℕ)) (uploads : List UploadEntry) (upload : UploadEntry) → from_entries kept ≡ modules_with empty uploads → upload.result_number ≡ 0 → from_entries {R = nat_cmp} after ≡ insert (from_entries kept) upload.player upload.bytes → from_entries after ≡ modules_with empty (uploads ++ upload ∷ [])
modules_kept kept after uploads upload so accepted put =
    put ∙ ap (λ (m : Modules). insert m upload.player upload.bytes) so ∙ sym (modules_push empty uploads upload ∙ ap (λ b. cond b (insert (modules_with empty uploads) upload.player upload.bytes) (modules_with empty uploads)) (eq-eqb upload.result_number 0 accepted))

pub modules_stay : (kept : List (ℕ × List ℕ)) (uploads : List UploadEntry) (upload : UploadEntry) → from_entries kept ≡ modules_with empty uploads → upload.result_number ≢ 0 → from_entries kept ≡ modules_with empty (uploads ++ upload ∷ [])
modules_stay kept uploads upload so refused =
    so ∙ sym (modules_push empty uploads upload ∙ ap (λ b. cond b (insert (modules_with empty uploads) upload.player upload.bytes) (modules_with empty uploads)) (ne_eqb upload.result_number 0 refused))

pub modules_append : (modules : Modules) (uploads more : List UploadEntry) → modules_with modules (uploads ++ more) ≡ modules_with (modules_with modules uploads) more
modules_append modules [] more = refl
modules_append modules (u ∷ uploads) more = modules_append (cond (eqb u.result_number 0) (insert modules u.player u.bytes) modules) uploads more

-- the modules after records are those after their uploads
pub modules_of_entries : (modules : Modules) (entries : List TickRecord) → modules_with modules (uploads_in entries) ≡ modules_after modules entries
modules_of_entries modules [] = refl
modules_of_entries modules (entry ∷ entries) = modules_append modules entry.uploads (uploads_in entries) ∙ modules_of_entries (modules_with modules entry.uploads) entries

pub uploads_more : (entries : List TickRecord) (entry : TickRecord) → uploads_in (entries ++ entry ∷ []) ≡ uploads_in entries ++ entry.uploads
uploads_more [] entry = append-nil entry.uploads
uploads_more (e ∷ entries) entry = ap (λ (l : List UploadEntry). e.uploads ++ l) (uploads_more entries entry) ∙ sym (append_assoc e.uploads (uploads_in entries) entry.uploads)
