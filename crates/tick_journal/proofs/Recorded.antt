-- Uploads and runs at the front of the same bytes.
use Rattle.std.proofs.Common.{◌≡◌, ℕ, ◌<◌, ◌≤◌, ◌^◌, List, [], ◌∷◌, ◌++◌, length, sym, subst, ap, ◌∙◌, refl, arith, append_assoc, length-append}
use Rattle.std.specs.List.{AllByRecursion}
use Rattle.byte_fields.specs.Front.{Begins, BeginsNone}
use Rattle.byteorder.specs.Endian.{little_bytes}
use Rattle.intent_book.specs.declared.intent.Intent.{Intent}
use Rattle.intent_book.specs.declared.player_run.RunOutcome.{RunOutcome}
use Rattle.intent_book.specs.declared.player_run.RunOutcome.TheVariants.{Finished, Trapped, Spent}
use Rattle.world_bytes.specs.Forms.{SpellsIntent, intent_bytes}
use Rattle.world_bytes.specs.inner.Rows.{Leads, LeadsNone}
use Rattle.world_bytes.proofs.Intents.{intent_one}
use Rattle.world_bytes.proofs.Words.{behind_byte, behind_word, text_one, word_short}
use Rattle.tick_journal.specs.Contents.{outcome_bytes, run_bytes, upload_bytes}
use Rattle.tick_journal.specs.TickForms.{AreCanonicalOf, HasRunForm, HasUploadForm, IsOutcome}
use Rattle.tick_journal.specs.declared.entries.RunEntry.{RunEntry}
use Rattle.tick_journal.specs.declared.entries.UploadEntry.{UploadEntry}
use Rattle.tick_journal.specs.inner.Lists.{listed}
use Rattle.tick_journal.specs.inner.Reading.{HasModuleForm, IsIntentOf, before, module_bytes}
use Rattle.tick_journal.proofs.Canonical.{canonical_count, canonical_intents}
use Rattle.tick_journal.proofs.Listed.{listed_one}
use Rattle.tick_journal.proofs.ListsAhead.{IsOne}

-- ---- the bytes of a module

module_parts : (text rest : List ℕ) → module_bytes text ++ rest ≡ little_bytes 4 (length text) ++ (text ++ rest)
unfolding module_bytes
module_parts text rest = append_assoc (little_bytes 4 (length text)) text rest

pub module_short : (text bytes rest : List ℕ) → length bytes < 4 → bytes ≡ module_bytes text ++ rest → ⊥
module_short text bytes rest short e = word_short 4 (length text) bytes (text ++ rest) short (e ∙ module_parts text rest)

-- what is behind the length that was read
pub module_behind : (text : List ℕ) (count : ℕ) (bytes left rest : List ℕ) → count < 2 ^ 32 → HasModuleForm text → bytes ≡ little_bytes 4 count ++ left → bytes ≡ module_bytes text ++ rest → (count ≡ length text) × (left ≡ text ++ rest)
module_behind text count bytes left rest fits form e f =
    let most = form.most in
    behind_word 4 count (length text) bytes left (text ++ rest) fits (omega arith) e (f ∙ module_parts text rest)

pub module_behind_short : (text : List ℕ) (count : ℕ) (bytes left rest : List ℕ) → count < 2 ^ 32 → HasModuleForm text → bytes ≡ little_bytes 4 count ++ left → length left < count → bytes ≡ module_bytes text ++ rest → ⊥
module_behind_short text count bytes left rest fits form e short f =
    let one = module_behind text count bytes left rest fits form e f in
    omega (arith, one.0, ap length one.1, length-append text rest)

pub module_whole : (text : List ℕ) (count : ℕ) (bytes left part rest : List ℕ) → bytes ≡ little_bytes 4 count ++ left → left ≡ part ++ rest → length part ≡ count → text ≡ part → count ≤ 1048576 → AllByRecursion (λ byte. byte < 2 ^ 8) part → Leads HasModuleForm (before module_bytes) bytes text rest
module_whole text count bytes left part rest e f size same most fits =
    let counted : count ≡ length text = sym size ∙ sym (ap length same) in
    let whole : bytes ≡ little_bytes 4 (length text) ++ (text ++ rest) =
    e ∙ ap (λ (z : ℕ). little_bytes 4 z ++ left) counted ∙ ap (λ (z : List ℕ). little_bytes 4 (length text) ++ z) (f ∙ ap (λ (z : List ℕ). z ++ rest) (sym same)) in
    (record { most = omega arith; bytes = subst (λ (z : List ℕ). AllByRecursion (λ byte. byte < 2 ^ 8) z) (sym same) fits }, whole ∙ sym (module_parts text rest))

module_one : IsOne HasModuleForm module_bytes
module_one a b bytes r s p q e f =
    let most = p.most in
    let same = module_behind b (length a) bytes (a ++ r) s (omega arith) q (e ∙ module_parts a r) f in
    text_one a b r s same.0 same.1

-- ---- uploads

upload_parts : (entry : UploadEntry) (rest : List ℕ) → upload_bytes entry ++ rest ≡ little_bytes 4 entry.player ++ (entry.result_number ∷ (module_bytes entry.bytes ++ rest))
unfolding upload_bytes module_bytes
upload_parts entry rest = refl

pub upload_module : (entry : UploadEntry) → HasUploadForm entry → HasModuleForm entry.bytes
upload_module entry form = record { most = form.most; bytes = form.bytes }

pub upload_short : (entry : UploadEntry) (bytes rest : List ℕ) → length bytes < 4 → bytes ≡ upload_bytes entry ++ rest → ⊥
upload_short entry bytes rest short e = word_short 4 entry.player bytes _ short (e ∙ upload_parts entry rest)

-- what is behind the player that was read
pub upload_behind : (entry : UploadEntry) (player : ℕ) (bytes left rest : List ℕ) → player < 2 ^ 32 → HasUploadForm entry → bytes ≡ little_bytes 4 player ++ left → bytes ≡ upload_bytes entry ++ rest → (player ≡ entry.player) × (left ≡ entry.result_number ∷ (module_bytes entry.bytes ++ rest))
upload_behind entry player bytes left rest fits form e f =
    behind_word 4 player entry.player bytes left _ fits form.player e (f ∙ upload_parts entry rest)

-- what is behind the number of the result
pub upload_behind_result : (entry : UploadEntry) (player number : ℕ) (bytes left behind rest : List ℕ) → player < 2 ^ 32 → HasUploadForm entry → bytes ≡ little_bytes 4 player ++ left → left ≡ number ∷ behind → bytes ≡ upload_bytes entry ++ rest → (number ≡ entry.result_number) × (behind ≡ module_bytes entry.bytes ++ rest)
upload_behind_result entry player number bytes left behind rest fits form e f g =
    behind_byte number entry.result_number left behind _ f (upload_behind entry player bytes left rest fits form e g).1

pub upload_whole : (entry : UploadEntry) (bytes left behind rest : List ℕ) → bytes ≡ little_bytes 4 entry.player ++ left → left ≡ entry.result_number ∷ behind → behind ≡ module_bytes entry.bytes ++ rest → bytes ≡ upload_bytes entry ++ rest
upload_whole entry bytes left behind rest e f g =
    e ∙ ap (λ (z : List ℕ). little_bytes 4 entry.player ++ z) (f ∙ ap (λ (z : List ℕ). entry.result_number ∷ z) g) ∙ sym (upload_parts entry rest)

upload_from : ℕ → ℕ → List ℕ → UploadEntry
upload_from player number bytes = record { player = player; result_number = number; bytes = bytes }

upload_same : (a b : UploadEntry) → a.player ≡ b.player → a.result_number ≡ b.result_number → a.bytes ≡ b.bytes → a ≡ b
unfolding upload_from
upload_same a b e f g =
    let same : upload_from a.player a.result_number a.bytes ≡ upload_from b.player b.result_number b.bytes = cc in
    same

pub upload_one : IsOne HasUploadForm upload_bytes
upload_one a b bytes r s p q e f =
    let player = (upload_behind b a.player bytes _ s p.player q (e ∙ upload_parts a r) f).0 in
    let number = upload_behind_result b a.player a.result_number bytes _ _ s p.player q (e ∙ upload_parts a r) refl f in
    let text = module_one a.bytes b.bytes _ r s (upload_module a p) (upload_module b q) refl number.1 in
    (upload_same a b player number.0 text.0, text.1)

-- ---- outcomes

outcome_pair : (outcome : RunOutcome) → (number trap : ℕ) × (outcome_bytes outcome ≡ number ∷ trap ∷ [])
outcome_pair Finished = (0, 0, refl)
outcome_pair (Trapped trap) = (1, trap, refl)
outcome_pair Spent = (2, 0, refl)

outcome_same : (a b : RunOutcome) → outcome_bytes a ≡ outcome_bytes b → a ≡ b
outcome_same Finished Finished e = refl
outcome_same Finished (Trapped trap) e = absurd (cc)
outcome_same Finished Spent e = absurd (cc)
outcome_same (Trapped trap) Finished e = absurd (cc)
outcome_same (Trapped trap) (Trapped other) e = cc
outcome_same (Trapped trap) Spent e = absurd (cc)
outcome_same Spent Finished e = absurd (cc)
outcome_same Spent (Trapped trap) e = absurd (cc)
outcome_same Spent Spent e = refl

outcome_length : (outcome : RunOutcome) → length (outcome_bytes outcome) ≡ 2
outcome_length Finished = refl
outcome_length (Trapped trap) = refl
outcome_length Spent = refl

pub outcome_one : IsOne IsOutcome outcome_bytes
outcome_one a b bytes r s p q e f =
    let same = text_one (outcome_bytes a) (outcome_bytes b) r s (outcome_length a ∙ sym (outcome_length b)) (sym e ∙ f) in
    (outcome_same a b same.0, same.1)

pub outcome_short : (outcome : RunOutcome) (bytes rest : List ℕ) → length bytes < 2 → bytes ≡ outcome_bytes outcome ++ rest → ⊥
outcome_short outcome bytes rest short e =
    omega (arith, ap length e, length-append (outcome_bytes outcome) rest, outcome_length outcome)

-- two bytes that were read are those of the outcome
pub outcome_read : (outcome : RunOutcome) (number trap : ℕ) (bytes left behind rest : List ℕ) → bytes ≡ number ∷ left → left ≡ trap ∷ behind → bytes ≡ outcome_bytes outcome ++ rest → number ∷ trap ∷ [] ≡ outcome_bytes outcome
outcome_read outcome number trap bytes left behind rest e f g =
    let read : bytes ≡ (number ∷ trap ∷ []) ++ behind = e ∙ ap (λ (z : List ℕ). number ∷ z) f in
    (text_one (number ∷ trap ∷ []) (outcome_bytes outcome) behind rest (sym (outcome_length outcome)) (sym read ∙ g)).0

-- ---- runs

run_parts : (run : RunEntry) (rest : List ℕ) → run_bytes run ++ rest ≡ little_bytes 4 run.player ++ (outcome_bytes run.outcome ++ (little_bytes 8 run.used ++ (listed intent_bytes run.intents ++ rest)))
unfolding run_bytes
run_parts run rest = simp append_assoc

pub run_short : (run : RunEntry) (bytes rest : List ℕ) → length bytes < 4 → bytes ≡ run_bytes run ++ rest → ⊥
run_short run bytes rest short e = word_short 4 run.player bytes _ short (e ∙ run_parts run rest)

-- what is behind the player that was read
pub run_behind_player : (run : RunEntry) (player : ℕ) (bytes left rest : List ℕ) → player < 2 ^ 32 → HasRunForm run → bytes ≡ little_bytes 4 player ++ left → bytes ≡ run_bytes run ++ rest → (player ≡ run.player) × (left ≡ outcome_bytes run.outcome ++ (little_bytes 8 run.used ++ (listed intent_bytes run.intents ++ rest)))
run_behind_player run player bytes left rest fits form e f =
    behind_word 4 player run.player bytes left _ fits form.player e (f ∙ run_parts run rest)

-- what is behind the outcome
pub run_behind_outcome : (run : RunEntry) (player : ℕ) (outcome : RunOutcome) (bytes left behind rest : List ℕ) → player < 2 ^ 32 → IsOutcome outcome → HasRunForm run → bytes ≡ little_bytes 4 player ++ left → left ≡ outcome_bytes outcome ++ behind → bytes ≡ run_bytes run ++ rest → (outcome ≡ run.outcome) × (behind ≡ little_bytes 8 run.used ++ (listed intent_bytes run.intents ++ rest))
run_behind_outcome run player outcome bytes left behind rest fits is form e f g =
    let one = run_behind_player run player bytes left rest fits form e g in
    outcome_one outcome run.outcome left behind _ is form.outcome f one.1

-- what is behind the instructions
pub run_behind_used : (run : RunEntry) (player : ℕ) (outcome : RunOutcome) (used : ℕ) (bytes left behind last rest : List ℕ) → player < 2 ^ 32 → IsOutcome outcome → used < 2 ^ 64 → HasRunForm run → bytes ≡ little_bytes 4 player ++ left → left ≡ outcome_bytes outcome ++ behind → behind ≡ little_bytes 8 used ++ last → bytes ≡ run_bytes run ++ rest → (used ≡ run.used) × (last ≡ listed intent_bytes run.intents ++ rest)
run_behind_used run player outcome used bytes left behind last rest fits is wide form e f g h =
    let two = run_behind_outcome run player outcome bytes left behind rest fits is form e f h in
    behind_word 8 used run.used behind last _ wide form.used g two.1

pub run_whole : (run : RunEntry) (bytes left behind last rest : List ℕ) → bytes ≡ little_bytes 4 run.player ++ left → left ≡ outcome_bytes run.outcome ++ behind → behind ≡ little_bytes 8 run.used ++ last → last ≡ listed intent_bytes run.intents ++ rest → bytes ≡ run_bytes run ++ rest
run_whole run bytes left behind last rest e f g h =
    e ∙ ap (λ (z : List ℕ). little_bytes 4 run.player ++ z) (f ∙ ap (λ (z : List ℕ). outcome_bytes run.outcome ++ z) (g ∙ ap (λ (z : List ℕ). little_bytes 8 run.used ++ z) h)) ∙ sym (run_parts run rest)

pub intent_read : (player : ℕ) (intent : Intent) (bytes rest : List ℕ) → Begins (SpellsIntent player) bytes intent rest → Leads (IsIntentOf player) (before intent_bytes) bytes intent rest
intent_read player intent bytes rest (text, (form, own, spelled), e) =
    (record { form = form; own = own }, e ∙ ap (λ (z : List ℕ). z ++ rest) spelled)

pub no_intent_read : (player : ℕ) (bytes : List ℕ) → BeginsNone (SpellsIntent player) bytes → LeadsNone (IsIntentOf player) (before intent_bytes) bytes
no_intent_read player bytes none = λ intent rest has e. none intent rest (intent_bytes intent, (has.form, has.own, refl), e)

pub intent_is_one : (player : ℕ) → IsOne (IsIntentOf player) intent_bytes
intent_is_one player a b bytes r s p q e f =
    intent_one player bytes a b r s (intent_bytes a, (p.form, p.own, refl), e) (intent_bytes b, (q.form, q.own, refl), f)

run_from : ℕ → RunOutcome → ℕ → List Intent → RunEntry
run_from player outcome used intents = record { player = player; outcome = outcome; used = used; intents = intents }

run_same : (a b : RunEntry) → a.player ≡ b.player → a.outcome ≡ b.outcome → a.used ≡ b.used → a.intents ≡ b.intents → a ≡ b
unfolding run_from
run_same a b e f g h =
    let same : run_from a.player a.outcome a.used a.intents ≡ run_from b.player b.outcome b.used b.intents = cc in
    same

pub run_one : IsOne HasRunForm run_bytes
run_one a b bytes r s p q e f =
    let whole = e ∙ run_parts a r in
    let player = (run_behind_player b a.player bytes _ s p.player q whole f).0 in
    let outcome = (run_behind_outcome b a.player a.outcome bytes _ _ s p.player p.outcome q whole refl f).0 in
    let used = run_behind_used b a.player a.outcome a.used bytes _ _ _ s p.player p.outcome p.used q whole refl refl f in
    let others = subst (λ (z : ℕ). AreCanonicalOf z b.intents) (sym player) q.intents in
    let lists = listed_one (IsIntentOf a.player) intent_bytes (intent_is_one a.player) a.intents b.intents _ r s (canonical_intents a.player a.intents p.intents) (canonical_intents a.player b.intents others) (canonical_count a.player a.intents p.intents) (canonical_count a.player b.intents others) refl used.1 in
    (run_same a b player outcome used.0 lists.0, lists.1)
