-- The texts of the lines, as `format!` and `write!` join them.
use Rattle.std.proofs.Common.{◌≡◌, ℕ, [], ◌++◌, List, length, append_assoc, sym, ap, ◌∙◌}
use Rattle.std.specs.Prelude.{decimal, codes}
use Rattle.object_store.specs.Stored.{Stored}
use Rattle.intent_book.specs.declared.player_run.PlayerRun.{PlayerRun}
use Rattle.tick_journal.specs.declared.entries.UploadEntry.{UploadEntry}
use Rattle.run_lines.specs.Lines.{object_count, total_energy, outcome_text, result_text, run_line, start_line, tick_line, upload_line}

pub start_text : (world : Stored) (tick rooms objects players : ℕ) (line : List ℕ)
    → line ≡ codes "start tick " ++ (decimal tick ++ (codes " rooms " ++ (decimal rooms ++ (codes " objects " ++ (decimal objects ++ (codes " players " ++ (decimal players ++ codes "\n")))))))
    → tick ≡ world.tick → rooms ≡ length world.rooms → objects ≡ object_count world → players ≡ length world.accounts
    → line ≡ start_line world
unfolding start_line
start_text world tick rooms objects players line joined a b c d = rw (joined, a, b, c, d) (simp append_assoc)

pub tick_text : (world : Stored) (tick objects intents energy : ℕ) (old new : List ℕ)
    → new ≡ old ++ (codes "tick " ++ (decimal tick ++ (codes " objects " ++ (decimal objects ++ (codes " intents " ++ (decimal intents ++ (codes " energy " ++ (decimal energy ++ codes "\n"))))))))
    → tick ≡ world.tick → objects ≡ object_count world → energy ≡ total_energy world
    → new ≡ old ++ tick_line world intents
unfolding tick_line
tick_text world tick objects intents energy old new joined a b c = rw (joined, a, b, c) (simp append_assoc)

text_joined : (entry : UploadEntry) (digits text : List ℕ) → digits ≡ decimal entry.player → text ≡ result_text entry.result_number
    → codes "upload player " ++ (digits ++ (codes " " ++ (text ++ codes "\n"))) ≡ upload_line entry
unfolding upload_line
text_joined entry digits text a b =
    ap (λ (z : List ℕ). codes "upload player " ++ (z ++ (codes " " ++ (text ++ codes "\n")))) a
    ∙ (ap (λ (z : List ℕ). codes "upload player " ++ (decimal entry.player ++ (codes " " ++ (z ++ codes "\n")))) b
    ∙ sym (append_assoc (codes "upload player " ++ decimal entry.player ++ codes " ") (result_text entry.result_number) (codes "\n")
    ∙ (append_assoc (codes "upload player " ++ decimal entry.player) (codes " ") (result_text entry.result_number ++ codes "\n")
    ∙ append_assoc (codes "upload player ") (decimal entry.player) (codes " " ++ (result_text entry.result_number ++ codes "\n")))))

pub upload_text : (entry : UploadEntry) (digits verdict name : List ℕ) → digits ≡ decimal entry.player → verdict ++ name ≡ result_text entry.result_number
    → codes "upload player " ++ (digits ++ (codes " " ++ (verdict ++ (name ++ (codes "\n" ++ []))))) ≡ upload_line entry
upload_text entry digits verdict name a b =
    ap (λ (z : List ℕ). codes "upload player " ++ (digits ++ (codes " " ++ z))) (sym (append_assoc verdict name (codes "\n")))
    ∙ text_joined entry digits (verdict ++ name) a b

pub run_text : (run : PlayerRun) (player used : ℕ) (outcome old new : List ℕ)
    → new ≡ old ++ (codes "player " ++ (decimal player ++ (codes " " ++ (outcome ++ (codes " " ++ (decimal used ++ codes "\n"))))))
    → player ≡ run.player → outcome ≡ outcome_text run.outcome → used ≡ run.used
    → new ≡ old ++ run_line run
unfolding run_line
run_text run player used outcome old new joined a b c = rw (joined, a, b, c) (simp append_assoc)
