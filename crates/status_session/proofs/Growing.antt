-- What a pass did in one call.
use Rattle.std.proofs.Common.{◌≡◌, ℕ, ◌+◌, ◌-◌, ◌^◌, ◌<◌, min, List, [], ◌∷◌, Option, Some, None, Result, All, Contains, ap, sym, ◌∙◌, subst, inl, inr, arith}
use Rattle.std.proofs.lemmas.List.{append-nil}
use Rattle.std.proofs.lemmas.Grind.{common_steps}
use Rattle.world_io.specs.Told.{AppendsPrefix}
use Rattle.world_hub.specs.declared.queue.Upload.{Upload as Sent}
use Rattle.world_hub.specs.declared.queue.Hand.{Hand}
use Rattle.world_hub.specs.declared.status.Sight.{Sight}
use Rattle.world_hub.specs.declared.summary.Summary.{Summary}
use Rattle.world_hub.specs.Queue.{offered, refused}
use Rattle.world_hub.specs.Status.{ReadOne}
use Rattle.world_hub.specs.declared.hub.Pass.{Pass}
use Rattle.world_hub.specs.declared.summary.PlayerLine.{PlayerLine}
use Rattle.world_hub.specs.Summary.{lines_of, IsOf}
use Rattle.world_hub.specs.Hub.{hand, sight}
use Rattle.status_session.specs.Replies.{status_reply, line_reply, unknown_player, queued, full}
use Rattle.status_session.specs.Served.{Grew}
use Rattle.status_session.specs.inner.Told.{SaidBy, StatusTold, LineTold, UploadTold}

pub small : (n : ℕ) → n < 2 ^ 64 → n ≡ min (n + 0) (2 ^ 64 - 1)
small n h = grind (arith, common_steps, h)

-- a pass that did nothing
pub still : (p : Pass) → (hand p).fulls < 2 ^ 64 → Grew p p [] [] 0
still p few = record {
  reads_grew = sym (append-nil (sight p).reads);
  offers_grew = sym (append-nil (hand p).offers);
  fulls_rose = small (hand p).fulls few;
}

-- nothing was written of a text
pub nothing_said : (a : Option (List ℕ)) (text : List ℕ) → AppendsPrefix a a text
nothing_said None text = (0, tt)
nothing_said (Some xs) text = (0, sym (append-nil xs))

module _ (p q : Pass) where
  seat_hand : q.seat ≡ p.seat → hand q ≡ hand p
  seat_hand same = ap (λ s. hand (record p { seat = s })) same

  module _ (s : Summary) (r : ReadOne (sight p) (sight q) s) (same : q.seat ≡ p.seat) (few : (hand p).fulls < 2 ^ 64) where
    read_grew : Grew p q (r.shown ∷ []) [] 0
    read_grew = let hands = seat_hand same in record {
      reads_grew = ap (λ (x : Sight). x.reads) r.reads.0;
      offers_grew = ap (λ (x : Hand). x.offers) hands ∙ sym (append-nil (hand p).offers);
      fulls_rose = ap (λ (x : Hand). x.fulls) hands ∙ small (hand p).fulls few;
    }

    pub status_told : (text : List ℕ) {E : Type 0} (o n : Option (List ℕ)) (result : Result (Unit {0}) E) → text ≡ status_reply s → SaidBy o n text result → StatusTold o n p q result
    status_told text o n result is said = record {
      shown = r.shown;
      grew = read_grew;
      said = subst (λ (t : List ℕ). SaidBy o n t result) (is ∙ ap status_reply r.same) said;
    }

    pub line_told : (player : ℕ) (l : PlayerLine) (text : List ℕ) {E : Type 0} (o n : Option (List ℕ)) (result : Result (Unit {0}) E)
        → Contains (lines_of s) l → IsOf player l → text ≡ line_reply l → SaidBy o n text result → LineTold player o n p q result
    line_told player l text o n result there its is said = record {
      shown = r.shown;
      grew = read_grew;
      said = inl (l, subst (λ (x : Summary). Contains (lines_of x) l) r.same there, its, subst (λ (t : List ℕ). SaidBy o n t result) is said);
    }

    pub no_line_told : (player : ℕ) {E : Type 0} (o n : Option (List ℕ)) (result : Result (Unit {0}) E)
        → All (λ l. ¬ IsOf player l) (lines_of s) → SaidBy o n unknown_player result → LineTold player o n p q result
    no_line_told player o n result none said = record {
      shown = r.shown;
      grew = read_grew;
      said = inr (subst (λ (x : Summary). All (λ l. ¬ IsOf player l) (lines_of x)) r.same none, said);
    }

  pub queued_told : (x : Sent) {E : Type 0} (o n : Option (List ℕ)) (result : Result (Unit {0}) E) → sight q ≡ sight p → hand q ≡ offered (hand p) x → (hand p).fulls < 2 ^ 64
      → SaidBy o n queued result → UploadTold x o n p q result
  queued_told x o n result same is few said = let grew : Grew p q [] (x ∷ []) 0 = record {
    reads_grew = ap (λ (s : Sight). s.reads) same ∙ sym (append-nil (sight p).reads);
    offers_grew = ap (λ (h : Hand). h.offers) is;
    fulls_rose = ap (λ (h : Hand). h.fulls) is ∙ small (hand p).fulls few;
  } in record { said = inl (grew, said) }

  pub full_told : (x : Sent) {E : Type 0} (o n : Option (List ℕ)) (result : Result (Unit {0}) E) → sight q ≡ sight p → hand q ≡ refused (hand p)
      → SaidBy o n full result → UploadTold x o n p q result
  full_told x o n result same is said = let grew : Grew p q [] [] 1 = record {
    reads_grew = ap (λ (s : Sight). s.reads) same ∙ sym (append-nil (sight p).reads);
    offers_grew = ap (λ (h : Hand). h.offers) is ∙ sym (append-nil (hand p).offers);
    fulls_rose = ap (λ (h : Hand). h.fulls) is;
  } in record { said = inr (grew, said) }
