-- What is left of the uploads of a run.
use Rattle.std.proofs.Common.{◌≡◌, ℕ, ◌<◌, true, false, eqb, ltb, List, [], ◌∷◌, inl, inr, refl, ap, subst, arith}
use Rattle.std.proofs.lemmas.Bool.{cases_lt, le-ltb, lt-ltb, ne_eqb}
use Rattle.std.proofs.lemmas.Bool.Decides.{eqb_tells}
use Rattle.upload_stream.specs.Streams.{Upload, uploads_after, uploads_at}
use Rattle.hosted_tick.specs.Hosting.{Held, state_of}
use Rattle.hosted_tick.specs.Next.{Next}
use Rattle.world_run.specs.inner.Held.{IsStep, Step}

-- a later tick has the same uploads once those up to this one are taken
pub later_left : (tick later : ℕ) (uploads : List Upload) → tick < later → uploads_at later (uploads_after tick uploads) ≡ uploads_at later uploads
later_left tick later [] behind = refl
later_left tick later (upload ∷ rest) behind = elim (cases_lt tick upload.tick) [
  | inl more ↦
      let kept : ltb tick upload.tick ≡ true = lt-ltb tick upload.tick more in
      elim (eqb_tells upload.tick later) [
        | inl same ↦ let it : eqb upload.tick later ≡ true = same.0 in rw (kept, it) (ap (λ (z : List Upload). upload ∷ z) (later_left tick later rest behind))
        | inr other ↦ let it : eqb upload.tick later ≡ false = other.0 in rw (kept, it) (later_left tick later rest behind)
      ]
  | inr less ↦
      let gone : ltb tick upload.tick ≡ false = le-ltb tick upload.tick less in
      let it : eqb upload.tick later ≡ false = ne_eqb upload.tick later (omega (arith, less, behind)) in
      rw (gone, it) (later_left tick later rest behind)
]

-- A step is one of each stream with the same uploads for its tick.
pub step_same : (one other : List Upload) (before : Held) (step : Step) → uploads_at before.world.tick one ≡ uploads_at before.world.tick other → IsStep one before step → IsStep other before step
step_same one other before step same is = record {
  made = subst (λ (uploads : List Upload). Next (state_of before) uploads step.uploads step.runs (state_of step.after)) same is.made;
  recorded = is.recorded;
}
