use Rattle.std.proofs.Common.{◌≡◌, ◌≤◌, ◌+◌, length, get_or, false, inl, inr, ap, refl, sym, subst, ◌∙◌, arith}
use Rattle.std.proofs.lemmas.Bool.{true≢false, cases_eq}
use Rattle.std.proofs.lemmas.List.{get_or_past}
use Rattle.creep_move.specs.inner.Walk.{here}
use Rattle.creep_move.proofs.Held.{Kept, stuck_back, stuck_held}
use Rattle.creep_move.proofs.walk.hold.Goals as goal
use Rattle.creep_move.proofs.walk.hold.Goals.{then-held-tile, else-held-tile}

pub loop-tile-init : goal.loop-tile-init
loop-tile-init c = record { long = refl; kept = λ t h. h; stuck = λ t h. here h; closed = λ t h. inr (omega arith) }

pub loop-tile-preserved : goal.loop-tile-preserved
loop-tile-preserved c =
    let s = c.loop-tile in
    let tile = s.tile in
    let comes = c.args.comes.now in
    let first = c.args.held.now in
    elim c.if-held-tile.branch [
      | then-held-tile w ↦
          let new = w.hold_behind.new.held in
          let step = w.hold_behind.ensures in
          let same : length new ≡ length s.held = w.hold_behind.auto.held in
          subst (λ held. Kept comes first held (tile + 1)) (sym w.held-is) (record {
            long = same ∙ s.invariant.long;
            kept = λ t h. step.kept t (s.invariant.kept t h);
            stuck = λ t h. stuck_back comes first s.held t s.invariant.long s.invariant.stuck (step.stuck t h);
            closed = λ t h. elim (step.closed t h) [
              | inl closed ↦ inl closed
              | inr old ↦ elim (s.invariant.closed t old.0) [
                | inl closed ↦ inl (λ short. step.kept (get_or comes t 0) (closed (omega (arith, short, same))))
                | inr waits ↦ inr (omega (arith, waits, old.1))
              ]
            ];
          })
      | else-held-tile w ↦ subst (λ held. Kept comes first held (tile + 1)) (sym w.held-is) (record {
        long = s.invariant.long;
        kept = s.invariant.kept;
        stuck = s.invariant.stuck;
        closed = λ t h. elim (s.invariant.closed t h) [
          | inl closed ↦ inl closed
          | inr waits ↦ elim (cases_eq t tile) [
            | inl e ↦ absurd (true≢false (sym h ∙ ap (λ j. get_or s.held j false) e ∙ w.if-held-tile.false))
            | inr other ↦ inr (omega (arith, waits, other))
          ]
        ];
      })
    ]

pub returns : goal.returns
returns c =
    let s = c.loop-tile in λ t. (
      s.invariant.stuck t,
      stuck_held c.args.comes.now c.args.held.now s.held t s.invariant.long s.invariant.kept (λ k h. elim (s.invariant.closed k h) [
        | inl closed ↦ closed
        | inr waits ↦
            let past : length s.held ≤ k = omega (arith, waits, s.invariant.long, c.requires.same, c.loop-tile-test.false) in
            absurd (true≢false (sym h ∙ get_or_past s.held k false past))
      ]),
    )
