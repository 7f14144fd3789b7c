use Rattle.std.proofs.Common.{◌≡◌, ℕ, ◌+◌, ◌++◌, [], ◌∷◌, if◌then◌else◌, List, take, length, sym, ap, ◌∙◌, arith}
use Rattle.std.specs.Prelude.{vec_capacity, vec_len}
use Rattle.std.proofs.lemmas.List.{append-nil, length-take-le, take_more}
use Rattle.room_table.specs.declared.standing.Standing.{Standing}
use Rattle.visible_view.specs.inner.Gathered.{is_flagged}
use Rattle.visible_view.specs.inner.Places.{flagged_from}
use Rattle.visible_view.proofs.Places.{flagged_push}
use Rattle.visible_view.proofs.gather.flagged_places.Goals as goal
use Rattle.visible_view.proofs.gather.flagged_places.Goals.{then-is_flagged, else-is_flagged}

pub loop-place-preserved : goal.loop-place-preserved
loop-place-preserved c =
    let all = c.args.all.now in
    let flags = c.args.flags.now in
    let place = c.loop-place.place in
    let standing = c.index-all-place.result in
    let old = c.loop-place.invariant in
    let taken : 0 + length (take place all) ≡ place = omega (arith, length-take-le place all (omega arith)) in
    let more : take (place + 1) all ≡ take place all ++ standing ∷ [] = take_more all place standing c.loop-place-test.true ∙ ap (λ (s : Standing). take place all ++ s ∷ []) (sym c.index-all-place.is) in
    let listed : flagged_from flags 0 (take (place + 1) all) ≡ flagged_from flags 0 (take place all) ++ (if is_flagged flags standing then place ∷ [] else []) =
    ap (flagged_from flags 0) more
    ∙ flagged_push flags 0 (take place all) standing
    ∙ ap (λ (n : ℕ). flagged_from flags 0 (take place all) ++ (if is_flagged flags standing then n ∷ [] else [])) taken in
    elim c.if-is_flagged.branch [
      | then-is_flagged w ↦ record {
        listed = ap (λ v. v.items) w.places-is ∙ w.push_reserved.ensures.items ∙ ap (λ (ps : List ℕ). ps ++ place ∷ []) old.listed
            ∙ ap (λ b. flagged_from flags 0 (take place all) ++ (if b then place ∷ [] else [])) (sym w.if-is_flagged.true ∙ c.is_flagged.ensures) ∙ sym listed;
        few = omega (arith, ap vec_len w.places-is);
        room = omega (arith, ap vec_capacity w.places-is);
      }
      | else-is_flagged w ↦ record {
        listed = ap (λ v. v.items) w.places-is ∙ old.listed ∙ sym (append-nil (flagged_from flags 0 (take place all)))
            ∙ ap (λ b. flagged_from flags 0 (take place all) ++ (if b then place ∷ [] else [])) (sym w.if-is_flagged.false ∙ c.is_flagged.ensures) ∙ sym listed;
        few = omega (arith, ap vec_len w.places-is);
        room = omega (arith, ap vec_capacity w.places-is);
      }
    ]
