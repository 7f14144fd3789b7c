use Rattle.std.proofs.Common.{ℕ, ◌≡◌, map, List, [], ◌∷◌, refl, sym, ap, ◌∙◌}
use Rattle.room_table.specs.declared.standing.Standing.{Standing}
use Rattle.world_rules.specs.World.{Placed, shown}
use Rattle.world_roster.specs.Rosters.{shown_entry}
use Rattle.visible_view.specs.inner.Places.{all_of}
use Rattle.visible_view.proofs.listed.Listed.list.Goals as goal

second : (all : List Standing) → map shown all ≡ map (λ (e : ℕ × Placed). e.1) (map shown_entry all)
second [] = refl
second (first ∷ all) = ap (λ (ps : List Placed). shown first ∷ ps) (second all)

pub returns-in-Own-clause-all : goal.returns-in-Own-clause-all
returns-in-Own-clause-all c =
    second c.list.result.now ∙ ap (map (λ (e : ℕ × Placed). e.1)) c.list.ensures.all ∙ sym (ap all_of c.in-Own.is)

pub returns-in-Lent-clause-all : goal.returns-in-Lent-clause-all
returns-in-Lent-clause-all c =
    second c.list-in-Lent.result.now ∙ ap (map (λ (e : ℕ × Placed). e.1)) c.list-in-Lent.ensures.all ∙ sym (ap all_of c.in-Lent.is)
