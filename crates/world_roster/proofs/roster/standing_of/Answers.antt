use Rattle.std.proofs.Common.{Some, sym, ap, ◌∙◌, option_map, refl}
use Rattle.std.proofs.lemmas.Bool.{both_ways, ltb-true}
use Rattle.std.proofs.lemmas.List.{get_or_default}
use Rattle.std.specs.Option.{is_some}
use Rattle.room_table.proofs.Rising.{find-at, absent_there}
use Rattle.world_rules.specs.World.{shown}
use Rattle.world_roster.specs.Rosters.{id_in}
use Rattle.world_roster.proofs.roster.standing_of.Goals as goal
use Rattle.world_roster.proofs.roster.standing_of.Goals.{in_default-via-in-Some+else-standing-id, in_default-via-in_default}

pub returns-in-Some : goal.returns-in-Some
returns-in-Some c =
    let all = c.args.all.now in
    let place = c.place.result in
    let found = c.in-Some.standing.now in
    let read = c.in-Some.ensures.lookup.1 in
    ap (option_map shown) (ap Some read ∙ sym (find-at id_in c.args.id all place found c.requires.rising (ltb-true _ _ (sym c.in-Some.ensures.lookup.0)) (ap id_in (sym read) ∙ c.if-standing-id.true)))

pub returns-in_default : goal.returns-in_default
returns-in_default c =
    let all = c.args.all.now in
    let place = c.place.result in
    let absent = absent_there id_in c.args.id all all place refl c.requires.rising c.place.ensures.within c.place.ensures.between in
    ap (option_map shown) (
    elim c.in_default.branch [
      | in_default-via-in-Some+else-standing-id w ↦
          let other = w.in-Some.standing.now in
          sym (absent (λ d within here. w.if-standing-id.false (ap id_in (w.in-Some.ensures.lookup.1 ∙ get_or_default all place other d within) ∙ here)))
      | in_default-via-in_default w ↦
          sym (absent (λ d within here. both_ways (is_some c.get.result) (ap is_some w.in_default.is) (c.get.ensures.lookup.2 within)))
    ])
