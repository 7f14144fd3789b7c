use Rattle.std.proofs.Common.{◌≡◌, ◌*◌, List, length, Some, arith, sym, ap, subst, ◌∙◌}
use Rattle.std.specs.List.{AllByRecursion}
use Rattle.std.specs.Option.{is_some}
use Rattle.game_tables.specs.declared.kind.Part.{Part}
use Rattle.game_tables.specs.Kinds.{is_creep}
use Rattle.game_tables.specs.declared.kind.Kind.TheVariants.{Road}
use Rattle.room_table.specs.declared.object.Object.{Object}
use Rattle.room_table.specs.Tables.{Table, IsOnTile, IsRising, find_object, first_on, with_object}
use Rattle.world_rules.specs.Moves.{pace, weight}
use Rattle.world_rules.proofs.TableParts.{has_the_id, tiles_replaced}
use Rattle.creep_move.specs.inner.Landing.{IsLanded, stepped_to, tired_on, worn_by}
use Rattle.creep_move.proofs.Landed.{id_road, landed_plain, landed_road, none_road, road_still, same_found, some_road}
use Rattle.creep_move.proofs.landing.land.Goals as goal

pub set-requires-clause-there : goal.set-requires-clause-there
set-requires-clause-there c =
    let found = sym c.in-Some.ensures in
    (c.in-Some.creep.now, ap (λ n. find_object n c.args.room.now.objects) (has_the_id c.args.id c.args.room.now.objects c.in-Some.creep.now found) ∙ found)

pub wear-requires-clause-tiles : goal.wear-requires-clause-tiles
wear-requires-clause-tiles c =
    let moved : Object = stepped_to c.args.x c.args.y (c.weight.result * c.pace.result) c.in-Some.creep.now in
    subst (λ (t : Table). AllByRecursion IsOnTile t.objects) (sym c.set.ensures) (tiles_replaced moved c.args.room.now.objects (record { column = omega (arith, c.requires.column); row = omega (arith, c.requires.row) }) c.requires.tiles)

pub wear-requires-clause-there : goal.wear-requires-clause-there
wear-requires-clause-there c =
    let objects = c.args.room.now.objects in
    let creep = c.in-Some.creep.now in
    let found = sym c.in-Some.ensures in
    let id = has_the_id c.args.id objects creep found in
    let rise : IsRising objects = c.stands_in_order.ensures.rising in
    let same : c.requires.goer.creep ≡ creep = same_found c.args.id objects c.requires.goer.creep creep c.requires.goer.found found in
    let road = id_road (first_on c.args.x c.args.y Road objects) c.in-Some-road.road (sym c.in-Some-road.is ∙ c.at-road.ensures) in
    let tired = c.weight.result * c.pace.result in (
      road.0,
      ap (λ (t : Table). find_object c.in-Some-road.road t.objects) c.set.ensures ∙ ap (λ n. find_object n (with_object (stepped_to c.args.x c.args.y tired creep) objects)) (sym road.2)
          ∙ road_still c.args.x c.args.y tired creep objects rise (ap (λ n. find_object n objects) id ∙ found) (ap (λ (o : Object). is_creep o.kind) (sym same) ∙ c.requires.goer.kind) road.0 road.1,
    )

pub returns-in-Some-road-clause-landed : goal.returns-in-Some-road-clause-landed
returns-in-Some-road-clause-landed c = λ other also.
    let objects = c.args.room.now.objects in
    let x = c.args.x in
    let y = c.args.y in
    let creep = c.in-Some.creep.now in
    let found = sym c.in-Some.ensures in
    let id = has_the_id c.args.id objects creep found in
    let there = ap (λ n. find_object n objects) id ∙ found in
    let rise : IsRising objects = c.stands_in_order.ensures.rising in
    let kind = ap (λ (o : Object). is_creep o.kind) (sym (same_found c.args.id objects c.requires.goer.creep creep c.requires.goer.found found)) ∙ c.requires.goer.kind in
    let road = id_road (first_on x y Road objects) c.in-Some-road.road (sym c.in-Some-road.is ∙ c.at-road.ensures) in
    let tired = c.weight.result * c.pace.result in
    let some : is_some (first_on x y Road objects) ≡ c.is_some.result = sym (some_road (first_on x y Road objects)) ∙ ap is_some (sym c.at-road.ensures) ∙ sym c.is_some.ensures in
    let is_tired : tired ≡ tired_on c.args.terrain.now objects x y creep = (λ i. c.weight.ensures.weight i * c.pace.ensures.pace i) ∙ (λ i. weight creep * pace (sym some i) (sym c.at.ensures i)) in
    let still : find_object c.in-Some-road.road c.set.new.self.objects ≡ Some road.0 =
    ap (λ (t : Table). find_object c.in-Some-road.road t.objects) c.set.ensures ∙ ap (λ n. find_object n (with_object (stepped_to x y tired creep) objects)) (sym road.2) ∙ road_still x y tired creep objects rise there kind road.0 road.1 in
    let parts : worn_by (length c.parts.result.now) road.0 ≡ worn_by (length creep.body) road.0 = ap (λ (l : List Part). worn_by (length l) road.0) c.parts.ensures.same in
    let all : c.wear.new.room.objects ≡ with_object (worn_by (length creep.body) road.0) (with_object (stepped_to x y tired creep) objects) =
    ap (λ (t : Table). t.objects) (c.wear.ensures.worn road.0 still) ∙ ap (λ (o : Object). with_object o c.set.new.self.objects) parts ∙ ap (λ (t : Table). with_object (worn_by (length creep.body) road.0) t.objects) c.set.ensures in
    subst (λ (o : Object). IsLanded x y (tired_on c.args.terrain.now objects x y o) o objects c.wear.new.room.objects) (same_found c.args.id objects creep other found also)
    (subst (λ (os : List Object). IsLanded x y (tired_on c.args.terrain.now objects x y creep) creep objects os) (sym all)
    (subst (λ n. IsLanded x y n creep objects (with_object (worn_by (length creep.body) road.0) (with_object (stepped_to x y tired creep) objects))) is_tired
    (landed_road x y tired creep objects rise there kind road.0 road.1)))

pub returns-in_default-road-clause-landed : goal.returns-in_default-road-clause-landed
returns-in_default-road-clause-landed c = λ other also.
    let objects = c.args.room.now.objects in
    let x = c.args.x in
    let y = c.args.y in
    let creep = c.in-Some.creep.now in
    let found = sym c.in-Some.ensures in
    let id = has_the_id c.args.id objects creep found in
    let there = ap (λ n. find_object n objects) id ∙ found in
    let rise : IsRising objects = c.stands_in_order.ensures.rising in
    let kind = ap (λ (o : Object). is_creep o.kind) (sym (same_found c.args.id objects c.requires.goer.creep creep c.requires.goer.found found)) ∙ c.requires.goer.kind in
    let none = none_road (first_on x y Road objects) (sym c.in_default-road.is ∙ c.at-road.ensures) in
    let tired = c.weight.result * c.pace.result in
    let some : is_some (first_on x y Road objects) ≡ c.is_some.result = sym (some_road (first_on x y Road objects)) ∙ ap is_some (sym c.at-road.ensures) ∙ sym c.is_some.ensures in
    let is_tired : tired ≡ tired_on c.args.terrain.now objects x y creep = (λ i. c.weight.ensures.weight i * c.pace.ensures.pace i) ∙ (λ i. weight creep * pace (sym some i) (sym c.at.ensures i)) in
    let all : c.set.new.self.objects ≡ with_object (stepped_to x y tired creep) objects = ap (λ (t : Table). t.objects) c.set.ensures in
    subst (λ (o : Object). IsLanded x y (tired_on c.args.terrain.now objects x y o) o objects c.set.new.self.objects) (same_found c.args.id objects creep other found also)
    (subst (λ (os : List Object). IsLanded x y (tired_on c.args.terrain.now objects x y creep) creep objects os) (sym all)
    (subst (λ n. IsLanded x y n creep objects (with_object (stepped_to x y tired creep) objects)) is_tired
    (landed_plain x y tired creep objects rise there kind none)))

pub returns-in_default-road-clause-tiles : goal.returns-in_default-road-clause-tiles
returns-in_default-road-clause-tiles c =
    let moved : Object = stepped_to c.args.x c.args.y (c.weight.result * c.pace.result) c.in-Some.creep.now in
    subst (λ (t : Table). AllByRecursion IsOnTile t.objects) (sym c.set.ensures) (tiles_replaced moved c.args.room.now.objects (record { column = omega (arith, c.requires.column); row = omega (arith, c.requires.row) }) c.requires.tiles)
