use Rattle.std.proofs.Common.{◌≡◌, ℕ, ◌+◌, ◌-◌, ◌<◌, ◌≤◌, List, [], ◌∷◌, ◌++◌, length, take, sym, ap, subst, ◌∙◌, arith}
use Rattle.std.proofs.lemmas.List.Elements.{All-from_recursion}
use Rattle.intent_book.specs.declared.intent.Intent.{Intent}
use Rattle.kept_entries.specs.declared.entries.Entry.{Entry}
use Rattle.room_table.specs.Tables.{Table}
use Rattle.ruled_tick.specs.inner.Entered.{IsRuled}
use Rattle.world_rules.specs.RoomParts.{table_part}
use Rattle.room_step.specs.Stepping.{anybody}
use Rattle.room_step.specs.declared.step.Gained.{Gained}
use Rattle.room_step.specs.inner.Course.{HasCome, HasGained, intents_in, points_entered}
use Rattle.room_step.proofs.Coming.{as_many, come_more, next_in, points_many, points_more, ready}
use Rattle.room_step.proofs.Gainer.{few_points}
use Rattle.room_step.proofs.Gains.{gained_none, gained_some}
use Rattle.room_step.proofs.step.enter_all.Goals.{then-points-gt0, else-points-gt0}
use Rattle.room_step.proofs.step.enter_all.Goals as goal

pub rule-points-requires : goal.rule-points-requires
rule-points-requires c =
    let entries = c.args.entries.now in
    let i = c.loop-entry.entry-index in
    let inside = c.loop-entry-test.true in
    let many = as_many entries i (omega (arith, inside)) in
    record { ready = ready c.args.ground.now c.args.table.now (intents_in (take i entries)) (length entries - i) c.loop-entry.table c.loop-entry.invariant.come (omega (arith, inside)) (omega (arith, inside, many, c.requires.few)) }

pub overflow_add-gained : goal.overflow_add-gained
overflow_add-gained c =
    let entries = c.args.entries.now in
    let i = c.loop-entry.entry-index in
    let inside = c.loop-entry-test.true in
    let come = c.loop-entry.invariant.come in
    let few = few_points anybody (table_part c.args.ground.now c.loop-entry.table) come.keeps c.entry-item.result.intent in
    let so_far = c.loop-entry.invariant.gained.few in
    let listed = points_many (table_part c.args.ground.now c.args.table.now) (intents_in (take i entries)) in
    omega (arith, few, so_far, listed, c.rule-points.ensures.points c.args.ground.now, as_many entries i (omega (arith, inside)), inside, c.requires.few)

pub loop-entry-preserved : goal.loop-entry-preserved
loop-entry-preserved c =
    let entries : List Entry = c.args.entries.now in
    let grounds = c.args.ground.now in
    let start = c.args.table.now in
    let i : ℕ = c.loop-entry.entry-index in
    let entry : Entry = c.entry-item.result in
    let inside : i < length entries = c.loop-entry-test.true in
    let done : List Intent = intents_in (take i entries) in
    let table : Table = c.loop-entry.table in
    let new : Table = c.rule-points.new.table in
    let come = c.loop-entry.invariant.come in
    let given : ℕ = c.rule-points.result in
    let is_given = c.rule-points.ensures.points grounds in
    let told = c.rule-points.ensures in
    let ruled : IsRuled grounds entry.intent table new = record {
      rule = told.rule;
      harm = told.harm;
      told = told.told;
      keeps = told.keeps;
      rising = c.stands_in_order.ensures.rising;
    } in
    let some : 1 ≤ entry.intent.player = subst (λ (e : Entry). 1 ≤ e.intent.player) (sym c.entry-item.is) (All-from_recursion (λ (e : Entry). 1 ≤ e.intent.player) entries c.requires.players i entry inside) in
    let left : length entries - i ≡ (length entries - (i + 1)) + 1 = omega (arith, inside) in
    let next = next_in entries i entry inside c.entry-item.is in
    let come_then = subst (λ (list : List Intent). HasCome grounds start list (length entries - (i + 1)) new) (sym next)
    (come_more grounds start done (length entries - (i + 1)) entry.intent table new (subst (λ (n : ℕ). HasCome grounds start done n table) left come) some ruled) in
    let points_then : points_entered (table_part grounds start) done ++ (entry.intent.player, given) ∷ [] ≡ points_entered (table_part grounds start) (intents_in (take (i + 1) entries)) =
    sym (ap (points_entered (table_part grounds start)) next ∙ points_more grounds start done (length entries - i) entry.intent table given come is_given) in
    let gained = c.loop-entry.invariant.gained in
    let few = few_points anybody (table_part grounds table) come.keeps entry.intent in
    record {
      come = come_then;
      gained = subst (λ (list : List (ℕ × ℕ)). HasGained list c.if-points-gt0.gained.player c.if-points-gt0.gained.points) points_then
          (elim c.if-points-gt0.branch [
            | then-points-gt0 w ↦ subst (λ (g : Gained). HasGained (points_entered (table_part grounds start) done ++ (entry.intent.player, given) ∷ []) g.player g.points) (sym w.gained-is)
                (gained_some (points_entered (table_part grounds start) done) c.loop-entry.gained.player c.loop-entry.gained.points entry.intent.player given w.if-points-gt0.true (omega (arith, few, is_given)) gained)
            | else-points-gt0 w ↦ subst (λ (g : Gained). HasGained (points_entered (table_part grounds start) done ++ (entry.intent.player, given) ∷ []) g.player g.points) (sym w.gained-is)
                (gained_none (points_entered (table_part grounds start) done) c.loop-entry.gained.player c.loop-entry.gained.points entry.intent.player given (omega (arith, w.if-points-gt0.false)) gained)
          ]);
    }
