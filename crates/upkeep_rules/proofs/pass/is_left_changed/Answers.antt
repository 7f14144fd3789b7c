use Rattle.std.proofs.Common.{Some, None, is_some, option_copied, sym, ap, subst, ◌∙◌}
use Rattle.std.specs.List.{AllByRecursion}
use Rattle.room_table.specs.Tables.{Table, IsOnTile}
use Rattle.room_table.proofs.Rising.{all_filter}
use Rattle.world_rules.proofs.TableParts.{tiles_replaced}
use Rattle.upkeep_rules.specs.inner.Passed.{left_of}
use Rattle.upkeep_rules.proofs.Lefts.{left-id}
use Rattle.upkeep_rules.proofs.Passing.{all_read, changes, found_there, goes, its_own, left_then, stays, left_on_tile}
use Rattle.std.specs.FinMap.{remove}
use Rattle.upkeep_rules.proofs.pass.is_left_changed.Goals as goal

pub set-requires-clause-tile : goal.set-requires-clause-tile
set-requires-clause-tile c =
    let read = c.in-Some.object.now in
    let at = sym c.nth.ensures ∙ ap option_copied c.in-Some.is in
    let left = sym c.keep_up.ensures ∙ ap (left_of read) c.in-Changes.is in
    left_on_tile c.args.step read c.in-Changes.left left (all_read IsOnTile c.args.room.now.objects c.args.place read c.requires.tiles at)

pub set-requires-clause-there : goal.set-requires-clause-there
set-requires-clause-there c =
    let read = c.in-Some.object.now in
    let at = sym c.nth.ensures ∙ ap option_copied c.in-Some.is in
    let left = sym c.keep_up.ensures ∙ ap (left_of read) c.in-Changes.is in
    (read, found_there c.args.room.now.objects c.args.place read c.in-Changes.left.id c.stands_in_order.ensures.rising at (sym (left-id c.args.step read c.in-Changes.left left)))

pub returns-in-Stays-clause-left : goal.returns-in-Stays-clause-left
returns-in-Stays-clause-left c before after object whole here =
    let read = c.in-Some.object.now in
    let at = sym c.nth.ensures ∙ ap option_copied c.in-Some.is in
    let left = sym c.keep_up.ensures ∙ ap (left_of read) c.in-Stays.is in
    sym (ap is_some (left_then c.args.step c.args.room.now c.args.place read at before after object whole here (Some read) left))

pub returns-in-Stays-clause-table : goal.returns-in-Stays-clause-table
returns-in-Stays-clause-table c before after object whole here =
    let read = c.in-Some.object.now in
    let at = sym c.nth.ensures ∙ ap option_copied c.in-Some.is in
    let left = sym c.keep_up.ensures ∙ ap (left_of read) c.in-Stays.is in
    stays c.args.step c.args.room.now c.args.place read at before after object whole here left

pub returns-in-Changes-clause-tiles : goal.returns-in-Changes-clause-tiles
returns-in-Changes-clause-tiles c =
    let read = c.in-Some.object.now in
    let at = sym c.nth.ensures ∙ ap option_copied c.in-Some.is in
    let left = sym c.keep_up.ensures ∙ ap (left_of read) c.in-Changes.is in
    let on = left_on_tile c.args.step read c.in-Changes.left left (all_read IsOnTile c.args.room.now.objects c.args.place read c.requires.tiles at) in
    subst (λ (t : Table). AllByRecursion IsOnTile t.objects) (sym c.set.ensures) (tiles_replaced c.in-Changes.left c.args.room.now.objects on c.requires.tiles)

pub returns-in-Changes-clause-left : goal.returns-in-Changes-clause-left
returns-in-Changes-clause-left c before after object whole here =
    let read = c.in-Some.object.now in
    let at = sym c.nth.ensures ∙ ap option_copied c.in-Some.is in
    let left = sym c.keep_up.ensures ∙ ap (left_of read) c.in-Changes.is in
    sym (ap is_some (left_then c.args.step c.args.room.now c.args.place read at before after object whole here (Some c.in-Changes.left) left))

pub returns-in-Changes-clause-table : goal.returns-in-Changes-clause-table
returns-in-Changes-clause-table c before after object whole here =
    let read = c.in-Some.object.now in
    let at = sym c.nth.ensures ∙ ap option_copied c.in-Some.is in
    let left = sym c.keep_up.ensures ∙ ap (left_of read) c.in-Changes.is in
    its_own c.args.step c.args.room.now c.args.place read at before after object whole here c.set.new.self c.args.room.now.tallies _ (c.set.ensures ∙ changes c.args.step c.args.room.now c.args.place read at before after object whole here c.stands_in_order.ensures.rising c.in-Changes.left left)

pub returns-in-Goes-clause-tiles : goal.returns-in-Goes-clause-tiles
returns-in-Goes-clause-tiles c =
    let objects = c.args.room.now.objects in
    subst (λ (t : Table). AllByRecursion IsOnTile t.objects) (sym c.remove.ensures.table) (all_filter IsOnTile _ objects c.requires.tiles)

pub returns-in-Goes-clause-left : goal.returns-in-Goes-clause-left
returns-in-Goes-clause-left c before after object whole here =
    let read = c.in-Some.object.now in
    let at = sym c.nth.ensures ∙ ap option_copied c.in-Some.is in
    let left = sym c.keep_up.ensures ∙ ap (left_of read) c.in-Goes.is in
    sym (ap is_some (left_then c.args.step c.args.room.now c.args.place read at before after object whole here None left))

pub returns-in-Goes-clause-table : goal.returns-in-Goes-clause-table
returns-in-Goes-clause-table c before after object whole here =
    let read = c.in-Some.object.now in
    let at = sym c.nth.ensures ∙ ap option_copied c.in-Some.is in
    let left = sym c.keep_up.ensures ∙ ap (left_of read) c.in-Goes.is in
    its_own c.args.step c.args.room.now c.args.place read at before after object whole here c.remove.new.self (remove c.args.room.now.tallies read.id) _ (c.remove.ensures.table ∙ goes c.args.step c.args.room.now c.args.place read at before after object whole here c.stands_in_order.ensures.rising left)
