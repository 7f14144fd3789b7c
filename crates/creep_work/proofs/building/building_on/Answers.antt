use Rattle.std.proofs.Common.{◌≡◌, ℕ, Bool, if◌then◌else◌, sym, ap, ◌∙◌}
use Rattle.game_tables.specs.Kinds.{full_timer, is_owned}
use Rattle.room_table.specs.Controllers.{is_owned_room}
use Rattle.world_rules.proofs.TableParts.{part_controller}
use Rattle.creep_work.proofs.building.building_on.Goals as goal
use Rattle.creep_work.proofs.building.building_on.Goals.{then-is_owned, else-is_owned}

pub returns : goal.returns
returns c =
    let kind = c.args.kind in
    let site = c.args.site.now in
    let owner_by : Bool → ℕ = λ b. if b then site.owner else 0 in
    let owner : c.if-is_owned.result ≡ owner_by (is_owned kind) = elim c.if-is_owned.branch [
      | then-is_owned w ↦ w.result-is ∙ ap owner_by (sym w.if-is_owned.true ∙ c.is_owned.ensures)
      | else-is_owned w ↦ w.result-is ∙ ap owner_by (sym w.if-is_owned.false ∙ c.is_owned.ensures)
    ] in
    λ grounds.
    let controller = c.controller.ensures ∙ sym (part_controller grounds c.args.room.now c.stands_in_order.ensures.rising) in
    let timer = c.full_timer.ensures ∙ ap (full_timer kind) (c.is_owned_room.ensures ∙ ap is_owned_room controller) in
    λ i. record {
      id = 0;
      kind = kind;
      x = site.x;
      y = site.y;
      owner = owner i;
      hits = c.built_hits.ensures i;
      energy = 0;
      timer = timer i;
      extra = 0;
      progress = 0;
      other = 0;
      other_ticks = 0;
      body = c.new.ensures i;
    }
