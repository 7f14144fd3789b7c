-- A creep that a spawn begins to make.
use Rattle.std.proofs.Common.{◌≡◌, ℕ, ◌≤◌, ◌==◌, ◌&&◌, nat_le, nat_lt, Bool, true, if◌then◌else◌, List, Some, length, sym, ap, ◌∙◌}
use Rattle.std.specs.FinMap.{get, values}
use Rattle.std.proofs.lemmas.Bool.{leb-true}
use Rattle.game_tables.specs.Bodies.{body_cost, most_parts}
use Rattle.game_tables.specs.Numbers.{kind_number}
use Rattle.game_tables.specs.declared.kind.Kind.TheVariants.{Spawn}
use Rattle.room_terrain.specs.declared.terrain.Ground.{Ground}
use Rattle.room_table.specs.declared.object.Object.{Object}
use Rattle.room_table.specs.Tables.{Table, IsRising}
use Rattle.intent_book.specs.declared.intent.Intent.{Intent}
use Rattle.world_rules.specs.RoomParts.{RoomPart, table_part}
use Rattle.world_rules.specs.Checks.{all_hold, holds_of, standing_at}
use Rattle.world_rules.specs.Spawns.{begun_with, creep_begun, is_body, is_payable, paid, payers, spawn_checks}
use Rattle.world_rules.specs.Steps.{by_object}
use Rattle.world_rules.proofs.Checked.{and_right}
use Rattle.world_rules.proofs.TableParts.{part_values}
use Rattle.room_rules.proofs.Spawned.{fourth_of}

module _ (grounds : List Ground) (table : Table) (entry : Intent) where
  abbrev part : RoomPart
  part = table_part grounds table

  abbrev around : List Object
  around = values part.objects

  abbrev checked : Bool
  checked = all_hold (spawn_checks entry.player (standing_at part entry.actor) around (Some entry.body))

  -- Where the checks hold the body has no more parts than a creep may have.
  pub parts_few : checked ≡ true → length entry.body ≤ 50
  parts_few holds =
      leb-true (length entry.body) 50 (and_right (nat_lt 0 (length entry.body)) (nat_le (length entry.body) most_parts) (
      fourth_of (holds_of (standing_at part entry.actor) (λ object. kind_number object.kind == kind_number Spawn)) (holds_of (standing_at part entry.actor) (λ object. object.owner == entry.player))
      (holds_of (standing_at part entry.actor) (λ object. object.timer == 0)) (is_body (Some entry.body)) (is_payable entry.player around (Some entry.body) && true) holds
      ))

  abbrev begun_in : RoomPart → RoomPart
  begun_in after = by_object (begun_with entry.body) after (get after.objects entry.actor)

  -- The spawn of the entry begins, once it is paid.
  pub begun : checked ≡ true → IsRising table.objects → (cost : ℕ) → cost ≡ body_cost entry.body → (after new : RoomPart) → after ≡ paid (payers entry.player table.objects) cost part → new ≡ begun_in after → new ≡ creep_begun entry part
  begun holds rise cost is after new paid_is new_is =
      let turned = sym (part_values grounds table rise) in
      new_is
      ∙ ap begun_in (paid_is ∙ (λ i. paid (payers entry.player (turned i)) (is i) part))
      ∙ sym (ap (λ (b : Bool). if b then begun_in (paid (payers entry.player around) (body_cost entry.body) part) else part) holds)
