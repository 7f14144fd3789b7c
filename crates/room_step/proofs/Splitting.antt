-- Of a list of entries of any rooms, those of a room tell its tick.
use Rattle.std.proofs.Common.{◌≡◌, ℕ, ◌/◌, ◌==◌, if◌then◌else◌, Bool, true, false, cond, List, [], ◌∷◌, Option, Some, None, option_map, option_and_then, refl, sym, ap, subst, ◌∙◌}
use Rattle.std.specs.Prelude.{nat_lt}
use Rattle.std.specs.List.{filter}
use Rattle.std.specs.FinMap.{get}
use Rattle.std.proofs.lemmas.Bool.{and_parts}
use Rattle.room_table.specs.declared.object.Object.{Object}
use Rattle.intent_book.specs.declared.intent.Intent.{Intent}
use Rattle.world_rules.specs.World.{Frame, Placed, World}
use Rattle.world_rules.specs.RoomParts.{part_of}
use Rattle.world_rules.specs.RoomTick.{fits_room, room_inner, room_tick}
use Rattle.world_rules.specs.Intents.{names_tile, acts_for, is_at, is_in, last_of_each, those_in, undropped}
use Rattle.world_rules.specs.Tick.{book}
use Rattle.world_rules.proofs.Parts.{only, get_objects_in}

-- a filter after one that lets all of its own pass
filter_within : (p q : Intent → Bool) → ((entry : Intent) → p entry ≡ true → q entry ≡ true) → (list : List Intent) → filter p (filter q list) ≡ filter p list
filter_within p q pass [] = refl
filter_within p q pass (entry ∷ list) =
    let rest = filter_within p q pass list in
    elim (q entry) as (λ b. q entry ≡ b → filter p (cond b (entry ∷ filter q list) (filter q list)) ≡ cond (p entry) (entry ∷ filter p list) (filter p list)) [
      | true ↦ λ is. ap (λ (more : List Intent). cond (p entry) (entry ∷ more) more) rest
      | false ↦ λ is. rest ∙ sym (ap (λ (b : Bool). cond b (entry ∷ filter p list) (filter p list)) (fails is))
    ] refl
  where
    fails : q entry ≡ false → p entry ≡ false
    fails is = elim (p entry) as (λ b. p entry ≡ b → b ≡ false) [
      | true ↦ λ passes. (let both : true ≡ false = sym (pass entry passes) ∙ is in absurd (cc))
      | false ↦ λ no. refl
    ] refl

module _ (world : World) (k : ℕ) (frame : Frame) where
  acting_here : (entry : Intent) (found : Option Placed) → acts_for entry (option_and_then (only k) found) ≡ true → is_at k (option_map (λ (placed : Placed). placed.room) found) ≡ true
  acting_here entry None acts = absurd (cc)
  acting_here entry (Some placed) acts =
      elim (placed.room == k) as (λ b. (placed.room == k) ≡ b → acts_for entry (if b then Some placed.object else None) ≡ true → (placed.room == k) ≡ true) [
        | true ↦ λ is got. is
        | false ↦ λ is got. absurd (cc)
      ] refl acts

  -- What fits the room has its actor there.
  fits_there : (entry : Intent) → fits_room (part_of world k frame) entry ≡ true → is_in world k entry ≡ true
  fits_there entry fits =
      let actor = (and_parts (nat_lt 0 entry.player) _ fits).1 in
      elim (names_tile entry.action) as (λ b. (if b then entry.actor / 2500 == k else acts_for entry (get (part_of world k frame).objects entry.actor)) ≡ true
      → is_at k (if b then Some (entry.actor / 2500) else option_map (λ (placed : Placed). placed.room) (get world.objects entry.actor)) ≡ true) [
        | true ↦ λ here. here
        | false ↦ λ acts. acting_here entry (get world.objects entry.actor) (subst (λ (found : Option Object). acts_for entry found ≡ true) (get_objects_in world k entry.actor) acts)
      ] actor

  pub tick_split : (list : List Intent) → room_tick book (those_in world k list) (part_of world k frame) ≡ room_tick book list (part_of world k frame)
  tick_split list =
      ap (λ (fitting : List Intent). room_inner book (undropped (last_of_each fitting)) (part_of world k frame)) (filter_within (fits_room (part_of world k frame)) (is_in world k) fits_there list)
