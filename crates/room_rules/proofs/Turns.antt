-- A step over all objects of a room that leads it from one stage of a tick to another: it keeps the rules of the
-- earlier stage, and in its turn each object is made fit for the later one.
use Rattle.std.proofs.Common.{◌≡◌, ◌⊎◌, inl, inr, ℕ, Bool, true, false, cond, List, [], ◌∷◌, map, Option, Some, None, refl, sym, ap, ◌∙◌, arith}
use Rattle.std.specs.Ordering.{nat_cmp, eq_by_cmp}
use Rattle.std.specs.Cmp.{unsigned_tied}
use Rattle.std.specs.FinMap.{find, get, entries, keys, get-entries}
use Rattle.std.proofs.lemmas.Bool.{eqb-true}
use Rattle.room_table.specs.declared.object.Object.{Object}
use Rattle.world_rules.specs.RoomParts.{RoomPart}
use Rattle.world_rules.specs.Steps.{by_object, over_ids, over_objects}
use Rattle.room_commutes.proofs.Members.{Has}
use Rattle.room_rules.specs.Within.{Stage, IsInRangeIn}
use Rattle.room_rules.specs.RoomRules.{Holds, KeepsRoomRules}
use Rattle.room_rules.proofs.Keeps.{IsSame-refl, by_keeps, keeps_came}

-- the key of what is found is one of the list
found_key : {X : Type 0} (es : List (ℕ × X)) (id : ℕ) (x : X) → find nat_cmp id es ≡ Some x → Has (map (λ (e : ℕ × X). e.0) es) id
found_key [] id x is = absurd (cc)
found_key {X} (e ∷ es) id x is = elim (eq_by_cmp nat_cmp id e.0) as (λ b. eq_by_cmp nat_cmp id e.0 ≡ b → cond b (Some e.1) (find nat_cmp id es) ≡ Some x → Has (e.0 ∷ map (λ (f : ℕ × X). f.0) es) id) [
  | true ↦ λ tied got. inl (sym (eqb-true id e.0 (sym (unsigned_tied id e.0) ∙ tied)))
  | false ↦ λ apart got. inr (found_key es id x got)
] refl is

module _ (players : ℕ → Bool) (early late : Stage) (Fit : Object → Type 0) (fits : (o : Object) → Fit o → IsInRangeIn o.kind early o → IsInRangeIn o.kind late o) where
  -- The change keeps the rules of the earlier stage in the turn of an object, and what stands then stood before
  -- under another id, or is fit.
  pub record Turns (change : Object → RoomPart → RoomPart) : Type 0 where
    pub keeps : (object : Object) (part : RoomPart) → Holds part object.id object → KeepsRoomRules players early part → KeepsRoomRules players early (change object part)
    pub fit : (object : Object) (part : RoomPart) → Holds part object.id object → (id : ℕ) (o : Object) → Holds (change object part) id o → (Holds part id o × (object.id ≡ id → ⊥)) ⊎ Fit o

  -- What stands has its turn yet, or is fit.
  abbrev pub AreLeft : List ℕ → RoomPart → Type 0
  AreLeft ids part = (id : ℕ) (o : Object) → Holds part id o → Has ids id ⊎ Fit o

  module _ (change : Object → RoomPart → RoomPart) (turns : Turns change) where
    not_first : (first id : ℕ) (later : List ℕ) (o : Object) → (first ≡ id → ⊥) → Has (first ∷ later) id ⊎ Fit o → Has later id ⊎ Fit o
    not_first first id later o apart (inl (inl same)) = absurd (apart same)
    not_first first id later o apart (inl (inr has)) = inl has
    not_first first id later o apart (inr fit) = inr fit

    turn_leaves : (id : ℕ) (later : List ℕ) (part : RoomPart) → KeepsRoomRules players early part → AreLeft (id ∷ later) part → (found : Option Object) → get part.objects id ≡ found → AreLeft later (by_object change part found)
    turn_leaves id later part k left None is key o h = not_first id key later o (λ same. none_there (get part.objects key) (ap (get part.objects) (sym same) ∙ is) h) (left key o h)
      where
        none_there : (found : Option Object) → found ≡ None → found ≡ Some o → ⊥
        none_there found none some = cc
    turn_leaves id later part k left (Some object) is key o h =
        let own : object.id ≡ id = k.ids id object is in
        elim (turns.fit object part (ap (get part.objects) own ∙ is) key o h) [
          | inl other ↦ not_first id key later o (λ same. other.1 (own ∙ same)) (left key o other.0)
          | inr fit ↦ inr fit
        ]

    all_fit : (part : RoomPart) → KeepsRoomRules players early part → AreLeft [] part → KeepsRoomRules players late part
    all_fit part k left = keeps_came players early late part part k refl refl (omega arith) (λ id o h. (o, h, IsSame-refl o, fits o (none_left o (left id o h))))
      where
        none_left : (o : Object) → ⊥ ⊎ Fit o → Fit o
        none_left o (inl none) = absurd none
        none_left o (inr fit) = fit

    over_leads : (ids : List ℕ) (part : RoomPart) → KeepsRoomRules players early part → AreLeft ids part → KeepsRoomRules players late (over_ids change ids part)
    over_leads [] part k left = all_fit part k left
    over_leads (id ∷ later) part k left =
        over_leads later (by_object change part (get part.objects id)) (by_keeps players early change turns.keeps part k id (get part.objects id) refl)
        (turn_leaves id later part k left (get part.objects id) refl)

    -- The step over all objects leads from the earlier stage to the later one.
    pub over_objects_leads : (part : RoomPart) → KeepsRoomRules players early part → KeepsRoomRules players late (over_objects change part)
    over_objects_leads part k = over_leads (keys part.objects) part k (λ id o h. inl (found_key (entries part.objects) id o (sym (get-entries part.objects id) ∙ h)))
