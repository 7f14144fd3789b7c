-- What a creep does with a target: two objects of a room change, one after the other.
use Rattle.std.proofs.Common.{◌≡◌, ◌⊎◌, inl, inr, ℕ, ◌==◌, ◌&&◌, ◌||◌, not, Bool, true, false, cond, Option, Some, None, refl, sym, ap, subst, ◌∙◌}
use Rattle.std.specs.Cmp.{nat_cmp_total, unsigned_tied}
use Rattle.std.specs.FinMap.{get, get-insert, get-remove}
use Rattle.std.proofs.lemmas.Bool.{both_ways, eq-eqb, eqb-false, eqb-true, ne_eqb}
use Rattle.game_tables.specs.Actions.{is_target}
use Rattle.game_tables.specs.declared.action.Action.{Action}
use Rattle.intent_book.specs.declared.intent.Intent.{Intent}
use Rattle.room_table.specs.declared.object.Object.{Object}
use Rattle.world_rules.specs.RoomParts.{RoomPart}
use Rattle.world_rules.specs.Changes.{put, with_object, without}
use Rattle.world_rules.specs.Checks.{all_hold, are_near, between, by_parties, parties, reaches_itself, target_checks}
use Rattle.world_rules.proofs.Checked.{AreParties, and_left, and_right, parties_are, placed_in, scene_with}
use Rattle.room_rules.specs.Within.{Stage, IsInRangeIn}
use Rattle.room_rules.specs.RoomRules.{Holds, KeepsRoomRules}
use Rattle.room_rules.proofs.Keeps.{IsSame, keeps_changed, put_or_before}

-- ---- what stands after a change

put_still : (part : RoomPart) (object : Object) (found : Option Object) (id : ℕ) (o : Object) → Holds part id o → (object.id ≡ id → ⊥) → Holds (put object part found) id o
put_still part object None id o h apart = h
put_still part object (Some old) id o h apart =
    get-insert nat_cmp_total part.objects object.id object id
    ∙ ap (λ (b : Bool). cond b (Some object) (get part.objects id)) (unsigned_tied id object.id ∙ ne_eqb id object.id (λ same. apart (sym same)))
    ∙ h

-- An object stands still where another was put in the place of its own.
pub holds_still : (part : RoomPart) (object : Object) (id : ℕ) (o : Object) → Holds part id o → (object.id ≡ id → ⊥) → Holds (with_object object part) id o
holds_still part object = put_still part object (get part.objects object.id)

put_from : (part : RoomPart) (object old : Object) (found : Option Object) → get part.objects object.id ≡ found → Holds part object.id old → IsSame old object → (id : ℕ) (o : Object) → Holds (put object part found) id o
    → (q : Object) × Holds part id q × (o.kind ≡ q.kind) × (o.x ≡ q.x) × (o.y ≡ q.y)
put_from part object old None is there same id o h = (o, h, refl, refl, refl)
put_from part object old (Some first) is there same id o h =
    put_or_before part object.id object id o h
    (λ at one. (old, subst (λ (n : ℕ). Holds part n old) (sym at) there, ap (λ (p : Object). p.kind) (sym one) ∙ same.kind, ap (λ (p : Object). p.x) (sym one) ∙ same.x, ap (λ (p : Object). p.y) (sym one) ∙ same.y))
    (λ before. (o, before, refl, refl, refl))

-- What stands after an object was put in its place stood before, on its tile.
pub stood_before : (part : RoomPart) (object old : Object) → Holds part object.id old → IsSame old object → (id : ℕ) (o : Object) → Holds (with_object object part) id o
    → (q : Object) × Holds part id q × (o.kind ≡ q.kind) × (o.x ≡ q.x) × (o.y ≡ q.y)
stood_before part object old there same id o h = put_from part object old (get part.objects object.id) refl there same id o h

-- An object stands still where another is gone.
pub holds_without : (part : RoomPart) (gone id : ℕ) (o : Object) → Holds part id o → (gone ≡ id → ⊥) → Holds (without gone part) id o
holds_without part gone id o h apart =
    get-remove nat_cmp_total part.objects gone id
    ∙ ap (λ (b : Bool). cond b None (get part.objects id)) (unsigned_tied id gone ∙ ne_eqb id gone (λ same. apart (sym same)))
    ∙ h

-- What stands where one is gone is another, and stood before.
pub left_without : (part : RoomPart) (gone id : ℕ) (o : Object) → Holds (without gone part) id o → (id ≡ gone → ⊥) × Holds part id o
left_without part gone id o h =
    elim (id == gone) as (λ b. (id == gone) ≡ b → cond b None (get part.objects id) ≡ Some o → (id ≡ gone → ⊥) × Holds part id o) [
      | true ↦ λ is got. absurd (cc)
      | false ↦ λ is got. (λ same. both_ways (id == gone) is (eq-eqb id gone same), got)
    ] refl (sym (get-remove nat_cmp_total part.objects gone id ∙ ap (λ (b : Bool). cond b None (get part.objects id)) (unsigned_tied id gone)) ∙ h)

set_from : (part : RoomPart) (object : Object) (found : Option Object) → get part.objects object.id ≡ found → (id : ℕ) (o : Object) → Holds (put object part found) id o
    → (Holds part id o × (object.id ≡ id → ⊥)) ⊎ (object ≡ o)
set_from part object None is id o h = inl (h, λ same. none_there (get part.objects id) (ap (get part.objects) (sym same) ∙ is) h)
  where
    none_there : (found : Option Object) → found ≡ None → found ≡ Some o → ⊥
    none_there found none some = cc
set_from part object (Some old) is id o h =
    elim (id == object.id) as (λ b. (id == object.id) ≡ b → cond b (Some object) (get part.objects id) ≡ Some o → (Holds part id o × (object.id ≡ id → ⊥)) ⊎ (object ≡ o)) [
      | true ↦ λ same got. inr (cc)
      | false ↦ λ apart got. inl (got, λ same. eqb-false id object.id apart (sym same))
    ] refl (sym (get-insert nat_cmp_total part.objects object.id object id ∙ ap (λ (b : Bool). cond b (Some object) (get part.objects id)) (unsigned_tied id object.id)) ∙ h)

-- What stands after an object was put in the place of its own stood before under another id, or it is that object.
pub set_came : (part : RoomPart) (object : Object) (id : ℕ) (o : Object) → Holds (with_object object part) id o → (Holds part id o × (object.id ≡ id → ⊥)) ⊎ (object ≡ o)
set_came part object id o h = set_from part object (get part.objects object.id) refl id o h

-- What stands is a given object, or stands under another id.
pub itself_or_other : (part : RoomPart) (object : Object) → Holds part object.id object → (id : ℕ) (o : Object) → Holds part id o → (Holds part id o × (object.id ≡ id → ⊥)) ⊎ (object ≡ o)
itself_or_other part object there id o h =
    elim (object.id == id) as (λ b. (object.id == id) ≡ b → (Holds part id o × (object.id ≡ id → ⊥)) ⊎ (object ≡ o)) [
      | true ↦ λ same. inr (one_there (get part.objects id) (ap (get part.objects) (sym (eqb-true object.id id same)) ∙ there) h)
      | false ↦ λ apart. inl (h, eqb-false object.id id apart)
    ] refl
  where
    one_there : (found : Option Object) → found ≡ Some object → found ≡ Some o → object ≡ o
    one_there found one other = cc

-- ---- objects that change

module _ (players : ℕ → Bool) (stage : Stage) where
  abbrev Kept : RoomPart → Type 0
  Kept part = KeepsRoomRules players stage part

  -- Two objects of the room change.
  pub keeps_two : (part : RoomPart) → Kept part → (i j : ℕ) (one other first second : Object) → Holds part i one → Holds part j other → (one.id ≡ other.id → ⊥)
      → IsSame one first → IsSame other second
      → (IsInRangeIn one.kind stage one → IsInRangeIn first.kind stage first) → (IsInRangeIn other.kind stage other → IsInRangeIn second.kind stage second)
      → Kept (with_object second (with_object first part))
  keeps_two part k i j one other first second h g apart same alike range ranges =
      keeps_changed players stage (with_object first part) (keeps_changed players stage part k i one first h same range) j other second
      (holds_still part first j other g (λ e. apart (sym same.id ∙ e ∙ sym (k.ids j other g)))) alike ranges

  -- ---- the creep and the target of an entry

  module _ (action : Action) (change : Object → Object → RoomPart → RoomPart) (entry : Intent) where
    -- The change keeps the rules where these are the parties of the entry.
    abbrev pub PartiesKeep : Type 0
    PartiesKeep = (part : RoomPart) → Kept part → (creep target : Object) → AreParties action entry part creep target → Kept (change creep target part)

    between_keeps : PartiesKeep → (part : RoomPart) → Kept part → (found : Option (Object × Object)) → parties action entry part ≡ found → Kept (between change found part)
    between_keeps keeps part k None is = k
    between_keeps keeps part k (Some found) is = keeps part k found.0 found.1 (parties_are action entry part found is)

    pub keeps_parties : PartiesKeep → (part : RoomPart) → Kept part → Kept (by_parties action change entry part)
    keeps_parties keeps part k = between_keeps keeps part k (parties action entry part) refl

-- ---- what the checks of the target tell

module _ (action : Action) (range : ℕ) (entry : Intent) (part : RoomPart) (creep target : Object) (hold : all_hold (target_checks (Some range) action (scene_with entry part creep target)) ≡ true) where
  abbrev Differ : Bool
  Differ = not (creep.id == target.id)

  may_be : (is_target action target.kind && (reaches_itself action || Differ)) ≡ true
  may_be = and_left (is_target action target.kind && (reaches_itself action || Differ)) (are_near range (Some (placed_in part creep)) (Some (placed_in part target)) && true) hold

  -- It is of a kind that the action has for targets.
  pub target_kind : is_target action target.kind ≡ true
  target_kind = and_left (is_target action target.kind) (reaches_itself action || Differ) may_be

  -- The creep is no target of its own.
  pub target_apart : reaches_itself action ≡ false → creep.id ≡ target.id → ⊥
  target_apart other same = differs (reaches_itself action) (creep.id == target.id) other (eq-eqb creep.id target.id same) (and_right (is_target action target.kind) (reaches_itself action || Differ) may_be)
    where
      differs : (a b : Bool) → a ≡ false → b ≡ true → (a || not b) ≡ true → ⊥
      differs true b one other is = absurd (cc)
      differs false true one other is = cc
      differs false false one other is = absurd (cc)
