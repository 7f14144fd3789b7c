-- What an entry does to objects, it does to objects that stand in its room.
use Rattle.std.proofs.Common.{◌≡◌, ℕ, ◌==◌, true, false, cond, if◌then◌else◌, List, [], ◌∷◌, map, Option, Some, None, refl, sym, subst, ◌∙◌, arith}
use Rattle.std.specs.List.{AllByRecursion, filter}
use Rattle.std.specs.FinMap.{get}
use Rattle.std.proofs.lemmas.Bool.{eqb-true}
use Rattle.std.proofs.lemmas.List.Sums.{sum_by-cons}
use Rattle.game_tables.specs.declared.action.Action.{Action}
use Rattle.game_tables.specs.declared.action.Action.TheVariants.{Heal, RangedHeal, Dismantle, Attack, RangedMassAttack, RangedAttack}
use Rattle.game_tables.specs.declared.kind.Kind.{Kind}
use Rattle.game_tables.specs.declared.kind.Kind.TheVariants.{Creep}
use Rattle.room_terrain.specs.declared.terrain.Ground.{Ground}
use Rattle.intent_book.specs.declared.intent.Intent.{Intent}
use Rattle.room_table.specs.declared.object.Object.{Object}
use Rattle.room_table.specs.Tables.{Table, IsRising, find_object}
use Rattle.world_rules.specs.RoomParts.{RoomPart, table_part}
use Rattle.world_rules.specs.RuleBook.{Harm}
use Rattle.world_rules.specs.Checks.{acting, parties}
use Rattle.world_rules.specs.Fights.{all_struck_by, attacked_by, harm_between, harm_by_parties, healed_by, is_struck, mass_blow, shot_by, struck_back, torn_by}
use Rattle.world_rules.specs.Tick.{harm_by, total_for}
use Rattle.world_rules.proofs.Checked.{parties_are}
use Rattle.world_rules.proofs.TableParts.{find_keyed, get_table_part, part_values}
use Rattle.room_rules.specs.RoomRules.{Holds}
use Rattle.room_rules.proofs.Rooms.{all_found}
use Rattle.room_rules.proofs.Sound.{found_id}

-- The objects of these ids stand in the part.
abbrev AreNamed : RoomPart → List (ℕ × ℕ) → Type 0
AreNamed part list = AllByRecursion (λ (entry : ℕ × ℕ). (o : Object) × Holds part entry.0 o) list

pub record IsNamed (part : RoomPart) (harm : Harm) : Type 0 where
  pub damage : AreNamed part harm.damage
  pub healing : AreNamed part harm.healing

-- What doesn't stand gets nothing.
pub total_none : (part : RoomPart) (list : List (ℕ × ℕ)) (id : ℕ) → AreNamed part list → get part.objects id ≡ None → total_for list id ≡ 0
total_none part [] id named none = refl
total_none part (entry ∷ list) id named none =
    let amount : ℕ × ℕ → ℕ = λ e. if e.0 == id then e.1 else 0 in
    let rest = total_none part list id named.1 none in
    let first : amount entry ≡ 0 = elim (entry.0 == id) as (λ b. (entry.0 == id) ≡ b → (if b then entry.1 else 0) ≡ 0) [
      | true ↦ λ same. (let here : Holds part id named.0.0 = subst (λ (n : ℕ). Holds part n named.0.0) (eqb-true entry.0 id same) named.0.1 in absurd cc)
      | false ↦ λ apart. refl
    ] refl in
    omega (arith, sum_by-cons amount entry list, first, rest)

module _ (grounds : List Ground) (table : Table) (rise : IsRising table.objects) where
  abbrev part : RoomPart
  part = table_part grounds table

  own : (id : ℕ) (o : Object) → Holds part id o → o.id ≡ id
  own id o h = found_id table.objects id o (find_keyed id table.objects ∙ sym (get_table_part grounds table id) ∙ h)

  -- ---- by the creep and the target

  struck_named : (kind : Kind) (actor : ℕ) (creep target : Object) → Holds part actor creep → AreNamed part (struck_back kind creep target)
  struck_named Creep actor creep target there = ((creep, subst (λ (n : ℕ). Holds part n creep) (sym (own actor creep there)) there), tt)
  struck_named kind actor creep target there = tt

  module _ (action : Action) (entry : Intent) (harm : Object → Object → Harm) (names : (creep target : Object) → Holds part entry.actor creep → Holds part entry.target target → IsNamed part (harm creep target)) where
    between_named : (found : Option (Object × Object)) → parties action entry part ≡ found → IsNamed part (harm_between harm found)
    between_named None is = record { damage = tt; healing = tt }
    between_named (Some found) is = let p = parties_are action entry part found is in names found.0 found.1 p.there p.at

    parties_named : IsNamed part (harm_by_parties action harm entry part)
    parties_named = between_named (parties action entry part) refl

  -- the target is named
  at_target : (id : ℕ) (target : Object) → Holds part id target → AreNamed part ((target.id, 0) ∷ [])
  at_target id target at = ((target, subst (λ (n : ℕ). Holds part n target) (sym (own id target at)) at), tt)

  -- ---- all around

  all_stand : AllByRecursion (λ o. Holds part o.id o) table.objects
  all_stand = all_found (λ o. Holds part o.id o) table.objects rise (λ id o found.
      subst (λ (n : ℕ). Holds part n o) (sym (found_id table.objects id o found)) (get_table_part grounds table id ∙ sym (find_keyed id table.objects) ∙ found))

  mass_named : (creep : Object) (objects : List Object) → AllByRecursion (λ o. Holds part o.id o) objects → AreNamed part (map (mass_blow creep) (filter (is_struck creep) objects))
  mass_named creep [] stand = tt
  mass_named creep (o ∷ objects) stand =
      elim (is_struck creep o) as (λ b. AreNamed part (map (mass_blow creep) (cond b (o ∷ filter (is_struck creep) objects) (filter (is_struck creep) objects)))) [
        | true ↦ ((o, stand.0), mass_named creep objects stand.1)
        | false ↦ mass_named creep objects stand.1
      ]

  around_named : (creep : Option Object) → IsNamed part (all_struck_by table.objects creep)
  around_named None = record { damage = tt; healing = tt }
  around_named (Some creep) = record { damage = mass_named creep table.objects all_stand; healing = tt }

  -- ---- all actions

  harm_named : (action : Action) (entry : Intent) → IsNamed part (harm_by action entry part)
  harm_named Heal entry = parties_named Heal entry (healed_by 12) (λ creep target there at. record { damage = tt; healing = at_target entry.target target at })
  harm_named RangedHeal entry = parties_named RangedHeal entry (healed_by 4) (λ creep target there at. record { damage = tt; healing = at_target entry.target target at })
  harm_named Dismantle entry = parties_named Dismantle entry torn_by (λ creep target there at. record { damage = at_target entry.target target at; healing = tt })
  harm_named Attack entry = parties_named Attack entry attacked_by (λ creep target there at.
      record { damage = ((at_target entry.target target at).0, struck_named target.kind entry.actor creep target there); healing = tt })
  harm_named RangedMassAttack entry = subst (λ (objects : List Object). IsNamed part (all_struck_by objects (acting RangedMassAttack entry part))) (sym (part_values grounds table rise)) (around_named (acting RangedMassAttack entry part))
  harm_named RangedAttack entry = parties_named RangedAttack entry shot_by (λ creep target there at. record { damage = at_target entry.target target at; healing = tt })
  harm_named _ entry = record { damage = tt; healing = tt }

  -- An entry does nothing to what doesn't stand.
  pub harm_absent : (action : Action) (entry : Intent) (id : ℕ) → find_object id table.objects ≡ None
      → (total_for (harm_by action entry part).damage id ≡ 0) × (total_for (harm_by action entry part).healing id ≡ 0)
  harm_absent action entry id none =
      let gone = get_table_part grounds table id ∙ none in
      let named = harm_named action entry in
      (total_none part (harm_by action entry part).damage id named.damage gone, total_none part (harm_by action entry part).healing id named.healing gone)
