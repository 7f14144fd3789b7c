-- The entries that count, and their order, room by room.
use Rattle.std.proofs.Common.{◌≡◌, ℕ, ◌/◌, ◌==◌, ◌&&◌, not, if◌then◌else◌, Bool, true, false, cond, List, [], ◌∷◌, Option, Some, None, option_map, option_and_then, refl, sym, ap, subst, ◌∙◌, is_some}
use Rattle.std.specs.Prelude.{nat_lt}
use Rattle.std.specs.List.{filter, list_any}
use Rattle.std.specs.FinMap.{get, contains_key}
use Rattle.std.proofs.lemmas.Bool.{eqb-true, and_parts}
use Rattle.std.proofs.lemmas.Map.Views.{any-filter_same}
use Rattle.game_tables.specs.Actions.{action_number, dominates}
use Rattle.game_tables.specs.declared.action.Action.{Action}
use Rattle.game_tables.specs.declared.action.Action.TheVariants as actions
use Rattle.intent_book.specs.declared.intent.Intent.{Intent}
use Rattle.world_rules.specs.World.{Placed, Frame, World, alone}
use Rattle.world_rules.specs.RoomParts.{part_of}
use Rattle.world_rules.specs.RoomTick.{fits_room, kept_in}
use Rattle.world_rules.specs.Intents.{names_tile, is_at, is_in, those_in, acts_for, fits, same_entry, last_of_each, overrules, undropped, kept, in_order, entries_of}
use Rattle.world_rules.proofs.Parts.{only, get_objects_in, room_alone}
use Rattle.room_commutes.proofs.Courses.{actor_alone}
use Rattle.room_commutes.proofs.Order.{filter_in_order}

-- ---- filters

filter_step : {A : Type 0} (x : A) (list : List A) (b c : Bool) (p q : A → Bool) → p x ≡ b → q x ≡ c → filter p (cond c (x ∷ list) list) ≡ cond (b && c) (x ∷ filter p list) (filter p list)
filter_step x list true true p q is at = ap (λ t. cond t (x ∷ filter p list) (filter p list)) is
filter_step x list false true p q is at = ap (λ t. cond t (x ∷ filter p list) (filter p list)) is
filter_step x list true false p q is at = refl
filter_step x list false false p q is at = refl

swap : (b c : Bool) → (b && c) ≡ (c && b)
swap true true = refl
swap true false = refl
swap false true = refl
swap false false = refl

filters_commute : {A : Type 0} (p q : A → Bool) (list : List A) → filter p (filter q list) ≡ filter q (filter p list)
filters_commute p q [] = refl
filters_commute p q (x ∷ list) =
    filter_step x (filter q list) (p x) (q x) p q refl refl
    ∙ (λ i. cond (swap (p x) (q x) i) (x ∷ filters_commute p q list i) (filters_commute p q list i))
    ∙ sym (filter_step x (filter p list) (q x) (p x) q p refl refl)

-- tests that agree where another passes
pub filters_agree : {A : Type 0} (p r q : A → Bool) → ((x : A) → q x ≡ true → p x ≡ r x) → (list : List A) → filter p (filter q list) ≡ filter r (filter q list)
filters_agree p r q alike [] = refl
filters_agree p r q alike (x ∷ list) =
    let rest = filters_agree p r q alike list in
    elim (q x) as (λ b. q x ≡ b → filter p (cond b (x ∷ filter q list) (filter q list)) ≡ filter r (cond b (x ∷ filter q list) (filter q list))) [
      | true ↦ λ is. λ i. cond (alike x is i) (x ∷ rest i) (rest i)
      | false ↦ λ is. rest
    ] refl

-- ---- what names a tile

pub tile_number : (action : Action) → names_tile action ≡ (action_number action == 19)
tile_number actions.CreateSite = refl
tile_number _ = refl

tile_is : (action : Action) → names_tile action ≡ true → action ≡ actions.CreateSite
tile_is actions.CreateSite is = refl
tile_is _ is = absurd (cc)

drops_none : (action : Action) → dominates actions.CreateSite action ≡ false
drops_none actions.CreateSite = refl
drops_none _ = refl

none_drops : (action : Action) → dominates action actions.CreateSite ≡ false
none_drops actions.CreateSite = refl
none_drops _ = refl

drops_alike : (one other : Action) → dominates one other ≡ true → names_tile one ≡ names_tile other
drops_alike one other is =
    elim (names_tile one) as (λ b. names_tile one ≡ b → b ≡ names_tile other) [
      | true ↦ λ at. let no : dominates one other ≡ false = subst (λ (a : Action). dominates a other ≡ false) (sym (tile_is one at)) (drops_none other) in absurd (cc)
      | false ↦ λ at. elim (names_tile other) as (λ c. names_tile other ≡ c → false ≡ c) [
        | true ↦ λ to. let no : dominates one other ≡ false = subst (λ (a : Action). dominates one a ≡ false) (sym (tile_is other to)) (none_drops one) in absurd (cc)
        | false ↦ λ to. refl
      ] refl
    ] refl

-- ---- entries of one actor are in one room

module _ (world : World) (k : ℕ) where
  is_in_same : (one other : Intent) → names_tile one.action ≡ names_tile other.action → one.actor ≡ other.actor → is_in world k one ≡ is_in world k other
  is_in_same one other tile actor = λ i. is_at k (if tile i then Some (actor i / 2500) else option_map (λ placed. placed.room) (get world.objects (actor i)))

  same_entry_in : (one other : Intent) → same_entry one other ≡ true → is_in world k other ≡ is_in world k one
  same_entry_in one other is =
      let parts = and_parts (one.player == other.player && action_number one.action == action_number other.action) (one.actor == other.actor) is in
      let first = and_parts (one.player == other.player) (action_number one.action == action_number other.action) parts.0 in
      let number : action_number one.action ≡ action_number other.action = eqb-true _ _ first.1 in
      sym (is_in_same one other (tile_number one.action ∙ ap (λ n. n == 19) number ∙ sym (tile_number other.action)) (eqb-true _ _ parts.1))

  dominates_in : (one other : Intent) → overrules one other ≡ true → is_in world k one ≡ is_in world k other
  dominates_in one other is =
      let parts = and_parts ((one.player == other.player) && (one.actor == other.actor)) (dominates one.action other.action) is in
      let first = and_parts (one.player == other.player) (one.actor == other.actor) parts.0 in
      is_in_same one other (drops_alike one.action other.action parts.1) (eqb-true _ _ first.1)

  -- ---- the entries that count

  fits_alone : (entry : Intent) → is_in world k entry ≡ true → fits (alone world k) entry ≡ fits world entry
  fits_alone entry is =
      ap (λ b. nat_lt 0 entry.player && b) (
      elim (names_tile entry.action) as (λ b. names_tile entry.action ≡ b → (if b then contains_key (alone world k).rooms (entry.actor / 2500) else acts_for entry (option_map (λ placed. placed.object) (get (alone world k).objects entry.actor))) ≡ (if b then contains_key world.rooms (entry.actor / 2500) else acts_for entry (option_map (λ placed. placed.object) (get world.objects entry.actor)))) [
        | true ↦ λ tile.
            let at : (entry.actor / 2500 == k) ≡ true = subst (λ (b : Bool). is_at k (if b then Some (entry.actor / 2500) else option_map (λ placed. placed.room) (get world.objects entry.actor)) ≡ true) tile is in
            ap is_some (room_alone world k (entry.actor / 2500) ∙ ap (λ (b : Bool). cond b (get world.rooms (entry.actor / 2500)) None) at)
        | false ↦ λ object. ap (λ found. acts_for entry (option_map (λ (placed : Placed). placed.object) found)) (actor_alone world k entry object is)
      ] refl)

  those_fit : (list : List Intent) → those_in world k (filter (fits world) list) ≡ filter (fits (alone world k)) (those_in world k list)
  those_fit list = filters_commute (is_in world k) (fits world) list ∙ sym (filters_agree (fits (alone world k)) (fits world) (is_in world k) fits_alone list)

  any_here : (test : Intent → Bool) (b : Bool) → ((one : Intent) → test one ≡ true → is_in world k one ≡ true) → (list : List Intent) → list_any test (those_in world k list) ≡ list_any test list
  any_here test b here list = any-filter_same test (is_in world k) true here list

  those_last : (list : List Intent) → those_in world k (last_of_each list) ≡ last_of_each (those_in world k list)
  those_last [] = refl
  those_last (entry ∷ later) =
      let rest = those_last later in
      elim (is_in world k entry) as (λ b. is_in world k entry ≡ b → those_in world k (last_of_each (entry ∷ later)) ≡ last_of_each (cond b (entry ∷ those_in world k later) (those_in world k later))) [
        | true ↦ λ is.
            let any : list_any (same_entry entry) (those_in world k later) ≡ list_any (same_entry entry) later = any_here (same_entry entry) true (λ other same. same_entry_in entry other same ∙ is) later in
            elim (list_any (same_entry entry) later) as (λ c. those_in world k (if c then last_of_each later else entry ∷ last_of_each later) ≡ (if c then last_of_each (those_in world k later) else entry ∷ last_of_each (those_in world k later))) [
              | true ↦ rest
              | false ↦ ap (λ b. cond b (entry ∷ those_in world k (last_of_each later)) (those_in world k (last_of_each later))) is ∙ ap (λ list. entry ∷ list) rest
            ] ∙ sym (ap (λ c. if c then last_of_each (those_in world k later) else entry ∷ last_of_each (those_in world k later)) any)
        | false ↦ λ is. elim (list_any (same_entry entry) later) as (λ c. those_in world k (if c then last_of_each later else entry ∷ last_of_each later) ≡ last_of_each (those_in world k later)) [
          | true ↦ rest
          | false ↦ ap (λ b. cond b (entry ∷ those_in world k (last_of_each later)) (those_in world k (last_of_each later))) is ∙ rest
        ]
      ] refl

  those_undropped : (list : List Intent) → those_in world k (undropped list) ≡ undropped (those_in world k list)
  those_undropped list =
      let stays : List Intent → Intent → Bool = λ standing entry. not (list_any (λ one. overrules one entry) standing) in
      filters_commute (is_in world k) (stays list) list
      ∙ filters_agree (stays list) (stays (those_in world k list)) (is_in world k) (λ entry is. ap not (sym (any_here (λ one. overrules one entry) true (λ one drop. dominates_in one entry drop ∙ is) list))) list

  -- the entries of a room that count are those that count in the world that has it alone
  pub kept_alone : (list : List Intent) → kept (alone world k) (those_in world k list) ≡ those_in world k (kept world list)
  kept_alone list =
      sym (
      those_undropped (last_of_each (filter (fits world) list))
      ∙ ap undropped (those_last (filter (fits world) list) ∙ ap last_of_each (those_fit list)))

  pub those_of : (action : Action) (list : List Intent) → entries_of action (those_in world k list) ≡ those_in world k (entries_of action list)
  those_of action list =
      let kind : Intent → Bool = λ entry. action_number entry.action == action_number action in
      ap in_order (filters_commute kind (is_in world k) list) ∙ sym (filter_in_order (is_in world k) (filter kind list))

  -- ---- as the room's part tells

  acts_here : (entry : Intent) (b : Bool) (found : Option Placed) → (b && acts_for entry (option_and_then (only k) found)) ≡ (is_at k (option_map (λ placed. placed.room) found) && (b && acts_for entry (option_map (λ placed. placed.object) found)))
  acts_here entry b None = swap b false
  acts_here entry b (Some p) =
      elim (p.room == k) as (λ c. (b && acts_for entry (if c then Some p.object else None)) ≡ (c && (b && acts_for entry (Some p.object)))) [ true ↦ refl | false ↦ swap b false ]

  module _ (frame : Frame) (is : get world.rooms k ≡ Some frame) where
    has_room : (index : ℕ) → (index == k) ≡ true → contains_key world.rooms index ≡ true
    has_room index at = ap is_some (ap (get world.rooms) (eqb-true index k at) ∙ is)

    fits_here : (entry : Intent) → fits_room (part_of world k frame) entry ≡ (is_in world k entry && fits world entry)
    fits_here entry =
        let b : Bool = nat_lt 0 entry.player in
        elim (names_tile entry.action) as (λ t. (b && (if t then entry.actor / 2500 == k else acts_for entry (get (part_of world k frame).objects entry.actor))) ≡ (is_at k (if t then Some (entry.actor / 2500) else option_map (λ placed. placed.room) (get world.objects entry.actor)) && (b && (if t then contains_key world.rooms (entry.actor / 2500) else acts_for entry (option_map (λ placed. placed.object) (get world.objects entry.actor)))))) [
          | true ↦ elim (entry.actor / 2500 == k) as (λ c. (entry.actor / 2500 == k) ≡ c → (b && c) ≡ (c && (b && contains_key world.rooms (entry.actor / 2500)))) [
            | true ↦ λ at. ap (λ c. b && c) (sym (has_room (entry.actor / 2500) at))
            | false ↦ λ at. swap b false
          ] refl
          | false ↦ ap (λ found. b && acts_for entry found) (get_objects_in world k entry.actor) ∙ acts_here entry b (get world.objects entry.actor)
        ]

    filter_both : (list : List Intent) → filter (is_in world k) (filter (fits world) list) ≡ filter (fits_room (part_of world k frame)) list
    filter_both [] = refl
    filter_both (entry ∷ list) =
        filter_step entry (filter (fits world) list) (is_in world k entry) (fits world entry) (is_in world k) (fits world) refl refl
        ∙ (λ i. cond (sym (fits_here entry) i) (entry ∷ filter_both list i) (filter_both list i))

    -- the entries of a room that count are those that its part tells
    pub kept_here : (list : List Intent) → those_in world k (kept world list) ≡ kept_in (part_of world k frame) list
    kept_here list = those_undropped (last_of_each (filter (fits world) list)) ∙ ap undropped (those_last (filter (fits world) list) ∙ ap last_of_each (filter_both list))
