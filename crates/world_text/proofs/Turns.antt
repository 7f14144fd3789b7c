-- A loop over the values of a list: what has been said so far, and the first fault of the list.
use Rattle.std.proofs.Common.{◌≡◌, ℕ, ◌+◌, ◌<◌, ◌≤◌, List, [], ◌∷◌, ◌++◌, map, length, take, drop, get_or, inl, inr, sym, ap, subst, ◌∙◌, arith}
use Rattle.std.proofs.lemmas.List.{take_more, take_all, drop_more, take-append-drop, length-map, length-take-le, map-append, map_push}
use Rattle.serde_json.specs.Data.{Data, Items, no_items}
use Rattle.serde_json.specs.View.{view, items_of, items_view}
use Rattle.serde_json.specs.declared.value.Value.{Value}
use Rattle.world_form.specs.declared.fault.WorldFault.{WorldFault}
use Rattle.world_form.specs.declared.field.Field.{Field}
use Rattle.world_form.specs.declared.field.Field.TheVariants as fields
use Rattle.world_form.specs.Facts.{Requires, Defaults, IsList, SayEach}
use Rattle.world_form.specs.FirstFaults.{Check, IsFirst, AllHold, each_from, optional, values_at, player_checks}
use Rattle.world_form.proofs.Checks.{each_hold}
use Rattle.world_form.proofs.Said.{values_there, values_nowhere}
use Rattle.world_form.proofs.Pushed.{each_said_push, each_first_push}
use Rattle.world_text.specs.inner.Readings.{list_checks}

front_more : (values : List Value) (i : ℕ) (v : Value) → i < length values → v ≡ get_or values i v → map view (take (i + 1) values) ≡ map view (take i values) ++ view v ∷ []
front_more values i v lt is = ap (map view) (take_more values i v lt) ∙ map_push view (take i values) (get_or values i v) ∙ ap (λ (w : Value). map view (take i values) ++ view w ∷ []) (sym is)

whole : (values : List Value) (i : ℕ) (v : Value) → i < length values → v ≡ get_or values i v → map view values ≡ map view (take i values) ++ view v ∷ map view (drop (i + 1) values)
whole values i v lt is =
    ap (map view) (sym (take-append-drop i values))
    ∙ map-append view (take i values) (drop i values)
    ∙ ap (λ (ws : List Value). map view (take i values) ++ map view ws) (drop_more values i v lt)
    ∙ ap (λ (w : Value). map view (take i values) ++ view w ∷ map view (drop (i + 1) values)) (sym is)

-- one value more
pub said_more : {A : Type 0} (Says : Data → A → Type 0) (values : List Value) (i : ℕ) (v : Value) (list : List A) (said : A) → i < length values → v ≡ get_or values i v
    → SayEach Says (items_view (take i values)) list → Says (view v) said → SayEach Says (items_view (take (i + 1) values)) (list ++ said ∷ [])
said_more Says values i v list said lt is so_far here =
    subst (λ (ds : List Data). SayEach Says (items_of ds) (list ++ said ∷ [])) (sym (front_more values i v lt is)) (each_said_push Says (map view (take i values)) list (view v) said so_far here)

-- all values
pub said_all : {A : Type 0} (Says : Data → A → Type 0) (values : List Value) (i : ℕ) (list : List A) → length values ≤ i → SayEach Says (items_view (take i values)) list → SayEach Says (items_view values) list
said_all Says values i list le so_far = subst (λ (vs : List Value). SayEach Says (items_view vs) list) (take_all i values le) so_far

-- the first fault of a value, where those before it have none
pub first_here : {A : Type 0} (Says : Data → A → Type 0) (checks : ℕ → Data → List Check) → ((place : ℕ) (value : Data) (said : A) → Says value said → AllHold (checks place value))
    → (values : List Value) (i : ℕ) (v : Value) (list : List A) (fault : WorldFault) → i < length values → v ≡ get_or values i v
    → SayEach Says (items_view (take i values)) list → IsFirst (checks i (view v)) fault → IsFirst (each_from checks 0 (items_view values)) fault
first_here Says checks hold values i v list fault lt is so_far here =
    let count : i ≡ 0 + length (map view (take i values)) = omega (arith, length-map (take i values) view, length-take-le i values (omega arith)) in
    subst (λ (ds : List Data). IsFirst (each_from checks 0 (items_of ds)) fault) (sym (whole values i v lt is))
    (each_first_push checks 0 (map view (take i values)) i (view v) (map view (drop (i + 1) values)) fault count (each_hold Says checks hold 0 (items_view (take i values)) list so_far) here)

-- ---- the list at a key

-- a fault of the list that must be there is that of its values
pub list_fault : (field : Field) (checks : ℕ → Data → List Check) (place : ℕ) (part : Data) (values : Items) (fault : WorldFault) → Requires field IsList part values → IsFirst (each_from checks 0 values) fault → IsFirst (list_checks field checks place part) fault
list_fault field checks place part values fault there first =
    inr ((values, there), subst (λ (vs : Items). IsFirst (each_from checks 0 vs) fault) (sym (values_there field part there.0 values there.1 there.2)) first)

-- a fault of the list that may be absent is, too
pub players_fault : (part : Data) (values : Items) (fault : WorldFault) → Defaults fields.Players IsList no_items part values → IsFirst (each_from player_checks 0 values) fault
    → IsFirst (optional fields.Players IsList 0 part ∷ each_from player_checks 0 (values_at fields.Players part)) fault
players_fault part values fault (inl there) first =
    inr (inl (values, there), subst (λ (vs : Items). IsFirst (each_from player_checks 0 vs) fault) (sym (values_there fields.Players part there.0 values there.1 there.2)) first)
players_fault part values fault (inr absent) first =
    inr (inr absent.0, subst (λ (vs : Items). IsFirst (each_from player_checks 0 vs) fault) (absent.1 ∙ sym (values_nowhere fields.Players part absent.0)) first)
