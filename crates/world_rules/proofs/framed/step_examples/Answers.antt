-- What steps over objects make of a room in worked examples.
use Rattle.std.proofs.Common.{◌≡◌, ℕ, ◌+◌, T, List, [], ◌∷◌, map, Some, refl, ap, ◌∙◌}
use Rattle.std.specs.Ordering.{nat_cmp}
use Rattle.std.specs.Cmp.{nat_cmp_total}
use Rattle.std.specs.FinMap.{find, put, from_entries, get-from_entries, is_sorted}
use Rattle.room_table.specs.declared.object.Object.{Object}
use Rattle.world_rules.specs.RoomParts.{RoomPart}
use Rattle.world_rules.specs.Changes.{put as put_object, with_object, without}
use Rattle.world_rules.specs.Steps.{by_object, over_ids, over_objects}
use Rattle.world_rules.specs.FrameExamples.{creep_with, takes_next, given, gives_next, makes_another}
use Rattle.world_rules.proofs.Keys.{entries_of_sorted}
use Rattle.world_rules.proofs.Listed.{insert_listed, but, remove_listed, risen_listed}
use Rattle.world_rules.proofs.framed.step_examples.Goals as goal

-- a room of these entries
abbrev room : ℕ → List (ℕ × Object) → RoomPart
room next es = record { rules = 1; index = 0; grounds = []; next = next; objects = from_entries es }

-- a step goes over the ids of the list
begins : (change : Object → RoomPart → RoomPart) (next : ℕ) (es : List (ℕ × Object)) → T (is_sorted nat_cmp es) → over_objects change (room next es) ≡ over_ids change (map (λ e. e.0) es) (room next es)
begins change next es rise = ap (λ (list : List (ℕ × Object)). over_ids change (map (λ e. e.0) list) (room next es)) (entries_of_sorted es rise)

-- the turn of an id
turn : (change : Object → RoomPart → RoomPart) (id : ℕ) (later : List ℕ) (next : ℕ) (es : List (ℕ × Object)) → over_ids change (id ∷ later) (room next es) ≡ over_ids change later (by_object change (room next es) (find nat_cmp id es))
turn change id later next es = ap (λ found. over_ids change later (by_object change (room next es) found)) (get-from_entries nat_cmp_total es id)

less : (id next : ℕ) (es : List (ℕ × Object)) → without id (room next es) ≡ room next (but id es)
less id next es = λ i. record { rules = 1; index = 0; grounds = []; next = next; objects = remove_listed es id i }

with_other : (object old : Object) (next : ℕ) (es : List (ℕ × Object)) → find nat_cmp object.id es ≡ Some old → with_object object (room next es) ≡ room next (put nat_cmp object.id object es)
with_other object old next es is =
    ap (put_object object (room next es)) (get-from_entries nat_cmp_total es object.id ∙ is)
    ∙ (λ i. record { rules = 1; index = 0; grounds = []; next = next; objects = insert_listed es object.id object i })

gives : (object : Object) (next : ℕ) (es : List (ℕ × Object)) → gives_next object (room next es) ≡ given object.energy (room next es) (find nat_cmp (object.id + 1) es)
gives object next es = ap (given object.energy (room next es)) (get-from_entries nat_cmp_total es (object.id + 1))

-- ---- the examples

abbrev creep : ℕ → ℕ → ℕ × Object
creep id energy = (id, creep_with id energy)

pub returns-clause-gone : goal.returns-clause-gone
returns-clause-gone c =
    let es : List (ℕ × Object) = creep 1 0 ∷ creep 2 0 ∷ creep 3 0 ∷ [] in
    begins takes_next 4 es tt
    ∙ turn takes_next 1 (2 ∷ 3 ∷ []) 4 es
    ∙ ap (over_ids takes_next (2 ∷ 3 ∷ [])) (less 2 4 es)
    ∙ turn takes_next 2 (3 ∷ []) 4 (but 2 es)
    ∙ turn takes_next 3 [] 4 (but 2 es)
    ∙ less 4 4 (but 2 es)

gives_in_turn : over_objects gives_next (room 4 (creep 1 1 ∷ creep 2 2 ∷ creep 3 4 ∷ [])) ≡ room 4 (creep 1 1 ∷ creep 2 3 ∷ creep 3 7 ∷ [])
gives_in_turn =
    let es : List (ℕ × Object) = creep 1 1 ∷ creep 2 2 ∷ creep 3 4 ∷ [] in
    let second : List (ℕ × Object) = creep 1 1 ∷ creep 2 3 ∷ creep 3 4 ∷ [] in
    let third : List (ℕ × Object) = creep 1 1 ∷ creep 2 3 ∷ creep 3 7 ∷ [] in
    begins gives_next 4 es tt
    ∙ turn gives_next 1 (2 ∷ 3 ∷ []) 4 es
    ∙ ap (over_ids gives_next (2 ∷ 3 ∷ [])) (gives (creep_with 1 1) 4 es ∙ with_other (creep_with 2 3) (creep_with 2 2) 4 es refl)
    ∙ turn gives_next 2 (3 ∷ []) 4 second
    ∙ ap (over_ids gives_next (3 ∷ [])) (gives (creep_with 2 3) 4 second ∙ with_other (creep_with 3 7) (creep_with 3 4) 4 second refl)
    ∙ turn gives_next 3 [] 4 third
    ∙ gives (creep_with 3 7) 4 third

pub returns-clause-as_left : goal.returns-clause-as_left
returns-clause-as_left c = gives_in_turn

pub returns-clause-rising : goal.returns-clause-rising
returns-clause-rising c =
    let es : List (ℕ × Object) = creep 3 4 ∷ creep 1 1 ∷ creep 2 2 ∷ [] in
    (λ i. over_objects gives_next (record { rules = 1; index = 0; grounds = []; next = 4; objects = risen_listed es i })) ∙ gives_in_turn

pub returns-clause-made : goal.returns-clause-made
returns-clause-made c =
    let es : List (ℕ × Object) = creep 1 0 ∷ creep 2 0 ∷ [] in
    let more : List (ℕ × Object) = creep 1 0 ∷ creep 2 0 ∷ creep 3 0 ∷ [] in
    begins makes_another 3 es tt
    ∙ turn makes_another 1 (2 ∷ []) 3 es
    ∙ (λ i. over_ids makes_another (2 ∷ []) (record { rules = 1; index = 0; grounds = []; next = 4; objects = insert_listed es 3 (creep_with 3 0) i }))
    ∙ turn makes_another 2 [] 4 more
    ∙ (λ i. record { rules = 1; index = 0; grounds = []; next = 5; objects = insert_listed more 4 (creep_with 4 0) i })
