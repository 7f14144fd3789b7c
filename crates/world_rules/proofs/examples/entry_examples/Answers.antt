-- What the definitions of which entries count give in worked examples.
use Rattle.std.proofs.Common.{◌≡◌, ℕ, ◌/◌, ◌&&◌, Bool, cond, nat_lt, List, [], ◌∷◌, Option, Some, None, is_some, option_map, refl, ap, ◌∙◌}
use Rattle.std.specs.List.{filter}
use Rattle.std.specs.Cmp.{nat_cmp_total}
use Rattle.std.specs.FinMap.{get, get-from_entries}
use Rattle.game_tables.specs.declared.action.Action.TheVariants.{DropLoad, CreateSite, RemoveSite, SpawnCreep}
use Rattle.game_tables.specs.declared.kind.Kind.{Kind}
use Rattle.game_tables.specs.declared.kind.Kind.TheVariants as kinds
use Rattle.intent_book.specs.declared.intent.Intent.{Intent}
use Rattle.world_rules.specs.World.{Frame, Placed}
use Rattle.world_rules.specs.Intents.{acts_for, fits, last_of_each, undropped}
use Rattle.world_rules.specs.Examples.{entry_of, object_of, one_room}
use Rattle.world_rules.proofs.examples.entry_examples.Goals as goal

-- the object of this id, kind and owner in the room
abbrev in_it : ℕ → Kind → ℕ → ℕ × Placed
in_it id kind owner = (id, record { room = 0; object = object_of id kind owner })

abbrev all_of_it : List (ℕ × Placed)
all_of_it = in_it 3 kinds.Creep 1 ∷ in_it 5 kinds.Creep 2 ∷ in_it 6 kinds.Site 1 ∷ in_it 7 kinds.Spawn 1 ∷ in_it 8 kinds.Source 0 ∷ []

abbrev fitting : Frame → List Intent → List Intent
fitting frame intents = filter (fits (one_room frame)) intents

-- of entries those that fit: the first where it does, and those of the later ones
first_of : (frame : Frame) (intent : Intent) (later those : List Intent) (does : Bool) → fits (one_room frame) intent ≡ does → fitting frame later ≡ those → fitting frame (intent ∷ later) ≡ cond does (intent ∷ those) those
first_of frame intent later those does is rest =
    ap (λ (b : Bool). cond b (intent ∷ fitting frame later) (fitting frame later)) is ∙ ap (λ (list : List Intent). cond does (intent ∷ list) list) rest

drop_first : (frame : Frame) (player actor amount : ℕ) (there : Option Placed) (later those : List Intent) → get (one_room frame).objects actor ≡ there → fitting frame later ≡ those
    → fitting frame (entry_of player DropLoad actor amount ∷ later) ≡ cond (nat_lt 0 player && acts_for (entry_of player DropLoad actor amount) (option_map (λ placed. placed.object) there)) (entry_of player DropLoad actor amount ∷ those) those
drop_first frame player actor amount there later those is rest =
    first_of frame (entry_of player DropLoad actor amount) later those (nat_lt 0 player && acts_for (entry_of player DropLoad actor amount) (option_map (λ placed. placed.object) there)) (ap (λ (o : Option Placed). nat_lt 0 player && acts_for (entry_of player DropLoad actor amount) (option_map (λ placed. placed.object) o)) is) rest

removal_first : (frame : Frame) (actor : ℕ) (there : Option Placed) (later those : List Intent) → get (one_room frame).objects actor ≡ there → fitting frame later ≡ those
    → fitting frame (entry_of 1 RemoveSite actor 0 ∷ later) ≡ cond (acts_for (entry_of 1 RemoveSite actor 0) (option_map (λ placed. placed.object) there)) (entry_of 1 RemoveSite actor 0 ∷ those) those
removal_first frame actor there later those is rest =
    first_of frame (entry_of 1 RemoveSite actor 0) later those (acts_for (entry_of 1 RemoveSite actor 0) (option_map (λ placed. placed.object) there)) (ap (λ (o : Option Placed). nat_lt 0 1 && acts_for (entry_of 1 RemoveSite actor 0) (option_map (λ placed. placed.object) o)) is) rest

spawn_first : (frame : Frame) (actor : ℕ) (there : Option Placed) (later those : List Intent) → get (one_room frame).objects actor ≡ there → fitting frame later ≡ those
    → fitting frame (entry_of 1 SpawnCreep actor 0 ∷ later) ≡ cond (acts_for (entry_of 1 SpawnCreep actor 0) (option_map (λ placed. placed.object) there)) (entry_of 1 SpawnCreep actor 0 ∷ those) those
spawn_first frame actor there later those is rest =
    first_of frame (entry_of 1 SpawnCreep actor 0) later those (acts_for (entry_of 1 SpawnCreep actor 0) (option_map (λ placed. placed.object) there)) (ap (λ (o : Option Placed). nat_lt 0 1 && acts_for (entry_of 1 SpawnCreep actor 0) (option_map (λ placed. placed.object) o)) is) rest

site_first : (frame : Frame) (actor : ℕ) (there : Option Frame) (later those : List Intent) → get (one_room frame).rooms (actor / 2500) ≡ there → fitting frame later ≡ those
    → fitting frame (entry_of 1 CreateSite actor 0 ∷ later) ≡ cond (is_some there) (entry_of 1 CreateSite actor 0 ∷ those) those
site_first frame actor there later those is rest = first_of frame (entry_of 1 CreateSite actor 0) later those (is_some there) (ap is_some is) rest

-- ---- the objects of the room

mine : (frame : Frame) → get (one_room frame).objects 3 ≡ Some (in_it 3 kinds.Creep 1).1
mine frame = get-from_entries nat_cmp_total all_of_it 3

anothers : (frame : Frame) → get (one_room frame).objects 5 ≡ Some (in_it 5 kinds.Creep 2).1
anothers frame = get-from_entries nat_cmp_total all_of_it 5

site : (frame : Frame) → get (one_room frame).objects 6 ≡ Some (in_it 6 kinds.Site 1).1
site frame = get-from_entries nat_cmp_total all_of_it 6

spawn : (frame : Frame) → get (one_room frame).objects 7 ≡ Some (in_it 7 kinds.Spawn 1).1
spawn frame = get-from_entries nat_cmp_total all_of_it 7

source : (frame : Frame) → get (one_room frame).objects 8 ≡ Some (in_it 8 kinds.Source 0).1
source frame = get-from_entries nat_cmp_total all_of_it 8

nothing : (frame : Frame) → get (one_room frame).objects 9 ≡ None
nothing frame = get-from_entries nat_cmp_total all_of_it 9

-- ---- the examples

pub returns-clause-actors : goal.returns-clause-actors
returns-clause-actors c = λ frame.
    let theirs = drop_first frame 2 5 6 (Some (in_it 5 kinds.Creep 2).1) [] [] (anothers frame) refl in
    let those : List Intent = entry_of 2 DropLoad 5 6 ∷ [] in
    let nobodys = drop_first frame 0 8 5 (Some (in_it 8 kinds.Source 0).1) (entry_of 2 DropLoad 5 6 ∷ []) those (source frame) theirs in
    let lacking = drop_first frame 1 9 4 None (entry_of 0 DropLoad 8 5 ∷ entry_of 2 DropLoad 5 6 ∷ []) those (nothing frame) nobodys in
    let no_creep = drop_first frame 1 8 3 (Some (in_it 8 kinds.Source 0).1) (entry_of 1 DropLoad 9 4 ∷ entry_of 0 DropLoad 8 5 ∷ entry_of 2 DropLoad 5 6 ∷ []) those (source frame) lacking in
    let foreign = drop_first frame 1 5 2 (Some (in_it 5 kinds.Creep 2).1) (entry_of 1 DropLoad 8 3 ∷ entry_of 1 DropLoad 9 4 ∷ entry_of 0 DropLoad 8 5 ∷ entry_of 2 DropLoad 5 6 ∷ []) those (anothers frame) no_creep in
    ap (λ list. undropped (last_of_each list)) (drop_first frame 1 3 1 (Some (in_it 3 kinds.Creep 1).1) (entry_of 1 DropLoad 5 2 ∷ entry_of 1 DropLoad 8 3 ∷ entry_of 1 DropLoad 9 4 ∷ entry_of 0 DropLoad 8 5 ∷ entry_of 2 DropLoad 5 6 ∷ []) those (mine frame) foreign)

pub returns-clause-removals : goal.returns-clause-removals
returns-clause-removals c = λ frame.
    let own = removal_first frame 6 (Some (in_it 6 kinds.Site 1).1) [] [] (site frame) refl in
    ap (λ list. undropped (last_of_each list)) (removal_first frame 3 (Some (in_it 3 kinds.Creep 1).1) (entry_of 1 RemoveSite 6 0 ∷ []) (entry_of 1 RemoveSite 6 0 ∷ []) (mine frame) own)

pub returns-clause-spawns : goal.returns-clause-spawns
returns-clause-spawns c = λ frame.
    let creeps = spawn_first frame 3 (Some (in_it 3 kinds.Creep 1).1) [] [] (mine frame) refl in
    ap (λ list. undropped (last_of_each list)) (spawn_first frame 7 (Some (in_it 7 kinds.Spawn 1).1) (entry_of 1 SpawnCreep 3 0 ∷ []) [] (spawn frame) creeps)

pub returns-clause-sites : goal.returns-clause-sites
returns-clause-sites c = λ frame.
    let other = site_first frame 2500 None [] [] (get-from_entries nat_cmp_total ((0, frame) ∷ []) 1) refl in
    ap (λ list. undropped (last_of_each list)) (site_first frame 2499 (Some frame) (entry_of 1 CreateSite 2500 0 ∷ []) [] (get-from_entries nat_cmp_total ((0, frame) ∷ []) 0) other)

pub returns-clause-repeated : goal.returns-clause-repeated
returns-clause-repeated c = λ frame.
    let second = drop_first frame 1 3 2 (Some (in_it 3 kinds.Creep 1).1) [] [] (mine frame) refl in
    ap (λ list. undropped (last_of_each list)) (drop_first frame 1 3 1 (Some (in_it 3 kinds.Creep 1).1) (entry_of 1 DropLoad 3 2 ∷ []) (entry_of 1 DropLoad 3 2 ∷ []) (mine frame) second)
