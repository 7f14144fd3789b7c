-- Lists of objects at the front of the same bytes.
use Rattle.std.proofs.Common.{◌≡◌, ◌↔◌, ℕ, zero, suc, true, slice_get, Some, ◌-◌, ◌<◌, ◌≤◌, List, [], ◌∷◌, ◌++◌, length, sym, subst, ap, ◌∙◌, refl, arith, append_assoc, length-append}
use Rattle.std.proofs.lemmas.Bool.{ltb-true, lt-ltb}
use Rattle.std.proofs.lemmas.List.{append-nil}
use Rattle.std.proofs.Math.Dec.{ltb}
use Rattle.std.specs.List.{AllByRecursion, flat_map}
use Rattle.room_table.specs.Tables.{IsRising}
use Rattle.room_table.specs.declared.object.Object.{Object}
use Rattle.object_store.proofs.Accounts.{all_push}
use Rattle.world_bytes.specs.Forms.{HasObjectForm, object_bytes}
use Rattle.world_bytes.specs.inner.Rows.{AreObjects, Leads, LeadsNone, object_row, objects_row}
use Rattle.world_bytes.proofs.Fields.{object_one}

-- The list goes on behind the objects that were read, and the bytes behind them are those of its rest.
pub record Goes (read list : List Object) (left rest : List ℕ) : Type 0 where
  pub more : List Object
  pub whole : list ≡ read ++ more
  pub forms : AllByRecursion HasObjectForm more
  pub behind : left ≡ objects_row more rest

pub goes_on : (read list : List Object) (bytes left rest : List ℕ) → length read ≤ length list → AllByRecursion HasObjectForm read → AllByRecursion HasObjectForm list → bytes ≡ objects_row read left → bytes ≡ objects_row list rest → Goes read list left rest
goes_on [] list bytes left rest most p q e f = record { more = list; whole = refl; forms = q; behind = sym e ∙ f }
goes_on (x ∷ read) [] bytes left rest most p q e f = absurd (omega arith)
goes_on (x ∷ read) (y ∷ list) bytes left rest most p q e f =
    let one = object_one x y bytes (objects_row read left) (objects_row list rest) p.0 q.0 (e ∙ append_assoc (object_bytes x) (flat_map object_bytes read) left) (f ∙ append_assoc (object_bytes y) (flat_map object_bytes list) rest) in
    let go = goes_on read list (objects_row read left) left rest (omega arith) p.1 q.1 refl one.1 in
    record {
      more = go.more;
      whole = ap (λ (z : Object). z ∷ list) (sym one.0) ∙ ap (λ (z : List Object). x ∷ z) go.whole;
      forms = go.forms;
      behind = go.behind;
    }

-- a list of the same length does not go on
no_more : (read list more : List Object) (left rest : List ℕ) → length read ≡ length list → list ≡ read ++ more → left ≡ objects_row more rest → (read ≡ list) × (left ≡ rest)
no_more read list [] left rest same e f = (sym (e ∙ append-nil read), f)
no_more read list (z ∷ zs) left rest same e f = absurd (omega (arith, ap length e, length-append read (z ∷ zs)))

-- two lists of one length at the front of the same bytes are one
pub objects_one : (one other : List Object) (bytes left rest : List ℕ) → length one ≡ length other → AllByRecursion HasObjectForm one → AllByRecursion HasObjectForm other → bytes ≡ objects_row one left → bytes ≡ objects_row other rest → (one ≡ other) × (left ≡ rest)
objects_one one other bytes left rest same p q e f =
    let go = goes_on one other bytes left rest (omega arith) p q e f in
    no_more one other go.more left rest same go.whole go.behind

-- What stands behind the objects that were read, of a list that has more of them.
pub record Next (read list : List Object) (left rest : List ℕ) : Type 0 where
  pub object : Object
  pub more : List Object
  pub whole : list ≡ read ++ object ∷ more
  pub form : HasObjectForm object
  pub behind : left ≡ object_row object (objects_row more rest)

next_of : (read list more : List Object) (left rest : List ℕ) → length read < length list → list ≡ read ++ more → AllByRecursion HasObjectForm more → left ≡ objects_row more rest → Next read list left rest
next_of read list [] left rest less e p f = absurd (omega (arith, ap length e, length-append read []))
next_of read list (z ∷ zs) left rest less e p f =
    record { object = z; more = zs; whole = e; form = p.0; behind = f ∙ append_assoc (object_bytes z) (flat_map object_bytes zs) rest }

pub goes_next : (count : ℕ) (read list : List Object) (bytes left rest : List ℕ) → length read < count → AllByRecursion HasObjectForm read → AreObjects count list → bytes ≡ objects_row read left → bytes ≡ objects_row list rest → Next read list left rest
goes_next count read list bytes left rest less p are e f =
    let size = are.counted in
    let go = goes_on read list bytes left rest (omega arith) p are.forms e f in
    next_of read list go.more left rest (omega arith) go.whole go.forms go.behind

-- each object of a rising list comes before a later one
pub rising_before : (read : List Object) (object : Object) (more : List Object) → IsRising (read ++ object ∷ more) → AllByRecursion (λ earlier. earlier.id < object.id) read
rising_before [] object more rising = tt
rising_before (x ∷ read) object more rising = (first_before x read object more rising.0, rising_before read object more rising.1)
  where
    first_before : (x : Object) (read : List Object) (object : Object) (more : List Object) → AllByRecursion (λ later. x.id < later.id) (read ++ object ∷ more) → x.id < object.id
    first_before x [] object more all = all.0
    first_before x (y ∷ read) object more all = first_before x read object more all.1

-- an object that comes behind all makes a longer rising list
pub rising_push : (read : List Object) (object : Object) → IsRising read → AllByRecursion (λ earlier. earlier.id < object.id) read → IsRising (read ++ object ∷ [])
rising_push [] object rising all = (tt, tt)
rising_push (x ∷ read) object rising all = (all_push (λ later. x.id < later.id) read object rising.0 all.0, rising_push read object rising.1 all.1)

-- ---- steps of the reading

pub objects_longer : (read : List Object) (object : Object) (bytes left rest : List ℕ) → bytes ≡ objects_row read left → left ≡ object_row object rest → bytes ≡ objects_row (read ++ object ∷ []) rest
objects_longer read object bytes left rest e f =
    e ∙ ap (λ (z : List ℕ). flat_map object_bytes read ++ z) f ∙ sym (append_assoc (flat_map object_bytes read) (object_bytes object) rest)
    ∙ ap (λ (z : List ℕ). z ++ rest) (flat_map_push read object)
  where
    flat_map_push : (read : List Object) (object : Object) → flat_map object_bytes read ++ object_bytes object ≡ flat_map object_bytes (read ++ object ∷ [])
    flat_map_push [] object = sym (append-nil (object_bytes object))
    flat_map_push (x ∷ read) object = append_assoc (object_bytes x) (flat_map object_bytes read) (object_bytes object) ∙ ap (λ (z : List ℕ). object_bytes x ++ z) (flat_map_push read object)

-- no list goes on where no object is
pub objects_none : (count : ℕ) (read : List Object) (bytes left : List ℕ) → length read < count → AllByRecursion HasObjectForm read → bytes ≡ objects_row read left → LeadsNone HasObjectForm object_row left → LeadsNone (AreObjects count) objects_row bytes
objects_none count read bytes left less p e none = λ list rest are f.
    let next = goes_next count read list bytes left rest less p are e f in
    none next.object (objects_row next.more rest) next.form next.behind

-- nor where the object does not come behind those that were read
pub objects_not_rising : (count : ℕ) (read : List Object) (object : Object) (bytes left behind : List ℕ) → length read < count → AllByRecursion HasObjectForm read → bytes ≡ objects_row read left → Leads HasObjectForm object_row left object behind → (AllByRecursion (λ earlier. earlier.id < object.id) read → ⊥) → LeadsNone (AreObjects count) objects_row bytes
objects_not_rising count read object bytes left behind less p e found not = λ list rest are f.
    let next = goes_next count read list bytes left rest less p are e f in
    let same = object_one next.object object left (objects_row next.more rest) behind next.form found.0 next.behind found.1 in
    let before = rising_before read next.object next.more (subst IsRising next.whole are.rising) in
    not (subst (λ (z : Object). AllByRecursion (λ earlier. earlier.id < z.id) read) same.0 before)

-- ---- the last object

-- the last of a rising list comes before what all come before
pub last_before : (objects : List Object) (last : Object) (id k : ℕ) → suc k ≡ length objects → slice_get objects k ≡ Some last → AllByRecursion (λ earlier. earlier.id < id) objects → last.id < id
last_before [] last id k size at all = absurd (omega arith)
last_before (x ∷ objects) last id zero size at all =
    let same : x ≡ last = cc in
    subst (λ (z : Object). z.id < id) same all.0
last_before (x ∷ objects) last id (suc k) size at all = last_before objects last id k (omega arith) at all.1

pub before_last : (objects : List Object) (last : Object) (id k : ℕ) → IsRising objects → suc k ≡ length objects → slice_get objects k ≡ Some last → last.id < id → AllByRecursion (λ earlier. earlier.id < id) objects
before_last [] last id k rising size at below = tt
before_last (x ∷ []) last id zero rising size at below =
    let same : last ≡ x = cc in
    (subst (λ (z : Object). z.id < id) same below, tt)
before_last (x ∷ []) last id (suc k) rising size at below = absurd (omega arith)
before_last (x ∷ y ∷ objects) last id zero rising size at below = absurd (omega arith)
before_last (x ∷ y ∷ objects) last id (suc k) rising size at below =
    let rest = before_last (y ∷ objects) last id k rising.1 (omega arith) at below in
    let first : x.id < y.id = rising.0.0 in
    let next : y.id < id = rest.0 in
    let front : x.id < id = omega arith in
    (front, rest)

pub behind_last : (objects : List Object) (last : Object) (id : ℕ) → IsRising objects → Some last ≡ slice_get objects (length objects - 1) → (ltb last.id id ≡ true) ↔ AllByRecursion (λ earlier. earlier.id < id) objects
behind_last [] last id rising at = cc
behind_last (x ∷ objects) last id rising at =
    let size : suc (length objects) ≡ length (x ∷ objects) = refl in
    let place : slice_get (x ∷ objects) (length objects) ≡ Some last = subst (λ (k : ℕ). slice_get (x ∷ objects) k ≡ Some last) (omega arith) (sym at) in
    (λ below. before_last (x ∷ objects) last id (length objects) rising size place (ltb-true last.id id below), λ all. lt-ltb last.id id (last_before (x ∷ objects) last id (length objects) size place all))
