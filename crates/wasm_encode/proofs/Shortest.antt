-- Shortest spellings of compound values, from those of their parts.
use Rattle.std.proofs.Common.{◌≡◌, ℕ, zero, suc, ◌+◌, ◌<◌, ◌≤◌, List, [], ◌∷◌, ◌++◌, length, length-append, append_assoc, map, take, get_or, refl, ap, sym, ◌∙◌, subst, arith}
use Rattle.std.proofs.lemmas.List.{append-nil, take_more, map-append}
use Rattle.wasm_values.specs.Spelling.{SpellsU32, Then, SpellsMark, SpellsEach, each_none, each_next, SpellsList, SpellsBytes}
use Rattle.wasm_encode.specs.inner.Gains.{IsSpelled, Gains}

-- two parts are as short as their parts
pub then_least : (front back other x y : List ℕ) → other ≡ x ++ y → length front ≤ length x → length back ≤ length y → length (front ++ back) ≤ length other
then_least front back other x y g p q = omega (arith, length-append front back, ap length g, length-append x y)

-- what was written in two steps
pub joined : (a b c front back : List ℕ) → b ≡ a ++ front → c ≡ b ++ back → c ≡ a ++ (front ++ back)
joined a b c front back e f = f ∙ ap (λ z. z ++ back) e ∙ append_assoc a front back

-- One value, and another behind it.
pub gains_then : {V W : Type 0} (First : List ℕ → V → Type 0) (Second : List ℕ → W → Type 0) (v : V) (w : W) (a b c : List ℕ) → Gains First v a b → Gains Second w b c → Gains (Then First Second) (v, w) a c
gains_then First Second v w a b c (front, s, e) (back, t, f) =
    (front ++ back, ((front, back, s.0, t.0, refl), λ other (x, y, p, q, g). then_least front back other x y g (s.1 x p) (t.1 y q)), joined a b c front back e f)

pub first_spelled : {V W : Type 0} (First : List ℕ → V → Type 0) (Second : List ℕ → W → Type 0) (both : V × W) → IsSpelled (Then First Second) both → IsSpelled First both.0
first_spelled First Second both (text, (front, back, s, t, e)) = (front, s)

pub second_spelled : {V W : Type 0} (First : List ℕ → V → Type 0) (Second : List ℕ → W → Type 0) (both : V × W) → IsSpelled (Then First Second) both → IsSpelled Second both.1
second_spelled First Second both (text, (front, back, s, t, e)) = (back, t)

-- One byte that stands for nothing but itself.
pub gains_mark : (mark : ℕ) (a b : List ℕ) → b ≡ a ++ mark ∷ [] → Gains (SpellsMark mark) tt a b
gains_mark mark a b e = (mark ∷ [], (refl, λ other g. omega (arith, ap length g)), e)

-- Entries, one behind the other.
each_parts : {V : Type 0} {Spells : List ℕ → V → Type 0} (vs ws : List V) {text : List ℕ} → SpellsEach Spells text (vs ++ ws) → (x : List ℕ) × (y : List ℕ) × SpellsEach Spells x vs × SpellsEach Spells y ws × (text ≡ x ++ y)
each_parts [] ws {text} s = ([], text, each_none, s, refl)
each_parts (v ∷ vs) ws (each_next {text = front} s ss) =
    let rest = each_parts vs ws ss in
    (front ++ rest.0, rest.1, each_next s rest.2, rest.3, ap (λ z. front ++ z) rest.4 ∙ sym (append_assoc front rest.0 rest.1))

each_single : {V : Type 0} {Spells : List ℕ → V → Type 0} {v : V} {text : List ℕ} → SpellsEach Spells text (v ∷ []) → Spells text v
each_single {Spells = Spells} {v = v} (each_next {text = front} s each_none) =
    let P : List ℕ → Type 0 = λ z. Spells z v in
    subst P (sym (append-nil front)) s

each_last : {V : Type 0} {Spells : List ℕ → V → Type 0} {v : V} {text : List ℕ} → Spells text v → SpellsEach Spells text (v ∷ [])
each_last {Spells = Spells} {v = v} {text = text} s =
    let P : List ℕ → Type 0 = λ z. SpellsEach Spells z (v ∷ []) in
    subst P (append-nil text) (each_next s each_none)

each_joined : {V : Type 0} {Spells : List ℕ → V → Type 0} {vs ws : List V} {x y : List ℕ} → SpellsEach Spells x vs → SpellsEach Spells y ws → SpellsEach Spells (x ++ y) (vs ++ ws)
each_joined each_none t = t
each_joined {y = y} (each_next {text = front} {more = more} s ss) t = rw append_assoc (each_next s (each_joined ss t))

-- No entry has been written.
pub gains_none : {V : Type 0} (Spells : List ℕ → V → Type 0) (a : List ℕ) → Gains (SpellsEach Spells) [] a a
gains_none Spells a = ([], (each_none, λ other s. omega arith), sym (append-nil a))

-- One entry more.
pub gains_next : {V : Type 0} (Spells : List ℕ → V → Type 0) (vs : List V) (v : V) (a b c : List ℕ) → Gains (SpellsEach Spells) vs a b → Gains Spells v b c → Gains (SpellsEach Spells) (vs ++ v ∷ []) a c
gains_next Spells vs v a b c (front, s, e) (back, t, f) =
    (front ++ back, (each_joined s.0 (each_last t.0), λ other r. let parts = each_parts vs (v ∷ []) r in then_least front back other parts.0 parts.1 parts.4 (s.1 parts.0 parts.2) (t.1 parts.1 (each_single parts.3))), joined a b c front back e f)

-- Each entry is spelled.
pub each_spelled : {V E : Type 0} (Spells : List ℕ → V → Type 0) (seen : E → V) (list : List E) (i : ℕ) (d : E) (text : List ℕ) → SpellsEach Spells text (map seen list) → i < length list → IsSpelled Spells (seen (get_or list i d))
each_spelled Spells seen [] i d text s h = absurd (omega arith)
each_spelled Spells seen (e ∷ es) zero d text (each_next {text = front} t ts) h = (front, t)
each_spelled Spells seen (e ∷ es) (suc i) d text (each_next {more = more} t ts) h = each_spelled Spells seen es i d more ts (omega arith)

-- The entry that a loop has come to.
pub item_spelled : {V E : Type 0} (Spells : List ℕ → V → Type 0) (seen : E → V) (list : List E) (i : ℕ) (item : E) → IsSpelled (SpellsEach Spells) (map seen list) → i < length list → item ≡ get_or list i item → IsSpelled Spells (seen item)
item_spelled {V} {E} Spells seen list i item (text, s) h is =
    let P : E → Type 0 = λ z. IsSpelled Spells (seen z) in
    subst P (sym is) (each_spelled Spells seen list i item text s h)

pub gains_item : {V E : Type 0} (Spells : List ℕ → V → Type 0) (seen : E → V) (list : List E) (i : ℕ) (item : E) (a b c : List ℕ) → i < length list → item ≡ get_or list i item → Gains (SpellsEach Spells) (map seen (take i list)) a b → Gains Spells (seen item) b c → Gains (SpellsEach Spells) (map seen (take (i + 1) list)) a c
gains_item {V} {E} Spells seen list i item a b c h is s t =
    let longer : map seen (take (i + 1) list) ≡ map seen (take i list) ++ seen item ∷ [] =
    ap (map seen) (take_more list i item h) ∙ map-append seen (take i list) (get_or list i item ∷ []) ∙ ap (λ z. map seen (take i list) ++ seen z ∷ []) (sym is) in
    let P : List V → Type 0 = λ z. Gains (SpellsEach Spells) z a c in
    subst P (sym longer) (gains_next Spells (map seen (take i list)) (seen item) a b c s t)

-- A list, which is its count and its entries.
pub gains_list : {V : Type 0} (Spells : List ℕ → V → Type 0) (vs : List V) (a b c : List ℕ) → Gains SpellsU32 (length vs) a b → Gains (SpellsEach Spells) vs b c → Gains (SpellsList Spells) vs a c
gains_list Spells vs a b c (front, s, e) (back, t, f) =
    (front ++ back, ((front, back, s.0, t.0, refl), λ other (x, y, p, q, g). then_least front back other x y g (s.1 x p) (t.1 y q)), joined a b c front back e f)

pub count_spelled : {V : Type 0} (Spells : List ℕ → V → Type 0) (vs : List V) → IsSpelled (SpellsList Spells) vs → IsSpelled SpellsU32 (length vs)
count_spelled Spells vs (text, (count, texts, s, t, e)) = (count, s)

pub entries_spelled : {V : Type 0} (Spells : List ℕ → V → Type 0) (vs : List V) → IsSpelled (SpellsList Spells) vs → IsSpelled (SpellsEach Spells) vs
entries_spelled Spells vs (text, (count, texts, s, t, e)) = (texts, t)

-- A list of bytes, which is their count and the bytes.
pub gains_bytes : (content a b c : List ℕ) → Gains SpellsU32 (length content) a b → c ≡ b ++ content → Gains SpellsBytes content a c
gains_bytes content a b c (front, s, e) f =
    (front ++ content, ((front, s.0, refl), λ other (x, p, g). then_least front content other x content g (s.1 x p) (omega arith)), joined a b c front content e f)
