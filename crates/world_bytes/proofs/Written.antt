-- What was written, piece by piece.
use Rattle.std.proofs.Common.{◌≡◌, ℕ, ◌+◌, ◌^◌, ◌<◌, ◌≤◌, List, [], ◌∷◌, ◌++◌, length, get_or, take, map, sym, ap, ◌∙◌, refl, inl, inr, arith, append_assoc, length-append, if◌then◌else◌, is_ok, OnOk, Result, Ok, Err}
use Rattle.std.proofs.lemmas.Bool.{cases_lt}
use Rattle.std.proofs.lemmas.List.{append-nil, get_or-append-add, get_or_past, take-take, take_at, take_all}
use Rattle.std.specs.List.{AllByRecursion, flat_map}
use Rattle.byteorder.specs.Endian.{little_bytes}
use Rattle.game_tables.specs.Actions.{action_number}
use Rattle.game_tables.specs.Numbers.{kind_number, part_number}
use Rattle.game_tables.specs.declared.kind.Part.{Part}
use Rattle.intent_book.specs.declared.intent.Intent.{Intent}
use Rattle.room_table.specs.Tables.{Table}
use Rattle.object_store.specs.declared.account.Account.{Account}
use Rattle.room_table.specs.declared.object.Object.{Object}
use Rattle.world_bytes.specs.declared.object.Head.{Head}
use Rattle.world_bytes.specs.declared.object.Counts.{Counts}
use Rattle.world_bytes.specs.Forms.{object_bytes, room_bytes, account_bytes, intent_bytes}
use Rattle.world_bytes.specs.inner.Rows.{head_of, head_row, counts_of, counts_row, body_row}
use Rattle.world_bytes.proofs.Rooms.{all_bytes}

-- one piece behind another
pub then_written : {A : Type 0} (old mid new a b : List A) → mid ≡ old ++ a → new ≡ mid ++ b → new ≡ old ++ (a ++ b)
then_written {A} old mid new a b e f = f ∙ ap (λ (z : List A). z ++ b) e ∙ append_assoc old a b

-- what a vector was extended by
pub extended : {A T E : Type 0} (result : Result T E) (old new a : List A) → new ≡ (if is_ok result then old ++ a else old) → OnOk result (new ≡ old ++ a)
extended (Ok done) old new a e = e
extended (Err fault) old new a e = tt

-- The bytes of a text fit, as those of the vector do that has it at its end.
pub text_fits : (old text new : List ℕ) → new ≡ old ++ text → ((i : ℕ) → i < length new → get_or new i 0 < 256) → AllByRecursion (λ byte. byte < 2 ^ 8) text
text_fits old text new e fits = all_bytes text (λ i. elim (cases_lt i (length text)) [
  | inl within ↦ omega (arith, fits (length old + i) (omega (arith, ap length e, length-append old text)), ap (λ (z : List ℕ). get_or z (length old + i) 0) e, get_or-append-add old text i 0)
  | inr behind ↦ omega (arith, get_or_past text i 0 behind)
])

-- what stood before the pieces stands still
pub kept_behind : {A : Type 0} (old mid new a : List A) → mid ≡ old ++ a → take (length mid) new ≡ mid → take (length old) new ≡ old
kept_behind {A} old mid new a e f =
    let shorter : length old ≤ length mid = omega (arith, ap length e, length-append old a) in
    sym (take-take (length old) (length mid) new shorter) ∙ ap (λ (z : List A). take (length old) z) (f ∙ e) ∙ take_at old a (length old) refl

pub head_written : (head : Head) (old a b new : List ℕ) → a ≡ old ++ little_bytes 8 head.id → b ≡ a ++ (kind_number head.kind ∷ head.x ∷ head.y ∷ []) → new ≡ b ++ little_bytes 4 head.owner → new ≡ old ++ head_row head []
unfolding head_row
head_written head old a b new e f g = then_written old b new _ (little_bytes 4 head.owner) (then_written old a b (little_bytes 8 head.id) _ e f) g

pub counts_written : (counts : Counts) (old a b c d e f new : List ℕ) → a ≡ old ++ little_bytes 4 counts.hits → b ≡ a ++ little_bytes 8 counts.energy → c ≡ b ++ little_bytes 4 counts.timer → d ≡ c ++ little_bytes 4 counts.extra → e ≡ d ++ little_bytes 8 counts.progress → f ≡ e ++ little_bytes 4 counts.other → new ≡ f ++ little_bytes 4 counts.other_ticks → new ≡ old ++ counts_row counts []
unfolding counts_row
counts_written counts old a b c d e f new h i j k l m n =
    let two = then_written old a b (little_bytes 4 counts.hits) (little_bytes 8 counts.energy) h i in
    let three = then_written old b c _ (little_bytes 4 counts.timer) two j in
    let four = then_written old c d _ (little_bytes 4 counts.extra) three k in
    let five = then_written old d e _ (little_bytes 8 counts.progress) four l in
    let six = then_written old e f _ (little_bytes 4 counts.other) five m in
    then_written old f new _ (little_bytes 4 counts.other_ticks) six n

pub body_written : (parts body : List Part) (i : ℕ) (old new : List ℕ) → length parts ≤ i → parts ≡ body → new ≡ old ++ (length parts ∷ map part_number (take i parts)) → new ≡ old ++ body_row body []
unfolding body_row
body_written parts body i old new all same e =
    e ∙ ap (λ (z : List Part). old ++ (length parts ∷ map part_number z)) (take_all i parts all)
    ∙ ap (λ (z : List Part). old ++ (length z ∷ map part_number z)) same
    ∙ ap (λ (z : List ℕ). old ++ (length body ∷ z)) (sym (append-nil (map part_number body)))

pub groups_written : (object : Object) (old a b new : List ℕ) → a ≡ old ++ head_row (head_of object) [] → b ≡ a ++ counts_row (counts_of object) [] → new ≡ b ++ body_row object.body [] → new ≡ old ++ object_bytes object
unfolding object_bytes head_row counts_row body_row
groups_written object old a b new e f g =
    let two = then_written old a b (head_row (head_of object) []) (counts_row (counts_of object) []) e f in
    let last : new ≡ b ++ (length object.body ∷ map part_number object.body) = g ∙ ap (λ (z : List ℕ). b ++ (length object.body ∷ z)) (append-nil (map part_number object.body)) in
    then_written old b new _ (length object.body ∷ map part_number object.body) two last

pub room_is_written : (table : Table) (old a b c new : List ℕ) → a ≡ old ++ little_bytes 4 table.index → b ≡ a ++ little_bytes 4 table.next → c ≡ b ++ little_bytes 4 (length table.objects) → new ≡ c ++ flat_map object_bytes table.objects → new ≡ old ++ room_bytes table
unfolding room_bytes
room_is_written table old a b c new e f g h =
    let two = then_written old a b (little_bytes 4 table.index) (little_bytes 4 table.next) e f in
    let three = then_written old b c _ (little_bytes 4 (length table.objects)) two g in
    then_written old c new _ (flat_map object_bytes table.objects) three h

pub account_is_written : (account : Account) (old a b c d e new : List ℕ) → a ≡ old ++ little_bytes 4 account.player → b ≡ a ++ little_bytes 4 account.limit → c ≡ b ++ little_bytes 4 account.bucket → d ≡ c ++ little_bytes 8 account.points → e ≡ d ++ little_bytes 4 (length account.memory) → new ≡ e ++ account.memory → new ≡ old ++ account_bytes account
unfolding account_bytes
account_is_written account old a b c d e new f g h i j k =
    let two = then_written old a b (little_bytes 4 account.player) (little_bytes 4 account.limit) f g in
    let three = then_written old b c _ (little_bytes 4 account.bucket) two h in
    let four = then_written old c d _ (little_bytes 8 account.points) three i in
    let five = then_written old d e _ (little_bytes 4 (length account.memory)) four j in
    then_written old e new _ account.memory five k

pub intent_is_written : (intent : Intent) (old a b c d new : List ℕ) → a ≡ old ++ (action_number intent.action ∷ []) → b ≡ a ++ little_bytes 8 intent.actor → c ≡ b ++ little_bytes 8 intent.target → d ≡ c ++ little_bytes 8 intent.amount → new ≡ d ++ body_row intent.body [] → new ≡ old ++ intent_bytes intent
unfolding intent_bytes body_row
intent_is_written intent old a b c d new e f g h i =
    let two = then_written old a b (action_number intent.action ∷ []) (little_bytes 8 intent.actor) e f in
    let three = then_written old b c _ (little_bytes 8 intent.target) two g in
    let four = then_written old c d _ (little_bytes 8 intent.amount) three h in
    let last : new ≡ d ++ (length intent.body ∷ map part_number intent.body) = i ∙ ap (λ (z : List ℕ). d ++ (length intent.body ∷ z)) (append-nil (map part_number intent.body)) in
    then_written old d new _ (length intent.body ∷ map part_number intent.body) four last

pub room_is_kept : (old a b c new d e f : List ℕ) → a ≡ old ++ d → b ≡ a ++ e → c ≡ b ++ f → take (length c) new ≡ c → take (length old) new ≡ old
room_is_kept old a b c new d e f g h i kept =
    let two = then_written old a b d e g h in
    let three = then_written old b c (d ++ e) f two i in
    kept_behind old c new (d ++ e ++ f) three kept

pub intent_is_kept : (old a b c d new e f g h : List ℕ) → a ≡ old ++ e → b ≡ a ++ f → c ≡ b ++ g → d ≡ c ++ h → take (length d) new ≡ d → take (length old) new ≡ old
intent_is_kept old a b c d new e f g h i j k l kept =
    let two = then_written old a b e f i j in
    room_is_kept old b c d new (e ++ f) g h two k l kept
