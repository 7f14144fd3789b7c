-- Intents at the front of the same bytes.
use Rattle.std.proofs.Common.{◌≡◌, ℕ, ◌==◌, ◌+◌, ◌<◌, ◌^◌, List, ◌∷◌, ◌++◌, cond, length, sym, ap, ◌∙◌, refl, arith}
use Rattle.byte_fields.specs.Front.{Begins, BeginsNone}
use Rattle.byteorder.specs.Endian.{little_bytes}
use Rattle.game_tables.specs.Actions.{action_number}
use Rattle.game_tables.specs.declared.action.Action.{Action}
use Rattle.game_tables.specs.declared.action.Action.TheVariants.{DropLoad, Transfer, Withdraw, Pickup, Heal, RangedHeal, Dismantle, Attack, Harvest, Repair, Build, RangedMassAttack, RangedAttack, Suicide, ClaimController, Upgrade, Reserve, AttackController, CreateSite, RemoveSite, SpawnCreep, Move}
use Rattle.game_tables.specs.declared.kind.Part.{Part}
use Rattle.intent_book.specs.declared.intent.Intent.{Intent}
use Rattle.world_bytes.specs.Forms.{HasIntentForm, SpellsIntent, intent_bytes}
use Rattle.world_bytes.specs.inner.Rows.{body_row}
use Rattle.world_bytes.proofs.Fields.{body_length, body_one}
use Rattle.world_bytes.proofs.Words.{behind_byte, behind_word}

-- ---- the numbers of two actions differ

action_of : ℕ → Action
action_of n =
    cond (n == 1) DropLoad (cond (n == 2) Transfer (cond (n == 3) Withdraw (cond (n == 4) Pickup (cond (n == 5) Heal (cond (n == 6) RangedHeal (cond (n == 7) Dismantle (cond (n == 8) Attack (cond (n == 9) Harvest (cond (n == 10) Repair (cond (n == 11) Build (cond (n == 12) RangedMassAttack (cond (n == 13) RangedAttack (cond (n == 14) Suicide (cond (n == 15) ClaimController (cond (n == 16) Upgrade (cond (n == 17) Reserve (cond (n == 18) AttackController (cond (n == 19) CreateSite (cond (n == 20) RemoveSite (cond (n == 21) SpawnCreep Move))))))))))))))))))))

action_back : (action : Action) → action_of (action_number action) ≡ action
unfolding action_of
action_back DropLoad = refl
action_back Transfer = refl
action_back Withdraw = refl
action_back Pickup = refl
action_back Heal = refl
action_back RangedHeal = refl
action_back Dismantle = refl
action_back Attack = refl
action_back Harvest = refl
action_back Repair = refl
action_back Build = refl
action_back RangedMassAttack = refl
action_back RangedAttack = refl
action_back Suicide = refl
action_back ClaimController = refl
action_back Upgrade = refl
action_back Reserve = refl
action_back AttackController = refl
action_back CreateSite = refl
action_back RemoveSite = refl
action_back SpawnCreep = refl
action_back Move = refl

action_number_injective : (action other : Action) → action_number action ≡ action_number other → action ≡ other
action_number_injective action other e = sym (action_back action) ∙ ap action_of e ∙ action_back other

-- ---- intents

pub intent_row : Intent → List ℕ → List ℕ
intent_row intent rest =
    action_number intent.action ∷ (little_bytes 8 intent.actor ++ (little_bytes 8 intent.target ++ (little_bytes 8 intent.amount ++ body_row intent.body rest)))

-- The bytes are those of an intent of the player, in front of the rest.
pub record LeadsIntent (player : ℕ) (bytes : List ℕ) (intent : Intent) (rest : List ℕ) : Type 0 where
  pub form : HasIntentForm intent
  pub own : intent.player ≡ player
  pub whole : bytes ≡ intent_row intent rest

intent_parts : (intent : Intent) (rest : List ℕ) → intent_bytes intent ++ rest ≡ intent_row intent rest
unfolding intent_bytes intent_row body_row
intent_parts intent rest = refl

pub leads_intent : (player : ℕ) (bytes : List ℕ) (intent : Intent) (rest : List ℕ) → Begins (SpellsIntent player) bytes intent rest → LeadsIntent player bytes intent rest
leads_intent player bytes intent rest (text, (form, own, spelled), e) =
    record { form = form; own = own; whole = e ∙ ap (λ (z : List ℕ). z ++ rest) spelled ∙ intent_parts intent rest }

pub intent_begins : (player : ℕ) (intent : Intent) (bytes a b c d rest : List ℕ) → HasIntentForm intent → intent.player ≡ player → bytes ≡ action_number intent.action ∷ a → a ≡ little_bytes 8 intent.actor ++ b → b ≡ little_bytes 8 intent.target ++ c → c ≡ little_bytes 8 intent.amount ++ d → d ≡ body_row intent.body rest → Begins (SpellsIntent player) bytes intent rest
unfolding intent_row
intent_begins player intent bytes a b c d rest form own e f g h i =
    let whole : bytes ≡ intent_row intent rest =
    e ∙ ap (λ (z : List ℕ). action_number intent.action ∷ z) (f ∙ ap (λ (z : List ℕ). little_bytes 8 intent.actor ++ z) (g ∙ ap (λ (z : List ℕ). little_bytes 8 intent.target ++ z) (h ∙ ap (λ (z : List ℕ). little_bytes 8 intent.amount ++ z) i))) in
    (intent_bytes intent, (form, own, refl), whole ∙ sym (intent_parts intent rest))

pub intent_length : (intent : Intent) (rest : List ℕ) → length (intent_row intent rest) ≡ 26 + length intent.body + length rest
unfolding intent_row
intent_length intent rest = omega (arith, body_length intent.body rest)

-- fewer bytes are no intent
pub intent_short : (player : ℕ) (bytes : List ℕ) → length bytes < 26 → BeginsNone (SpellsIntent player) bytes
intent_short player bytes short = λ intent rest begins.
    let leads = leads_intent player bytes intent rest begins in
    omega (arith, ap length leads.whole, intent_length intent rest)

pub intent_action : (intent : Intent) (bytes rest : List ℕ) → bytes ≡ intent_row intent rest → (left : List ℕ) × (bytes ≡ action_number intent.action ∷ left)
unfolding intent_row
intent_action intent bytes rest e = (_, e)

-- what is behind the numbers that were read
pub record BehindAmount (intent : Intent) (action : Action) (actor target amount : ℕ) (left rest : List ℕ) : Type 0 where
  pub action_same : action ≡ intent.action
  pub actor_same : actor ≡ intent.actor
  pub target_same : target ≡ intent.target
  pub amount_same : amount ≡ intent.amount
  pub behind : left ≡ body_row intent.body rest

pub behind_amount : (intent : Intent) (action : Action) (actor target amount : ℕ) (bytes a b c left rest : List ℕ) → actor < 2 ^ 64 → target < 2 ^ 64 → amount < 2 ^ 64 → bytes ≡ action_number action ∷ a → a ≡ little_bytes 8 actor ++ b → b ≡ little_bytes 8 target ++ c → c ≡ little_bytes 8 amount ++ left → HasIntentForm intent → bytes ≡ intent_row intent rest → BehindAmount intent action actor target amount left rest
unfolding intent_row
behind_amount intent action actor target amount bytes a b c left rest p q r e f g h form whole =
    let one = behind_byte (action_number action) (action_number intent.action) bytes a _ e whole in
    let two = behind_word 8 actor intent.actor a b _ p form.actor f one.1 in
    let three = behind_word 8 target intent.target b c _ q form.target g two.1 in
    let four = behind_word 8 amount intent.amount c left (body_row intent.body rest) r form.amount h three.1 in
    record { action_same = action_number_injective action intent.action one.0; actor_same = two.0; target_same = three.0; amount_same = four.0; behind = four.1 }

intent_from : ℕ → Action → ℕ → ℕ → ℕ → List Part → Intent
intent_from player action actor target amount body = record { player = player; action = action; actor = actor; target = target; amount = amount; body = body }

intent_same : (a b : Intent) → a.player ≡ b.player → a.action ≡ b.action → a.actor ≡ b.actor → a.target ≡ b.target → a.amount ≡ b.amount → a.body ≡ b.body → a ≡ b
unfolding intent_from
intent_same a b e f g h i j =
    let same : intent_from a.player a.action a.actor a.target a.amount a.body ≡ intent_from b.player b.action b.actor b.target b.amount b.body = cc in
    same

pub intent_one : (player : ℕ) (bytes : List ℕ) (one other : Intent) (rest more : List ℕ) → Begins (SpellsIntent player) bytes one rest → Begins (SpellsIntent player) bytes other more → (one ≡ other) × (rest ≡ more)
unfolding intent_row
intent_one player bytes one other rest more first second =
    let a = leads_intent player bytes one rest first in
    let b = leads_intent player bytes other more second in
    let form = a.form in
    let same = behind_amount other one.action one.actor one.target one.amount bytes _ _ _ (body_row one.body rest) more form.actor form.target form.amount a.whole refl refl refl b.form b.whole in
    let bodies = body_one one.body other.body (body_row one.body rest) rest more refl same.behind in
    (intent_same one other (a.own ∙ sym b.own) same.action_same same.actor_same same.target_same same.amount_same bodies.0, bodies.1)
