-- The rule of the queue: what waits, what was offered by whom, what was taken, and how often the queue was
-- found full or empty.
use Rattle.std.specs.Prelude.{◌≡◌, ℕ, ◌+◌, ◌-◌, ◌^◌, ◌<◌, ◌≤◌, ◌++◌, ◌==◌, min, true, false, List, [], ◌∷◌}
use Rattle.std.specs.Prelude.{map, length, if◌then◌else◌}
use mathlib.Core.Option.{some}
use lib.ListN.{get_elem?}
use Rattle.world_hub.specs.declared.queue.Upload.{Upload}
use Rattle.world_hub.specs.declared.queue.Marked.{Marked}
use Rattle.world_hub.specs.declared.queue.Hand.{Hand}

abbrev pub upload_of : Marked → Upload
upload_of entry = entry.upload

-- an upload with the number of the pass that offered it
abbrev pub marked : ℕ → Upload → Marked
marked pass upload = record { by = pass; upload = upload }

-- the uploads that a pass offered, in their order
abbrev pub of_pass : ℕ → List Marked → List Upload
of_pass pass [] = []
of_pass pass (entry ∷ entries) =
    if entry.by == pass then entry.upload ∷ of_pass pass entries else of_pass pass entries

-- a count that rose, or stands at its greatest number
abbrev pub raised : ℕ → ℕ
raised count = min (count + 1) (2 ^ 64 - 1)

-- ---- the history of a queue

-- a step of the queue
pub data Event : Type 0 where
  pushed : Marked → Event
  popped : Event
  found_full : ℕ → Event
  found_empty : Event

-- These events, the latest first, took these uploads and left those waiting. A push came where fewer than 64
-- waited, a full answer where 64 waited, and an empty answer where none did.
pub data Runs : List Event → List Marked → List Marked → Type 0 where
  opens : Runs [] [] []
  pushes : {history : List Event} {taken waiting : List Marked} (entry : Marked) → length waiting < 64
      → Runs history taken waiting → Runs (pushed entry ∷ history) taken (waiting ++ entry ∷ [])
  pops : {history : List Event} {taken waiting : List Marked} {entry : Marked}
      → Runs history taken (entry ∷ waiting) → Runs (popped ∷ history) (taken ++ entry ∷ []) waiting
  fills : {history : List Event} {taken waiting : List Marked} (pass : ℕ) → length waiting ≡ 64
      → Runs history taken waiting → Runs (found_full pass ∷ history) taken waiting
  drains : {history : List Event} {taken : List Marked} → Runs history taken []
      → Runs (found_empty ∷ history) taken []

-- how often a pass found the queue full
abbrev pub fulls_of : ℕ → List Event → ℕ
fulls_of pass [] = 0
fulls_of pass (found_full other ∷ history) =
    if other == pass then raised (fulls_of pass history) else fulls_of pass history
fulls_of pass (pushed entry ∷ history) = fulls_of pass history
fulls_of pass (popped ∷ history) = fulls_of pass history
fulls_of pass (found_empty ∷ history) = fulls_of pass history

-- how often the queue was found empty
abbrev pub empties_of : List Event → ℕ
empties_of [] = 0
empties_of (found_empty ∷ history) = raised (empties_of history)
empties_of (found_full pass ∷ history) = empties_of history
empties_of (pushed entry ∷ history) = empties_of history
empties_of (popped ∷ history) = empties_of history

-- ---- what is known at the queue

abbrev pub new_hand : Hand
new_hand = record {
  takes = false;
  offers = [];
  fulls = 0;
  taken = [];
  empties = 0;
  turn = false;
  content = [];
}

abbrev pub ticker_hand : Hand
ticker_hand = record new_hand { takes = true }

-- the turn alone, where the queue holds this
abbrev pub turn_hand : List Upload → Hand
turn_hand content = record new_hand { turn = true; content = content }

abbrev pub with_turn : Hand → List Upload → Hand
with_turn hand content = record hand { turn = true; content = content }

abbrev pub without_turn : Hand → Hand
without_turn hand = record hand { turn = false; content = [] }

-- the ticker begins with the turn
abbrev pub first_hand : Hand
first_hand = with_turn ticker_hand []

abbrev pub offered : Hand → Upload → Hand
offered hand upload = record hand { offers = hand.offers ++ upload ∷ [] }

abbrev pub refused : Hand → Hand
refused hand = record hand { fulls = raised hand.fulls }

abbrev pub starved : Hand → Hand
starved hand = record hand { empties = raised hand.empties }

abbrev pub took_all : Hand → List Marked → Hand
took_all hand entries = record hand { taken = hand.taken ++ entries }

-- ---- the rule

-- what a pass knows: its own offers among all, and its full answers
pub record Offers (history : List Event) (all : List Marked) (port : ℕ) (v : Hand) : Type 0 where
  pub offers : v.offers ≡ of_pass port all
  pub fulls : v.fulls ≡ fulls_of port history

-- what the one ticker knows
pub record Takes (history : List Event) (so_far : List Marked) (ticker port : ℕ) (v : Hand) : Type 0 where
  pub one : port ≡ ticker
  pub taken : v.taken ≡ so_far
  pub empties : v.empties ≡ empties_of history

-- what the one knows that has the turn
pub record HasTurn (items : List Upload) (holder port : ℕ) (v : Hand) : Type 0 where
  pub one : port ≡ holder
  pub content : v.content ≡ items

-- There is one history of the queue. What was taken and then what waits are all offers, each with the number
-- of its pass. A pass has the offers and the full answers of its number, the one ticker what was taken and
-- the empty answers, and whoever has the one turn knows what waits.
pub record Queued (items : List Upload) (views : List Hand) : Type 0 where
  pub history : List Event
  pub taken : List Marked
  pub waiting : List Marked
  pub ticker : ℕ
  pub holder : ℕ
  pub runs : Runs history taken waiting
  pub content : map upload_of waiting ≡ items
  pub offers : (port : ℕ) (v : Hand) → get_elem? views port ≡ some v
      → Offers history (taken ++ waiting) port v
  pub takes : (port : ℕ) (v : Hand) → get_elem? views port ≡ some v → v.takes ≡ true
      → Takes history taken ticker port v
  pub turns : (port : ℕ) (v : Hand) → get_elem? views port ≡ some v → v.turn ≡ true
      → HasTurn items holder port v
  pub later : (port : ℕ) → length views ≤ port
      → (of_pass port (taken ++ waiting) ≡ []) × (fulls_of port history ≡ 0)

-- ---- what the steps tell

-- The upload is one more of the pass's offers.
abbrev pub Offered : Hand → Upload → Hand → Type 0
Offered v upload w = (content : List Upload) × (w ≡ with_turn (offered v upload) content)

-- The upload was the next in order, and has the number of its pass.
abbrev pub Took : Hand → Upload → Hand → Type 0
Took v upload w =
    (pass : ℕ) × (content : List Upload) × (w ≡ with_turn (took_all v (marked pass upload ∷ [])) content)

-- With the turn, the queue holds just what is known.
abbrev pub Holds : Hand → List Upload → Type 0
Holds v items = v.content ≡ items

-- These uploads were the next in order, each with the number of its pass.
abbrev pub TookAll : Hand → List Upload → Hand → Type 0
TookAll v uploads w = (entries : List Marked) × (map upload_of entries ≡ uploads) × (w ≡ took_all v entries)

-- These uploads were the next in order, at most 64. Where they are fewer, a step then found the queue empty.
abbrev pub TookUpTo : Hand → List Upload → Hand → Type 0
TookUpTo v uploads w =
    (entries : List Marked) × (map upload_of entries ≡ uploads) × (length uploads ≤ 64)
    × (length uploads ≡ 64 → w ≡ took_all v entries)
    × (length uploads < 64 → w ≡ starved (took_all v entries))
