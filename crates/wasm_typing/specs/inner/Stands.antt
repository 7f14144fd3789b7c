-- What the stack of the code stands for: a set of stacks of types. An instruction is checked exactly where
-- the set for the new stack is the
-- image, under the rules of typing, of the set for the old one.
use Rattle.std.specs.Prelude.{◌≡◌, List, [], ◌∷◌, ◌++◌, map, Option, None, Some, Bool, true, false}
use Rattle.wasm_values.specs.Syntax.{Op, Ops}
use Rattle.wasm_values.specs.declared.types.ValType.{ValType}
use Rattle.wasm_typing.specs.Context.{Context}
use Rattle.wasm_typing.specs.Typing.{TypedOp, Typed}

-- A test that is exact.
abbrev pub Exactly : Type 0 → Bool → Type 0
Exactly P true = P
Exactly P false = P → ⊥

-- ---- one stack of the code

-- An entry is a known type, or None for any one type.
abbrev pub Fits : Option ValType → ValType → Type 0
Fits (Some known) value = known ≡ value
Fits None value = Unit {0}

-- Entries, the top first, above a bottom that is closed (nothing below) or open (any types below).
pub data Stands : Bool → List (Option ValType) → List ValType → Type 0 where
  closed : Stands false [] []
  open_end : {types : List ValType} → Stands true [] types
  entry : {is_open : Bool} {top : Option ValType} {entries : List
      (Option ValType)} {value : ValType} {types : List ValType}
      → Fits top value → Stands is_open entries types → Stands is_open (top ∷ entries) (value ∷ types)

-- Whether the bottom of the innermost block is open, its entries with the top first, and the entries of the
-- outer blocks.
abbrev pub State : Type 0
State = Bool × List (Option ValType) × List (Option ValType)

abbrev pub Means : State → List ValType → Type 0
Means state types = Stands state.0 state.1 types

-- Known types on top.
abbrev pub pushed : List ValType → State → State
pushed types state = (state.0, map Some types ++ state.1, state.2)

-- What two entries have in common.
abbrev pub Joins : Option ValType → Option ValType → Option (Option ValType) → Type 0
Joins one other (Some both) =
    (value : ValType)
    → ((Fits both value → Fits one value × Fits other value) × (Fits one value → Fits other value
    → Fits both value))
Joins one other None = (value : ValType) → Fits one value → Fits other value → ⊥

-- ---- what is taken off

-- Taking these types off the top was done.
pub record Popped (ins : List ValType) (old new : State) : Type 0 where
  pub forth : (below : List ValType) → Means new below → Means old (ins ++ below)
  pub back : (below : List ValType) → Means old (ins ++ below) → Means new below
  pub kept : new.2 ≡ old.2
  pub bottom : new.0 ≡ old.0

-- These types can't be on top.
pub record NotOnTop (ins : List ValType) (old : State) : Type 0 where
  pub refused : (below : List ValType) → Means old (ins ++ below) → ⊥

abbrev pub Pops : List ValType → State → State → Bool → Type 0
Pops ins old new true = Popped ins old new
Pops ins old new false = NotOnTop ins old

-- An entry was taken off the top.
pub record Off (top : Option ValType) (old new : State) : Type 0 where
  pub forth : (value : ValType) (below : List ValType) → Fits top value → Means new below
      → Means old (value ∷ below)
  pub back : (value : ValType) (below : List ValType) → Means old (value ∷ below)
      → Fits top value × Means new below
  pub kept : new.2 ≡ old.2
  pub bottom : new.0 ≡ old.0

-- There is nothing on top.
pub record Bare (old : State) : Type 0 where
  pub refused : (value : ValType) (below : List ValType) → Means old (value ∷ below) → ⊥

abbrev pub TopOff : State → State → Option (Option ValType) → Type 0
TopOff old new (Some top) = Off top old new
TopOff old new None = Bare old

-- Types were taken off the top, and others put there.
abbrev pub Applies : List ValType → List ValType → State → State → Bool → Type 0
Applies ins outs old new true = (middle : State) × Popped ins old middle × (new ≡ pushed outs middle)
Applies ins outs old new false = NotOnTop ins old

-- At the end of a body: exactly its result is on the stack, and was taken off.
abbrev pub Ends : List ValType → State → State → Bool → Type 0
Ends types old new true = Means old types × (new ≡ (old.0, [], old.2))
Ends types old new false = Means old types → ⊥

-- ---- one instruction

-- One instruction with any types below its operands.
pub data Steps (cx : Context) : List (Option ValType) → Op → List ValType → List ValType → Type 0 where
  framed : {labels : List (Option ValType)} {op : Op} {ins outs : List ValType} (below : List ValType)
      → TypedOp cx labels op ins outs → Steps cx labels op (ins ++ below) (outs ++ below)

-- The new stack stands for exactly what the instruction makes of what the old one stands for.
pub record Image (cx : Context) (labels : List (Option ValType)) (op : Op) (old new : State) : Type 0 where
  pub forth : (to : List ValType) → Means new to → (from : List ValType) × Means old from
      × Steps cx labels op from to
  pub back : (from to : List ValType) → Means old from → Steps cx labels op from to → Means new to
  pub kept : new.2 ≡ old.2

-- The instruction can't be run on anything that the stack stands for.
pub record NoImage (cx : Context) (labels : List (Option ValType)) (op : Op) (old : State) : Type 0 where
  pub refused : (from to : List ValType) → Means old from → Steps cx labels op from to → ⊥

abbrev pub Checks : Context → List (Option ValType) → Op → State → State → Bool → Type 0
Checks cx labels op old new true = Image cx labels op old new
Checks cx labels op old new false = NoImage cx labels op old

-- ---- instructions in order

-- Where the instructions can go from what the stack stands for.
abbrev pub Goes : Context → List (Option ValType) → Ops → State → List ValType → Type 0
Goes cx labels ops state to = (from : List ValType) × Means state from × Typed cx labels ops from to

-- The new stack stands for exactly where the instructions can go from what the old one stands for.
pub record Reached (cx : Context) (labels : List (Option ValType)) (ops : Ops)
    (old new : State) : Type 0 where
  pub forth : (to : List ValType) → Means new to → Goes cx labels ops old to
  pub back : (to : List ValType) → Goes cx labels ops old to → Means new to
  pub kept : new.2 ≡ old.2

abbrev pub ChecksAll : Context → List (Option ValType) → Ops → State → State → Bool → Type 0
ChecksAll cx labels ops old new true = Reached cx labels ops old new
ChecksAll cx labels ops old new false = (to : List ValType) → Goes cx labels ops old to → ⊥

-- Where a nested body is typed, the stack and the labels are as before.
abbrev pub Nested : Type 0 → List (Option ValType) → List (Option ValType) → State → State → Bool → Type 0
Nested P labels new_labels old new true = P × (new_labels ≡ labels) × (new ≡ old)
Nested P labels new_labels old new false = P → ⊥
