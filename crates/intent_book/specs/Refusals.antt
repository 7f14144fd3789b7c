-- The numbers and the names of the reasons for which uploads are refused.
use Rattle.std.specs.Prelude.{ℕ, ◌==◌, if◌then◌else◌, List, [], ◌∷◌, Option, Some, None, codes}
use Rattle.intent_book.specs.declared.refusal.Refusal.{Refusal}
use Rattle.intent_book.specs.declared.refusal.Refusal.TheVariants as refusals

-- the number of an upload's result where it is refused; 0 is that of one that is accepted
abbrev pub refusal_number : Refusal → ℕ
refusal_number refusals.UnknownPlayer = 1
refusal_number refusals.WrongToken = 2
refusal_number refusals.TooLarge = 3
refusal_number refusals.Malformed = 4
refusal_number refusals.FloatRefused = 5
refusal_number refusals.Invalid = 6
refusal_number refusals.UnknownImport = 7
refusal_number refusals.ImportKind = 8
refusal_number refusals.NoLoop = 9
refusal_number refusals.Segment = 10
refusal_number refusals.Memory = 11

-- the first refusal of a list with a number
abbrev pub with_number : ℕ → List Refusal → Option Refusal
with_number number [] = None
with_number number (refusal ∷ others) =
    if number == refusal_number refusal then Some refusal else with_number number others

-- the refusal of a number, where one has it
unfoldable pub refusal_of : ℕ → Option Refusal
refusal_of number =
    with_number number
    (refusals.UnknownPlayer ∷ refusals.WrongToken ∷ refusals.TooLarge ∷ refusals.Malformed
    ∷ refusals.FloatRefused ∷ refusals.Invalid
    ∷ refusals.UnknownImport ∷ refusals.ImportKind ∷ refusals.NoLoop ∷ refusals.Segment ∷ refusals.Memory
    ∷ [])

-- the name of a refusal, as it is printed
abbrev pub refusal_name : Refusal → List ℕ
refusal_name refusals.UnknownPlayer = codes "UnknownPlayer"
refusal_name refusals.WrongToken = codes "WrongToken"
refusal_name refusals.TooLarge = codes "TooLarge"
refusal_name refusals.Malformed = codes "Malformed"
refusal_name refusals.FloatRefused = codes "FloatRefused"
refusal_name refusals.Invalid = codes "Invalid"
refusal_name refusals.UnknownImport = codes "UnknownImport"
refusal_name refusals.ImportKind = codes "ImportKind"
refusal_name refusals.NoLoop = codes "NoLoop"
refusal_name refusals.Segment = codes "Segment"
refusal_name refusals.Memory = codes "Memory"
