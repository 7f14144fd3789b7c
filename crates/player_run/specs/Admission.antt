-- Whether the bytes of an upload are a module that a player may have, and why not.
use Rattle.std.specs.Prelude.{ℕ, List}
use Rattle.wasm_values.specs.Syntax.{Ops}
use Rattle.wasm_module.specs.Sections.{Syntax, Spells}
use Rattle.wasm_module.specs.Limits.{WithinBytes, IsWithin, IsTooLarge}
use Rattle.wasm_values.specs.declared.host_sig.HostSig.{HostSig}
use Rattle.wasm_module.specs.declared.module.Limit.{Limit}
use Rattle.wasm_validate.specs.Floats.{HasNoFloat}
use Rattle.wasm_validate.specs.Modules.{IsValid}
use Rattle.wasm_link.specs.Linking.{Link, IsFault, IsLinked}
use Rattle.wasm_link.specs.declared.fault.LinkFault.{LinkFault}
use Rattle.wasm_link.specs.declared.fault.LinkFault.TheVariants as fault
use Rattle.host_calls.specs.Calls.{AreSignatures, all_calls}
use Rattle.intent_book.specs.declared.refusal.Refusal.{Refusal}
use Rattle.intent_book.specs.declared.refusal.Refusal.TheVariants as refusals

-- The bytes spell this module, which is within the limits.
abbrev pub SpellsWithin : List ℕ → Syntax Ops → Type 0
SpellsWithin bytes m = Spells bytes m × WithinBytes bytes × IsWithin m

-- It is a valid module without floats, within the limits, that these bytes spell.
abbrev pub SpellsValid : List ℕ → Syntax Ops → Type 0
SpellsValid bytes m = SpellsWithin bytes m × HasNoFloat m × IsValid m

-- The bytes are accepted: they spell a valid module that links to the host calls, with this program and this
-- function `loop`.
pub record Accepts (bytes : List ℕ) (link : Link) : Type 0 where
  pub syntax : Syntax Ops
  pub spells : SpellsValid bytes syntax
  pub sigs : List HostSig
  pub calls : AreSignatures sigs all_calls
  pub linked : IsLinked sigs syntax link

abbrev pub IsAccepted : List ℕ → Type 0
IsAccepted bytes = (link : Link) × Accepts bytes link

-- They spell a valid module that does not link to the host calls, for this reason.
abbrev pub IsUnlinked : List ℕ → LinkFault → Type 0
IsUnlinked bytes why =
    (m : Syntax Ops) × SpellsValid bytes m × (sigs : List HostSig) × AreSignatures sigs all_calls
    × IsFault sigs m why

-- The bytes are refused so, each reason coming before those below it but for the size of the bytes, which
-- comes first. Want of memory says nothing of the bytes, and so is no refusal of them.
abbrev pub IsRefused : List ℕ → Refusal → Type 0
IsRefused bytes refusals.TooLarge = (limit : Limit) × IsTooLarge bytes limit
IsRefused bytes refusals.Malformed = WithinBytes bytes × ((m : Syntax Ops) → Spells bytes m → ⊥)
IsRefused bytes refusals.FloatRefused = (m : Syntax Ops) × SpellsWithin bytes m × (HasNoFloat m → ⊥)
IsRefused bytes refusals.Invalid = (m : Syntax Ops) × SpellsWithin bytes m × HasNoFloat m × (IsValid m → ⊥)
IsRefused bytes refusals.UnknownImport = (place : ℕ) × IsUnlinked bytes (fault.UnknownImport place)
IsRefused bytes refusals.ImportKind = (place : ℕ) × IsUnlinked bytes (fault.ImportKind place)
IsRefused bytes refusals.NoLoop = IsUnlinked bytes fault.NoLoop
IsRefused bytes refusals.Segment = (place : ℕ) × IsUnlinked bytes (fault.Segment place)
IsRefused bytes refusal = ⊥
