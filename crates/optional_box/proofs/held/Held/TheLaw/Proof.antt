-- A `&` to a pointer that may be null is made where one to its value is. Assumes `Logic`.
use mathlib.Core.List.{[], ◌++◌}
use seplogic.Ra.Ura.{Ura}
use base.Fraction.{full_share}
use base.Fml.{Incl-trans}
use contract.BorrowLft.{meet_⊑_left}
use types.Logic.{Logic}
use mir.Raw.{raw as bare}
use denote.Pure.{Pure}
use denote.RattleType.{RattleType}
use denote.Memory.{lone}
use denote.RawPtr.{Ptr, block_ptr, null_ptr, lies_at}
use denote.Shares.{Shares-less}
use denote.Sharing.{ShrLaws}
use denote.SharingLaws.{said_shr_laws}
use denote.Param.Laws.{Laws}
use denote.Param.Shared.{copy_shared}
use denote.Struct.Field.{RawPtr-field}
use denote.Struct.Laws.{RawPtr-copy}
use denote.Struct.Lending.{lent_at, lent_at_shr_laws, Lends, Lends-lies, Lends-first, Lends-said, of_Lends}
use Rattle.std.specs.declared.option.Option.{Option}
use Rattle.std.specs.declared.option.Option.TheVariants.{None, Some}
use Rattle.std.specs.declared.alloc.Global.{Global}
use Rattle.std.proofs.alloc.Global.TheLaws as heap_laws
use Rattle.std.specs.contracts.alloc.Global as heap
use Rattle.std.specs.contracts.impls.GlobalAllocator.TheImpl.{ghosts}
use Rattle.optional_box.specs.Held.{is_null, owned, lent}
use Rattle.optional_box.specs.contracts.held.Held as C
use Rattle.optional_box.proofs.held.Held.TheLaw.Statement.{statement}

null_Pure : (p : Ptr) → Pure (is_null p)
null_Pure null_ptr = tt
null_Pure (block_ptr b o) = tt

module _ (T : RattleType) (L : Laws T) where
  laws : (p : Ptr) (v : Option T.Denot) → ShrLaws (lent T p v)
  laws p None = said_shr_laws (is_null p) (null_Pure p)
  laws p (Some x) = lent_at_shr_laws T L.shr_laws p x

  module _ {M : Type 1} {𝓤 : Ura M} (𝓛 : Logic 𝓤) where
    lends : (a : Global) (p : Ptr) (v : Option T.Denot) → Lends 𝓛 (owned T a p v) (lent T p v) (C.the_row T).lives
    lends a p None = Lends-said 𝓛 (is_null p) (null_Pure p) (C.the_row T).lives
    lends a p (Some x) =
        let l = (C.the_row T).lives in
        Lends-first 𝓛 (lies_at T full_share p x) (ghosts.dealloc_token a (bare (lone T.mir)) p) (lent_at T p x) l
        (Lends-lies 𝓛 T l p x (Shares-less 𝓛 T T.lives l (Incl-trans (meet_⊑_left (T.lives ++ []) _) (meet_⊑_left T.lives [])) (L.shares 𝓛) x))

pub shares : (T : RattleType) (L : Laws T) → statement T L
shares T L = of_Lends (C.struct T) (C.the_codes T.Denot T.coded heap.the_row.coded) (C.the_heap T) (C.the_lent T) (λ d p. laws T L d.at d.value) (copy_shared RawPtr-field RawPtr-copy, (heap_laws.the_field_shared, tt)) (λ M 𝓤 𝓛 d p. lends T L 𝓛 d.alloc d.at d.value)
