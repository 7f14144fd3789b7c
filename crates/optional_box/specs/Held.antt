-- What a `Held` owns, and what a `&` to one holds.
--     owned R a p v      at no value, p is null. Else p points to a block with the value, which the allocator
-- a frees
--     lent R p v κ       at no value, p is null. Else the value is shared for κ
use base.Fml.{Lft, Fml, ftrue, ffalse}
use denote.RattleType.{RattleType}
use denote.RawPtr.{Ptr, block_ptr, null_ptr}
use denote.Struct.Lending.{lent_at}
use Rattle.std.specs.declared.option.Option.{Option}
use Rattle.std.specs.declared.option.Option.TheVariants.{None, Some}
use Rattle.std.specs.declared.alloc.Global.{Global}
use Rattle.std.specs.contracts.impls.GlobalAllocator.TheImpl.{ghosts}
use Rattle.std_alloc.specs.Box.Ownership.{box_owns}

abbrev pub is_null : Ptr → Fml
is_null null_ptr = ftrue
is_null (block_ptr b o) = ffalse

module _ (R : RattleType) where
  abbrev pub owned : Global → Ptr → Option R.Denot → Fml
  owned a p None = is_null p
  owned a p (Some x) = box_owns (ghosts.dealloc_token a) R p x

  abbrev pub lent : Ptr → Option R.Denot → Lft → Fml
  lent p None κ = is_null p
  lent p (Some x) κ = lent_at R p x κ
