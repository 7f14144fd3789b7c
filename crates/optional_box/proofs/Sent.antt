-- A `Held` may cross threads where its value may.
use mir.Raw.{raw}
use base.Fml.{Lft}
use base.Shift.{Keyless}
use denote.RattleType.{RattleType}
use denote.Memory.{lone}
use denote.RawPtr.{Ptr, block_ptr, null_ptr}
use denote.Builtin.{RawPtr}
use denote.Struct.Struct.{exits_of}
use denote.Struct.Owning.{shape, fields, to}
use denote.Param.Send.{IsSend, IsSync, AllSend, owning_send, struct_send, struct_sync, sendable}
use Rattle.std.specs.declared.option.Option.{Option}
use Rattle.std.specs.declared.option.Option.TheVariants.{None, Some}
use Rattle.std.specs.declared.alloc.Global.{Global}
use Rattle.std.proofs.alloc.Global.TheSendSync as heap
use Rattle.std.proofs.Crossing.{frees}
use Rattle.std_alloc.proofs.SendSync.{lies, quiet, seen}
use Rattle.optional_box.specs.Held.{is_null, owned, lent}
use Rattle.optional_box.specs.contracts.held.Held as C

ps : IsSend RawPtr
ps = search sendable

py : IsSync RawPtr
py = search sendable

null_keyless : (p : Ptr) → Keyless (is_null p)
null_keyless null_ptr = tt
null_keyless (block_ptr b o) = tt

module _ (T : RattleType) where
  owned_keyless : IsSend T → (a : Global) (p : Ptr) (v : Option T.Denot) → Keyless (owned T a p v)
  owned_keyless s a p None = null_keyless p
  owned_keyless s a p (Some x) = (lies T s p x, frees.frees a (raw (lone T.mir)) p)

  lent_keyless : IsSync T → (p : Ptr) (v : Option T.Denot) (κ : Lft) → Keyless (lent T p v κ)
  lent_keyless y p None κ = null_keyless p
  lent_keyless y p (Some x) κ = seen T y p x κ

  pub held_send : IsSend T → IsSend (C.the_row T)
  held_send s = let O = C.the_type T in let all : AllSend (fields O) = (ps, (heap.the_field_send, tt)) in owning_send O all (λ d. owned_keyless s d.alloc d.at d.value)
      (λ k. quiet (to O) (exits_of k (fields O)) ((struct_send (shape O) all).leaving k))

  pub held_sync : IsSync T → IsSync (C.the_row T)
  held_sync y = record { shared = λ d b o κ. ((struct_sync (shape (C.the_type T)) (py, (heap.the_field_sync, tt))).shared (to (C.the_type T) d) b o κ, lent_keyless y d.at d.value κ) }
