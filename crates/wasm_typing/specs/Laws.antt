-- Laws of the typing of instructions.
use Rattle.std.specs.Prelude.{◌≡◌, List, ◌++◌, Option}
use Rattle.wasm_values.specs.Syntax.{Op, Ops, no_ops, next}
use Rattle.wasm_values.specs.declared.types.ValType.{ValType}
use Rattle.wasm_typing.specs.Context.{Context}
use Rattle.wasm_typing.specs.Typing.{TypedOp, Typed}

-- Instructions, and others behind them.
abbrev pub joined : Ops → Ops → Ops
joined no_ops later = later
joined (next op ops) later = next op (joined ops later)

-- Typed instructions may be cut at any place into two typed parts that meet.
abbrev pub MayBeCut : Type 0
MayBeCut = (cx : Context) (labels : List (Option ValType)) (first later : Ops) (from to : List ValType)
    → Typed cx labels (joined first later) from to
    → (meet : List ValType) × Typed cx labels first from meet × Typed cx labels later meet to

-- Two typed parts that meet may be joined.
abbrev pub MayBeJoined : Type 0
MayBeJoined =
    (cx : Context) (labels : List (Option ValType)) (first later : Ops) (from meet to : List ValType)
    → Typed cx labels first from meet → Typed cx labels later meet to
    → Typed cx labels (joined first later) from to

-- Types may be added below, at both ends.
abbrev pub MayStandHigher : Type 0
MayStandHigher = (cx : Context) (labels : List (Option ValType)) (ops : Ops) (from to below : List ValType)
    → Typed cx labels ops from to → Typed cx labels ops (from ++ below) (to ++ below)

-- Where one instruction and the rest are typed, there is a typing of the one, with types below that it leaves
-- as they are, from where the
-- rest goes on.
abbrev pub BeginsTyped : Type 0
BeginsTyped = (cx : Context) (labels : List (Option ValType)) (op : Op) (ops : Ops) (from to : List ValType)
    → Typed cx labels (next op ops) from to
    → (ins outs below : List ValType)
    × (from ≡ ins ++ below) × TypedOp cx labels op ins outs × Typed cx labels ops (outs ++ below) to
