use Rattle.wasm_soundness.proofs.Plain as plain
use Rattle.wasm_soundness.proofs.Blocks as entering
use Rattle.wasm_soundness.proofs.Branches as branches
use Rattle.wasm_soundness.proofs.Calls as calling
use Rattle.wasm_soundness.proofs.Ends as ends
use Rattle.wasm_soundness.proofs.laws.typing_is_kept.Goals as goal

pub returns-clause-invoked : goal.returns-clause-invoked
returns-clause-invoked c = λ base program func thread typed invoked params result. ends.begins_typed program func thread typed invoked params result

pub returns-clause-leaving : goal.returns-clause-leaving
returns-clause-leaving c = λ base thread after p e. ends.kept_leaving thread after p e

pub returns-clause-frames : goal.returns-clause-frames
returns-clause-frames c = λ base thread results held below rest levels p e f. ends.at_frame_end thread results held below rest levels p e f

pub returns-clause-levels : goal.returns-clause-levels
returns-clause-levels c = λ base thread p. ends.few_levels thread p

pub returns-clause-branching : goal.returns-clause-branching
returns-clause-branching c = λ base thread to p. branches.br_on thread to p

pub returns-clause-conditions : goal.returns-clause-conditions
returns-clause-conditions c = λ base thread to p. let r = branches.br_if_on thread to p in (r.0, r.1, r.2, (r.3, r.4))

pub returns-clause-tables : goal.returns-clause-tables
returns-clause-tables c = λ base thread several last p. branches.br_table_on thread several last p

pub returns-clause-returning : goal.returns-clause-returning
returns-clause-returning c = λ base thread p. branches.return_on thread p

pub returns-clause-blocks : goal.returns-clause-blocks
returns-clause-blocks c = λ base thread result body p. entering.enters_block thread result body p

pub returns-clause-loops : goal.returns-clause-loops
returns-clause-loops c = λ base thread result body p. entering.enters_loop thread result body p

pub returns-clause-choices : goal.returns-clause-choices
returns-clause-choices c = λ base thread result first second p. entering.enters_if thread result first second p

pub returns-clause-calls : goal.returns-clause-calls
returns-clause-calls c = λ base thread program func typed p. calling.call_on thread program func typed p

pub returns-clause-indirect : goal.returns-clause-indirect
returns-clause-indirect c = λ base thread program held index typed stored p. calling.call_indirect_on thread program held index typed stored p

pub returns-clause-entries : goal.returns-clause-entries
returns-clause-entries c = λ base program held entry func typed stored e. calling.table_names program held entry func typed stored e

pub returns-clause-constants : goal.returns-clause-constants
returns-clause-constants c = λ base thread number. (λ p. plain.offers_i32_const thread p, λ p. plain.offers_i64_const thread p)

pub returns-clause-numbers : goal.returns-clause-numbers
returns-clause-numbers c = λ base thread op p. plain.offers_numeric thread op p

pub returns-clause-operands : goal.returns-clause-operands
returns-clause-operands c = λ base thread. (λ p. plain.nop_on thread p, λ p. plain.offers_drop thread p, λ p. plain.offers_select thread p)

pub returns-clause-locals : goal.returns-clause-locals
returns-clause-locals c = λ base thread local. (λ p. plain.offers_local_get thread local p, λ p. plain.sets_local thread local p, λ p. plain.tees_local thread local p)

pub returns-clause-globals : goal.returns-clause-globals
returns-clause-globals c = λ base thread global held stored. (λ p. plain.offers_global_get thread global held stored p, λ p. plain.offers_global_set thread global held stored p)

pub returns-clause-addresses : goal.returns-clause-addresses
returns-clause-addresses c = λ base thread op align offset. (λ p. plain.offers_load thread op align offset p, λ p. plain.offers_store thread op align offset p)

pub returns-clause-growths : goal.returns-clause-growths
returns-clause-growths c = λ base thread. (λ p. plain.offers_memory_size thread p, λ p. plain.offers_memory_grow thread p)

pub returns-clause-floats : goal.returns-clause-floats
returns-clause-floats c = λ base thread op align offset bytes. (λ p. plain.no_float_memory thread op align offset p, λ p. plain.no_float_const thread bytes p, λ p. plain.no_float_plain thread op p)
