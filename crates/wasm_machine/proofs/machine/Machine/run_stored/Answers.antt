use Rattle.std.proofs.Common.{ℕ, ◌-◌, sym, subst, arith}
use Rattle.wasm_link.specs.Kept.{link_view}
use Rattle.wasm_link.specs.Linking.{first_store}
use Rattle.wasm_link.specs.Callee.{store_view}
use Rattle.wasm_machine.specs.Machine.{program_of}
use Rattle.wasm_machine.proofs.Invoked.{Came, not_finished, main_alone, start_stopped, behind_start}
use Rattle.wasm_machine.proofs.machine.Machine.run_stored.Goals as goal

pub returns-in_default-clause-runs : goal.returns-in_default-clause-runs
returns-in_default-clause-runs g c =
    let linked = c.args.linked.now in
    let program = program_of linked in
    let whole = (link_view linked).whole in
    let store = store_view c.args.stored.now in
    let came = subst (λ (main : ℕ). Came program g.H.Host.answers main store c.args.host.now c.args.fuel c.invoke.result (store_view c.invoke.new.stored) c.invoke.new.host) c.main-main.ensures.main c.invoke.ensures.ends in
    main_alone program g.H.Host.answers (link_view linked).main whole.start (first_store whole) store (store_view c.invoke.new.stored) c.args.host.now c.invoke.new.host c.args.fuel c.invoke.result (sym c.in_default.ensures.start) c.requires.first came

pub returns-in-Finished-clause-runs : goal.returns-in-Finished-clause-runs
returns-in-Finished-clause-runs g c =
    let linked = c.args.linked.now in
    let H = g.H.Host.answers in
    let program = program_of linked in
    let whole = (link_view linked).whole in
    let store = store_view c.args.stored.now in
    let between = store_view c.invoke-2.new.stored in
    let kept = store_view c.invoke-in-Finished.new.stored in
    let rest = c.args.fuel - c.in-Finished.used in
    let after = subst (λ (main : ℕ). Came program H main between c.invoke-2.new.host rest c.invoke-in-Finished.result kept c.invoke-in-Finished.new.host) c.main-main.ensures.main c.invoke-in-Finished.ensures.ends in
    behind_start program H (link_view linked).main whole.start c.in-Some.start c.in-Finished.used (first_store whole) store between kept c.args.host.now c.invoke-2.new.host c.invoke-in-Finished.new.host c.args.fuel
    c.invoke-in-Finished.result c.behind.result (sym c.in-Some.ensures.start) c.requires.first c.behind.ensures c.in-Finished.ensures.ends after

pub returns-in_default-invoke-clause-runs : goal.returns-in_default-invoke-clause-runs
returns-in_default-invoke-clause-runs g c =
    let linked = c.args.linked.now in
    let program = program_of linked in
    let whole = (link_view linked).whole in
    let store = store_view c.args.stored.now in
    start_stopped program g.H.Host.answers (link_view linked).main whole.start c.in-Some.start (first_store whole) store (store_view c.invoke-2.new.stored) c.args.host.now c.invoke-2.new.host c.args.fuel c.invoke-2.result
    (sym c.in-Some.ensures.start) c.requires.first (not_finished c.invoke-2.result c.in_default-invoke.not-Finished) c.invoke-2.ensures.ends

pub invoke-requires-in-Finished-clause-room : goal.invoke-requires-in-Finished-clause-room
invoke-requires-in-Finished-clause-room g c = λ func call type known. omega (arith, c.requires.room func call type known, c.in-Finished.ensures.capacity)
