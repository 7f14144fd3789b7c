use Rattle.std.proofs.Common.{rules, arith, ap, sym, ◌∙◌}
use Rattle.wasm_typing.proofs.Stacks.{off_none, off_bare}
use Rattle.wasm_typing.proofs.Entries.{bare, off_top}
use Rattle.wasm_typing.proofs.operands.Operands.pop.Goals as goal

pub returns-then-self : goal.returns-then-self
returns-then-self c =
    let s = c.args.self.now in
    off_bare s.0 s.1 s.2 (ap (λ z. z.0) (sym c.self.view_is) ∙ c.if-self.true) (ap (λ z. z.1) (sym c.self.view_is) ∙ bare c.self.inside.entries.items c.self.inside.base (search rules))

pub returns-then-len-self : goal.returns-then-len-self
returns-then-len-self c =
    let s = c.args.self.now in
    off_none s.0 s.1 s.2 (ap (λ z. z.0) (sym c.self.view_is) ∙ c.if-self.false) (ap (λ z. z.1) (sym c.self.view_is) ∙ bare c.self.inside.entries.items c.self.inside.base (search rules))

pub returns : goal.returns
returns c = rw (← c.self.view_is) (off_top c.self.inside.entries.items c.pop.new.self.items c.self.inside.base c.self.inside.is_open c.pop.result c.self.invariant (search rules) c.pop.ensures.items (λ e. grind (arith, c.pop.ensures.variant, e)))
