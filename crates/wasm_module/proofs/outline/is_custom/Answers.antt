use Rattle.std.proofs.Common.{◌≡◌, ℕ, List, refl, ap, rules}
use Rattle.std.specs.Str.{IsUtf8}
use Rattle.wasm_module.proofs.Ordered.{custom_found, custom_text, custom_none}
use Rattle.wasm_module.proofs.outline.is_custom.Goals as goal

pub returns-in_default : goal.returns-in_default
returns-in_default c =
    let start : c.over-cursor.result.0 ≡ c.args.content.now = ap (λ (z : List ℕ × ℕ). z.0) c.over-cursor.ensures in
    (λ never. absurd (cc), λ custom. absurd (custom_none c.over-cursor.result.0 c.args.content.now start (c.in_default.ensures.malformed c.in_default.ensures.cause) custom))

pub returns-in-Err : goal.returns-in-Err
returns-in-Err c =
    let start : c.over-cursor.result.0 ≡ c.args.content.now = ap (λ (z : List ℕ × ℕ). z.0) c.over-cursor.ensures in
    (λ never. absurd (cc), λ custom. absurd (c.in-Err.ensures.cases.0 (custom_text c.over-cursor.result.0 c.args.content.now c.in-Ok.text.now c.counted.new.cursor.0 start c.in-Ok.ensures.only custom)))

pub returns-in-Ok-from_utf8 : goal.returns-in-Ok-from_utf8
returns-in-Ok-from_utf8 c =
    let start : c.over-cursor.result.0 ≡ c.args.content.now = ap (λ (z : List ℕ × ℕ). z.0) c.over-cursor.ensures in
    let utf : IsUtf8 c.in-Ok.text.now = search rules in
    (λ _. custom_found c.over-cursor.result.0 c.args.content.now c.in-Ok.text.now c.counted.new.cursor.0 start c.in-Ok.ensures.found utf, λ _. refl)
