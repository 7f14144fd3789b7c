use Rattle.std.proofs.Common.{◌≡◌, ℕ, Option, Some, None, option_map, refl, sym, ◌∙◌, rules}
use Rattle.std.specs.Str.{chars}
use Rattle.std.proofs.lemmas.Str.{Chars-gives, encodes-chars}
use Rattle.std.proofs.iter.TextItems.{spells}
use Rattle.std.proofs.lemmas.Iterator.{YieldsList}
use Rattle.std.proofs.lemmas.Iterator.Consumers.{nth_from_yields_List}
use Rattle.world_text.proofs.text.Text.nth.Goals as goal

mapped : (o : Option ℕ) → option_map (λ x. x) o ≡ o
mapped None = refl
mapped (Some x) = refl

pub returns : goal.returns
returns c =
    let text = c.as_str.result.now in
    let same : text ≡ c.args.self.now = search rules in
    let list : YieldsList spells (λ x. x) c.chars.result (chars text) = record { runs = Chars-gives (chars text) c.chars.result (encodes-chars text c.as_str.utf8 ∙ sym c.chars.ensures.rest) } in
    sym (mapped c.nth.result) ∙ nth_from_yields_List c.nth.result c.nth.new.self c.args.i c.nth.ensures.ran list ∙ rw same refl
