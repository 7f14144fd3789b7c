use Rattle.std.proofs.Common.{◌≡◌, ℕ, List, [], ◌∷◌, ◌++◌, refl, sym, ap, ◌∙◌, rules}
use Rattle.std.specs.Prelude.{encode_utf8, String, string_bytes}
use Rattle.std.specs.Char.{IsScalar}
use Rattle.std.specs.declared.alloc.Global.{Global}
use Rattle.std.specs.Str.{chars}
use Rattle.std.proofs.lemmas.List.{append-nil}
use Rattle.std.proofs.lemmas.Str.{chars-append, chars-nil, chars_past_char, IsUtf8-encode, IsUtf8-string_bytes}
use Rattle.world_text.proofs.text.Text.push.Goals as goal

one_more : (text : String Global) (entry : ℕ) → IsScalar entry → chars (string_bytes text ++ encode_utf8 entry) ≡ chars (string_bytes text) ++ entry ∷ []
one_more text entry scalar =
    chars-append (string_bytes text) (encode_utf8 entry) (IsUtf8-string_bytes text)
    ∙ ap (λ (cs : List ℕ). chars (string_bytes text) ++ cs) (chars_past_char (encode_utf8 entry) [] entry (IsUtf8-encode entry scalar) (sym (append-nil (encode_utf8 entry))) ∙ ap (λ (cs : List ℕ). entry ∷ cs) chars-nil)

pub returns-clause-entries : goal.returns-clause-entries
returns-clause-entries c =
    let before : string_bytes c.self.inside.text ≡ c.args.self.now = search rules in
    ap chars c.in_ok-push.ensures.bytes ∙ one_more c.self.inside.text c.args.entry c.ranges.entry.0 ∙ rw before refl
