use Rattle.std.proofs.Common.{◌∙◌, ◌++◌, ap, chars}
use Rattle.std.proofs.lemmas.Str.{chars-append, IsUtf8-string_bytes}
use Rattle.lt_syntax.proofs.text.Text.name.Goals as goal

pub returns : goal.returns
returns c =
    ap chars c.in_ok-push_str.ensures.bytes ∙ chars-append _ c.text.result.now (IsUtf8-string_bytes c.self.inside.text)
    ∙ (λ i. c.self.view_is i ++ c.text.ensures.same i)
