use Rattle.std.proofs.Common.{◌∙◌, ap, sym}
use Rattle.std.specs.Str.{encode_utf8_all}
use Rattle.std.proofs.lemmas.Str.{encodes-chars, IsUtf8-string_bytes}
use Rattle.lt_syntax.proofs.text.Text.finish.Goals as goal

pub returns : goal.returns
returns c = sym (encodes-chars _ (IsUtf8-string_bytes c.self.inside.text)) ∙ ap encode_utf8_all c.self.view_is
