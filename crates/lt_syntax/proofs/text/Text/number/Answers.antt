use Rattle.std.proofs.Common.{◌∙◌, ◌++◌, ap, chars, decimal}
use Rattle.std.proofs.lemmas.Str.{chars-append, IsUtf8-string_bytes}
use Rattle.std.proofs.lemmas.Fmt.{IsAscii-decimal}
use Rattle.lt_syntax.proofs.Ascii.{chars-ascii}
use Rattle.lt_syntax.proofs.text.Text.number.Goals as goal

pub returns : goal.returns
returns c =
    ap chars c.in_ok-write.ensures.bytes ∙ chars-append _ (decimal c.args.n) (IsUtf8-string_bytes c.self.inside.text)
    ∙ (λ i. c.self.view_is i ++ chars-ascii (decimal c.args.n) (IsAscii-decimal c.args.n c.ranges.n.fits) i)
