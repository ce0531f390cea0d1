-- The text is written out; it is computed that the definition's is that.
use Rattle.std.proofs.Common.{◌≡◌, ◌∙◌, ap}
use Rattle.std.specs.Prelude.{encode_utf8_all}
use Rattle.std.specs.Fmt.{digits}
use Rattle.lt_transport_definitions.specs.LawTexts.{laws_text}
use Rattle.lt_gen.proofs.laws.laws_text.Goals as goal

pub returns : goal.returns
unfolding digits
returns c =
    let text : c.signs.new.self ≡ laws_text = rw c.new-text.ensures at c.in_ok-signs.ensures in
    ap (λ v. v.items) c.into_bytes.ensures.value ∙ c.finish.ensures ∙ ap encode_utf8_all text
