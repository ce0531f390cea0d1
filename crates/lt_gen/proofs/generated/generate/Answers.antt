-- What stands before the transports is written out; it is computed that the definition's base is that.
use Rattle.std.proofs.Common.{◌≡◌, ◌++◌, ◌∙◌, ap}
use Rattle.std.specs.Prelude.{encode_utf8_all, codes}
use Rattle.std.specs.List.{flat_map, range_with_len}
use Rattle.std.specs.Fmt.{digits}
use Rattle.lt_transport_definitions.specs.GeneratedTexts.{generated_base, generated_text, generated_transport, small_base}
use Rattle.lt_gen.proofs.generated.generate.Goals as goal

pub returns : goal.returns
unfolding digits
returns c =
    let base : c.signs.new.self ≡ codes "theory 1;\n" ++ (small_base ++ generated_base) = rw c.new-text.ensures at c.in_ok-signs.ensures in
    let text : c.add_transports.new.text ≡ generated_text c.args.n = c.in_ok-add_transports.ensures ∙ ap (λ z. z ++ flat_map generated_transport (range_with_len 1 c.args.n)) base in
    ap (λ v. v.items) c.into_bytes.ensures.value ∙ c.finish.ensures ∙ ap encode_utf8_all text
