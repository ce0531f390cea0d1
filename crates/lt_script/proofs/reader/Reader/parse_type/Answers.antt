-- What is left is of the same text.
use Rattle.std.proofs.Common.{◌∙◌, ap, sym, length, []}
use Rattle.lt_texts.specs.Texts.{Left}
use Rattle.lt_texts.specs.Writing.{type_lexemes}
use Rattle.lt_texts.proofs.Readings.{reads_source}
use Rattle.lt_script.proofs.reader.Reader.parse_type.Goals as goal

pub invariant_of-self : goal.invariant_of-self
invariant_of-self c =
    c.self.invariant
    ∙ sym (ap length (reads_source c.copy-lexer.result (type_lexemes c.in-Ok.ty []) c.read_type.new.lexer c.in-Ok.ensures.ty
    ∙ ap (λ (x : Left). x.source) c.copy-lexer.ensures))
