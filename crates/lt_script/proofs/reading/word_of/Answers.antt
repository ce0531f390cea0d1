-- What is spelt as a name is one.
use Rattle.std.proofs.Common.{◌∙◌, ap, List, ℕ}
use Rattle.std.specs.Prelude.{chars}
use Rattle.lt_texts.specs.Slices.{bytes_of}
use Rattle.lt_definitions.specs.Characters.{is_name}
use Rattle.lt_script.proofs.Names.{spelt_name}
use Rattle.lt_script.proofs.reading.word_of.Goals as goal

pub name-requires : goal.name-requires
name-requires c =
    ap (λ (z : List ℕ). is_name (chars z)) c.text.ensures
    ∙ spelt_name c.args.token.kind (chars (bytes_of c.args.lexer.now.source c.args.token)) c.in-Name.is c.requires.spelt
