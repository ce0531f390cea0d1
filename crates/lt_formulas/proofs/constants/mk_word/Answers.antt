use Rattle.std.proofs.Common.{ℕ, List, [], ◌∷◌, ◌≡◌, ◌∙◌, true, sym}
use Rattle.lt_nameless.specs.Nameless.{nameless_constant}
use Rattle.lt_formulas.proofs.Letters.{word-is-a-name, word-as-characters}
use Rattle.lt_formulas.proofs.constants.mk_word.Goals as goal

pub word-requires : goal.word-requires
word-requires g c = word-is-a-name c.args.word.now c.requires

pub returns : goal.returns
returns g c =
    let name = c.in_ok-name.ensures ∙ word-as-characters c.args.word.now c.requires in
    record {
      kept = c.in_ok-made.ensures.kept;
      made = c.in_ok-made.ensures.ok.within;
      is = c.in_ok-made.ensures.ok.stands ∙ (λ i. nameless_constant (name i) c.args.types);
    }
