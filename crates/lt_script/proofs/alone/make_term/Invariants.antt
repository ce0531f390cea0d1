use Rattle.std.proofs.Common.{◌≡◌, length, reverse, [], ◌∷◌}
use Rattle.lt_texts.specs.Texts.{lexed}
use Rattle.lt_script.specs.declared.symbol.Symbol.TheVariants.{Term, Brackets}
use Rattle.lt_commands.specs.Views.{made_of}
use Rattle.lt_script.specs.TermsAlone.{IsOpening}
use Rattle.lt_script.proofs.Directly.{CameTo}
use Rattle.lt_script.proofs.alone.make_term.Given as goal

abbrev pub invariant-words : goal.invariant-words
invariant-words l =
    CameTo (Term ∷ []) [] l.fn.lexer l.lexer (reverse l.stack.items) (made_of l.maker) l.places.items
    × (reverse l.stack.items ≡ Brackets ∷ [] → IsOpening (lexed l.lexer))

abbrev pub decreases-words : goal.decreases-words
decreases-words l = length l.lexer.ahead
