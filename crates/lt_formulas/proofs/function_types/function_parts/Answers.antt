use Rattle.std.proofs.Common.{◌≡◌, [], ◌∷◌, refl}
use Rattle.lt_types.proofs.Ascii.{word-is-name, word-chars}
use Rattle.lt_formulas.proofs.FunctionParts.{any_function, no-parts}
use Rattle.lt_formulas.proofs.function_types.function_parts.Goals as goal

pub word-requires : goal.word-requires
word-requires c = word-is-name 97 [] refl

pub word-requires-2 : goal.word-requires-2
word-requires-2 c = word-is-name 120 [] refl

pub returns-in_default : goal.returns-in_default
returns-in_default c =
    let pattern : c.in_ok-pattern.pattern ≡ any_function =
    cc (c.in_ok-pattern.ensures, c.in_ok-copy.ensures, c.in_ok-copy-2.ensures, c.in_ok-from.ensures, c.in_ok-to.ensures, c.in_ok-word.ensures, c.in_ok-word-2.ensures, word-chars (97 ∷ []) refl, word-chars (120 ∷ []) refl) in
    no-parts c.args.ty.now (rw pattern at (rw c.in_default.is at c.in_ok-map.ensures))
