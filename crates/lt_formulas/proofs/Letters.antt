-- Words of letters as names.
use Rattle.std.proofs.Common.{◌≡◌, ℕ, List, [], ◌∷◌, true, sym}
use Rattle.std.specs.Prelude.{chars}
use Rattle.lt_definitions.specs.Characters.{is_name}
use Rattle.lt_types.proofs.Ascii.{word-is-name, word-chars}
use Rattle.std.proofs.lemmas.Bool.{true≢false}
use Rattle.lt_formulas.specs.Shapes.{is_word}

pub word-is-a-name : (w : List ℕ) → is_word w ≡ true → is_name (chars w) ≡ true
word-is-a-name [] h = absurd (true≢false (sym h))
word-is-a-name (c ∷ cs) h = word-is-name c cs h

pub word-as-characters : (w : List ℕ) → is_word w ≡ true → chars w ≡ w
word-as-characters [] h = absurd (true≢false (sym h))
word-as-characters (c ∷ cs) h = word-chars (c ∷ cs) h
