-- The words of built-in types and constants: each is a name, as a text and as characters.
use Rattle.std.proofs.Common.{◌≡◌, ℕ, suc, [], ◌∷◌, true, replicate, refl}
use Rattle.std.specs.Str.{chars}
use Rattle.lt_definitions.specs.Characters.{is_name}
use Rattle.lt_types.proofs.Ascii.{word-chars, word-is-name, letters-are-name, repeated-letter}

pub a-chars : chars (97 ∷ []) ≡ 97 ∷ []
a-chars = word-chars _ refl

pub a-word : is_name (chars (97 ∷ [])) ≡ true
a-word = word-is-name _ _ refl

pub bool-chars : chars (98 ∷ 111 ∷ 111 ∷ 108 ∷ []) ≡ 98 ∷ 111 ∷ 111 ∷ 108 ∷ []
bool-chars = word-chars _ refl

pub bool-word : is_name (chars (98 ∷ 111 ∷ 111 ∷ 108 ∷ [])) ≡ true
bool-word = word-is-name _ _ refl

pub fun-chars : chars (102 ∷ 117 ∷ 110 ∷ []) ≡ 102 ∷ 117 ∷ 110 ∷ []
fun-chars = word-chars _ refl

pub fun-word : is_name (chars (102 ∷ 117 ∷ 110 ∷ [])) ≡ true
fun-word = word-is-name _ _ refl

pub eq-chars : chars (101 ∷ 113 ∷ []) ≡ 101 ∷ 113 ∷ []
eq-chars = word-chars _ refl

pub eq-word : is_name (chars (101 ∷ 113 ∷ [])) ≡ true
eq-word = word-is-name _ _ refl

pub imp-chars : chars (105 ∷ 109 ∷ 112 ∷ []) ≡ 105 ∷ 109 ∷ 112 ∷ []
imp-chars = word-chars _ refl

pub imp-word : is_name (chars (105 ∷ 109 ∷ 112 ∷ [])) ≡ true
imp-word = word-is-name _ _ refl

pub all-chars : chars (97 ∷ 108 ∷ 108 ∷ []) ≡ 97 ∷ 108 ∷ 108 ∷ []
all-chars = word-chars _ refl

pub all-word : is_name (chars (97 ∷ 108 ∷ 108 ∷ [])) ≡ true
all-word = word-is-name _ _ refl

pub eps-chars : chars (101 ∷ 112 ∷ 115 ∷ []) ≡ 101 ∷ 112 ∷ 115 ∷ []
eps-chars = word-chars _ refl

pub eps-word : is_name (chars (101 ∷ 112 ∷ 115 ∷ [])) ≡ true
eps-word = word-is-name _ _ refl

-- a row of x
pub xs-are-name : (n : ℕ) → is_name (replicate (suc n) 120) ≡ true
xs-are-name n = letters-are-name 120 (replicate n 120) (repeated-letter (suc n) 120 refl)
